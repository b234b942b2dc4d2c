use Rattle.std.proofs.Common.{take}
use Rattle.knitout_reader.specs.HeadLines.{HasHeadLines}
use Rattle.knitout_reader.proofs.head.read_head.Given as goal

abbrev pub invariant-loop-i : goal.invariant-loop-i
invariant-loop-i l = HasHeadLines (take l.i l.lines) l.reader
