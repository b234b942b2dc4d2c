use Rattle.std.proofs.Common.{All}
use Rattle.std.specs.List.{slice_range}
use Rattle.script_reader.specs.Reading.{IsTextLine}
use Rattle.script_reader.proofs.text.run_end.Given as goal

abbrev pub invariant-loop-i : goal.invariant-loop-i
invariant-loop-i l = All IsTextLine (slice_range l.lines l.start l.i)
