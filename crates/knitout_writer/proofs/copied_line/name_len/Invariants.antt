use Rattle.std.proofs.Common.{◌≤◌, ◌-◌, length, take, All}
use Rattle.knitout_writer.specs.Written.{IsCopiedNameByte}
use Rattle.knitout_writer.proofs.copied_line.name_len.Given as goal

abbrev pub invariant-loop-len : goal.invariant-loop-len
invariant-loop-len l = (l.len ≤ length l.text) × All IsCopiedNameByte (take l.len l.text)

abbrev pub decreases-loop-len : goal.decreases-loop-len
decreases-loop-len l = length l.text - l.len
