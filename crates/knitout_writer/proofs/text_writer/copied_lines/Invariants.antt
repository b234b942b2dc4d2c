use Rattle.std.proofs.Common.{length, ◌-◌}
use Rattle.knitout_writer.proofs.WrittenLines.{AreCopied}
use Rattle.knitout_writer.proofs.text_writer.copied_lines.Given as goal

abbrev pub invariant-loop-len : goal.invariant-loop-len
invariant-loop-len l = AreCopied l.text l.start l.end l.count

abbrev pub decreases-loop-len : goal.decreases-loop-len
decreases-loop-len l = length l.text - l.end
