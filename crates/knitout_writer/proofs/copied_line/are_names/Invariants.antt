use Rattle.std.proofs.Common.{length}
use Rattle.knitout_writer.specs.Written.{AreSpacedNames}
use Rattle.knitout_writer.proofs.copied_line.are_names.Given as goal

abbrev pub invariant-loop-others : goal.invariant-loop-others
invariant-loop-others l = AreSpacedNames l.rest → AreSpacedNames l.text

abbrev pub decreases-loop-others : goal.decreases-loop-others
decreases-loop-others l = length l.rest
