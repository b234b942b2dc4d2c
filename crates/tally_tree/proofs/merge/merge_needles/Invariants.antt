use Rattle.std.proofs.Common.{◌≡◌, ◌+◌, ◌++◌, ◌≤◌, length}
use Rattle.std.specs.Prelude.{vec_capacity}
use Rattle.tally_tree.specs.Needles.{merged_needles}
use Rattle.tally_tree.proofs.merge.merge_needles.Given as goal

abbrev pub decreases-loop-n : goal.decreases-loop-n
decreases-loop-n l = length l.a + length l.b

abbrev pub invariant-loop-n : goal.invariant-loop-n
invariant-loop-n l = (l.out.items ++ merged_needles l.a l.b ≡ l.fn.out.items ++ merged_needles l.fn.a l.fn.b) × (length l.out.items + length (merged_needles l.a l.b) ≤ vec_capacity l.out)
