use Rattle.std.proofs.Common.{◌≡◌, ◌+◌, ◌≤◌, ◌++◌, length}
use Rattle.std.specs.Prelude.{vec_capacity}
use Rattle.tally_tree.specs.Tallies.{AddUp, numbers_added}
use Rattle.tally_tree.proofs.tally.add_each.Given as goal

abbrev pub decreases-loop-a : goal.decreases-loop-a
decreases-loop-a l = length l.a

abbrev pub invariant-loop-a : goal.invariant-loop-a
invariant-loop-a l = (l.out.items ++ numbers_added l.a l.b ≡ l.fn.out.items ++ numbers_added l.fn.a l.fn.b) × AddUp l.a l.b × (length l.out.items + length l.a ≤ vec_capacity l.out)
