use Rattle.std.proofs.Common.{◌≡◌, ◌≤◌, ℕ, List, Option, length}
use Rattle.tally_tree.specs.declared.tally.Tally.{Tally}
use Rattle.tally_tree.specs.Leaves.{tally_at}
use Rattle.tally_tree.proofs.store.lengthen.Given as goal

-- only empty places were put behind the tallies that were there
pub record IsLonger (before now : List (Option Tally)) (i : ℕ) : Type 0 where
  pub more : length before ≤ length now
  pub count : i ≤ length now
  pub same : (k : ℕ) → tally_at now k ≡ tally_at before k

abbrev pub invariant-loop-i : goal.invariant-loop-i
invariant-loop-i l = IsLonger l.initial.tallies.items l.tallies.items l._i
