use Rattle.std.proofs.Common.{◌≡◌, ◌≤◌, ℕ, List, Option, length}
use Rattle.tree_examples.specs.Sums.{sum_at}
use Rattle.tree_examples.proofs.value_tests.sums.lengthen.Given as goal

-- only empty places were put behind the sums that were there
pub record IsLonger (before then : List (Option ℕ)) (i : ℕ) : Type 0 where
  pub more : length before ≤ length then
  pub count : i ≤ length then
  pub same : (k : ℕ) → sum_at then k ≡ sum_at before k

abbrev pub invariant-loop-i : goal.invariant-loop-i
invariant-loop-i l = IsLonger l.initial.values.items l.values.items l._i
