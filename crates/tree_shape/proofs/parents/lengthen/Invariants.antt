use Rattle.std.proofs.Common.{◌≡◌, ℕ, ◌≤◌, length, Some}
use Rattle.std.specs.List.{slice_get}
use Rattle.tree_shape.proofs.parents.lengthen.Given as goal

abbrev pub invariant-loop-i : goal.invariant-loop-i
invariant-loop-i l = record {
  many : l._i ≤ length l.list.items;
  more : length l.initial.list.items ≤ length l.list.items;
  same : (k n : ℕ) → slice_get l.initial.list.items k ≡ Some n → slice_get l.list.items k ≡ Some n;
}
