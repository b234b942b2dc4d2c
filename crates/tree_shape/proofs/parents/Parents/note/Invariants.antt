use Rattle.std.proofs.Common.{◌≡◌, drop, length}
use Rattle.tree_shape.specs.Parents.{parents_of, with_parents}
use Rattle.tree_shape.proofs.parents.Parents.note.Given as goal

abbrev pub invariant-loop-i : goal.invariant-loop-i
invariant-loop-i l = record {
  same : with_parents (parents_of l.self) (drop l.i l.dirty) ≡ with_parents (parents_of l.initial.self) l.dirty;
  leaves : length l.self.leaves.items ≡ length l.initial.self.leaves.items;
  inners : length l.self.inners.items ≡ length l.initial.self.inners.items;
}
