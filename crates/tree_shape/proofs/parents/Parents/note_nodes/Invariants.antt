use Rattle.std.proofs.Common.{◌≡◌, drop, length}
use Rattle.tree_shape.specs.Parents.{parents_of, with_parents, rows_in}
use Rattle.tree_shape.proofs.parents.Parents.note_nodes.Given as goal

abbrev pub invariant-loop-number : goal.invariant-loop-number
invariant-loop-number l = record {
  same : with_parents (parents_of l.self) (rows_in l.number (drop l.number l.nodes)) ≡ with_parents (parents_of l.initial.self) (rows_in 0 l.nodes);
  leaves : length l.self.leaves.items ≡ length l.initial.self.leaves.items;
  inners : length l.self.inners.items ≡ length l.initial.self.inners.items;
}
