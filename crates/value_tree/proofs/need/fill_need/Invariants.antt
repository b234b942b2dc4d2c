use Rattle.tree_shape.specs.Composing.{IsFinding}
use Rattle.value_tree.specs.Need.{leaf_rooms, node_rooms}
use Rattle.value_tree.proofs.need.fill_need.Given as goal

abbrev pub invariant-loop-i : goal.invariant-loop-i
invariant-loop-i g l = IsFinding g.S.Values.after (leaf_rooms g.S.Values.room (g.S.Values.leaf_at l.store) l.new) (node_rooms g.S.Values.room (g.S.Values.node_at l.store)) l.dirty (g.S.Values.rooms l.need) l.i
