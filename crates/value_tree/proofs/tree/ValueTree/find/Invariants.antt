use Rattle.tree_shape.specs.View.{height_of_tree}
use Rattle.tree_shape.specs.Values.{leaf_values}
use Rattle.value_tree.specs.Found.{found_in}
use Rattle.value_tree.specs.Walk.{IsWalk}
use Rattle.value_tree.proofs.tree.ValueTree.find.Given as goal

abbrev pub invariant-loop-i : goal.invariant-loop-i
invariant-loop-i g l =
    IsWalk g.S.Values.join g.S.Values.fits g.S.Values.cost g.S.Counts.count (g.S.Values.leaf_at l.self.store) (g.S.Values.node_at l.self.store) l.self.shape.tree
    (found_in g.S.Counts.count (leaf_values (g.S.Values.leaf_at l.self.store) l.self.shape.tree) l.offset) l._i (height_of_tree l.self.shape.tree) l.walk
