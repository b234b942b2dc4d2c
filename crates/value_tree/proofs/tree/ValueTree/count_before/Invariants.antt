use Rattle.tree_shape.specs.View.{height_of_tree}
use Rattle.tree_shape.specs.Values.{leaf_values}
use Rattle.std.proofs.Common.{take}
use Rattle.value_tree.specs.Found.{total_count}
use Rattle.value_tree.specs.Walk.{IsDescent}
use Rattle.value_tree.proofs.tree.ValueTree.count_before.Given as goal

abbrev pub invariant-loop-i : goal.invariant-loop-i
invariant-loop-i g l =
    IsDescent g.S.Values.join g.S.Values.fits g.S.Values.cost g.S.Counts.count (g.S.Values.leaf_at l.self.store) (g.S.Values.node_at l.self.store) l.self.shape.tree
    (total_count g.S.Counts.count (take l.at (leaf_values (g.S.Values.leaf_at l.self.store) l.self.shape.tree))) l._i (height_of_tree l.self.shape.tree) l.descent
