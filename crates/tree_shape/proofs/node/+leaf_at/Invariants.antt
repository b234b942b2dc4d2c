use Rattle.tree_shape.specs.Tree.{stored_height}
use Rattle.tree_shape.proofs.node.+leaf_at.Given as goal

abbrev pub decreases-leaf_at : goal.decreases-leaf_at
decreases-leaf_at l = stored_height l.nodes.now l.child
