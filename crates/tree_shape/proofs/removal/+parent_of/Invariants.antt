use Rattle.tree_shape.specs.declared.node.Child.TheVariants.{Inner}
use Rattle.tree_shape.specs.Tree.{stored_height}
use Rattle.tree_shape.proofs.removal.+parent_of.Given as goal

abbrev pub decreases-parent_of : goal.decreases-parent_of
decreases-parent_of l = stored_height l.nodes.now (Inner l.inner)
