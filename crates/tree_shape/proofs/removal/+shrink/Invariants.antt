use Rattle.tree_shape.specs.Tree.{stored_height}
use Rattle.tree_shape.proofs.removal.+shrink.Given as goal

abbrev pub decreases-shrink : goal.decreases-shrink
decreases-shrink l = stored_height l.nodes.now l.child
