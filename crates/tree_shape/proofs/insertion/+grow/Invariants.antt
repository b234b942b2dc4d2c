use Rattle.tree_shape.specs.Tree.{stored_height}
use Rattle.tree_shape.proofs.insertion.+grow.Given as goal

abbrev pub decreases-grow : goal.decreases-grow
decreases-grow l = stored_height l.nodes.now l.child
