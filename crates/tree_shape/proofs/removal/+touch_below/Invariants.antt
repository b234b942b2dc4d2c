use Rattle.tree_shape.specs.Tree.{stored_height}
use Rattle.tree_shape.proofs.removal.+touch_below.Given as goal

abbrev pub decreases-touch_below : goal.decreases-touch_below
decreases-touch_below l = stored_height l.nodes.now l.child
