use Rattle.std.proofs.Common.{◌≡◌, ℕ, Some}
use Rattle.std.specs.List.{slice_get}
use Rattle.tree_shape.specs.Tree.{Tree, leaves}
use Rattle.tree_shape.specs.Parents.{parents_of, IsWholeTree, IsClimb}
use Rattle.tree_shape.proofs.climbing.climbed.Given as goal

abbrev pub invariant-loop-i : goal.invariant-loop-i
invariant-loop-i l = record {
  climb : (whole : Tree) (at : ℕ) → IsWholeTree l.nodes (parents_of l.parents) l.root whole → slice_get (leaves whole) at ≡ Some l.number → IsClimb whole l.number l._i l.climb;
}
