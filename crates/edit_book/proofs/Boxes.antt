-- What is said of the tree that a box lends holds of the tree that it keeps.
use Rattle.std.proofs.Common.{◌≡◌, ℕ, List, Option, Some, length, take, ap, subst, sym, ◌∙◌}
use Rattle.std.specs.List.{slice_get}
use Rattle.face_data.specs.declared.face.FaceView.{FaceView}
use Rattle.edit_book.proofs.Rooms.{same_tree}
use Rattle.summary_tree.specs.Leaves.{Leaf, IsRootOf, leaf_line_count, place_of_line}
use Rattle.summary_tree.specs.Trees.{IsSameTree, TreeView}

module _ (kept lent : TreeView) (is : lent ≡ kept) where
  pub leaves_of : lent.leaves ≡ kept.leaves
  leaves_of = ap (λ (t : TreeView). t.leaves) is

  pub count_of : length lent.leaves ≡ length kept.leaves
  count_of = ap length leaves_of

  pub lines_are : leaf_line_count lent.leaves ≡ leaf_line_count kept.leaves
  lines_are = ap leaf_line_count leaves_of

  pub root_of : (view : FaceView) → IsRootOf lent.leaves view → IsRootOf kept.leaves view
  root_of view root = subst (λ (leaves : List Leaf). IsRootOf leaves view) leaves_of root

  pub place_of : (offset : ℕ) (place : Option (ℕ × ℕ)) → place ≡ place_of_line lent.leaves offset → place ≡ place_of_line kept.leaves offset
  place_of offset place told = told ∙ ap (λ (leaves : List Leaf). place_of_line leaves offset) leaves_of

  pub leaf_of : (at : ℕ) (leaf : Leaf) → slice_get lent.leaves at ≡ Some leaf → slice_get kept.leaves at ≡ Some leaf
  leaf_of at leaf there = sym (ap (λ (leaves : List Leaf). slice_get leaves at) leaves_of) ∙ there

  pub before_of : (at before : ℕ) → before ≡ leaf_line_count (take at lent.leaves) → before ≡ leaf_line_count (take at kept.leaves)
  before_of at before told = told ∙ ap (λ (leaves : List Leaf). leaf_line_count (take at leaves)) leaves_of

-- the leaves stay where room is made in what is lent, and it is lent again
pub leaves_again : (kept lent held again : TreeView) → lent ≡ kept → IsSameTree lent held → again ≡ held → again.leaves ≡ kept.leaves
leaves_again kept lent held again is same next = ap (λ (t : TreeView). t.leaves) next ∙ same.leaves ∙ ap (λ (t : TreeView). t.leaves) is

-- what is lent twice is the same
pub same_again : (kept lent again : TreeView) → lent ≡ kept → again ≡ kept → IsSameTree lent again
same_again kept lent again is next = subst (IsSameTree lent) (is ∙ sym next) (same_tree lent)
