-- The inner node above each leaf and each inner node, by their numbers.
use Rattle.std.specs.Prelude.{◌≡◌, ℕ, suc, ◌<◌, ◌≤◌, ◌⊎◌, List, [], ◌∷◌, length, Option, Some, slice_set}
use Rattle.std.specs.List.{slice_get}
use Rattle.tree_shape.specs.declared.climbing.Climb.{Climb}
use Rattle.tree_shape.specs.declared.dirty.DirtyRow.{DirtyRow}
use Rattle.tree_shape.specs.declared.node.Child.{Child}
use Rattle.tree_shape.specs.declared.node.Child.TheVariants.{Leaf, Inner}
use Rattle.tree_shape.specs.declared.node.Node.{Node}
use Rattle.tree_shape.specs.declared.parents.Parents.{Parents}
use Rattle.tree_shape.specs.Tree.{Tree, name, height, leaves}
use Rattle.tree_shape.specs.Changes.{HasBelow, IsSubtree}
use Rattle.tree_shape.specs.Numbers.{times_in}
use Rattle.tree_shape.specs.View.{IsSoundTree}

-- the number kept at each leaf's number, and at each inner node's
pub record ParentsView : Type 0 where
  pub leaves : List ℕ
  pub inners : List ℕ

-- what the code keeps, as a value
abbrev pub parents_of : Parents → ParentsView
parents_of p = record { leaves = p.leaves.items; inners = p.inners.items }

-- the number kept for a leaf or an inner node
abbrev pub parent_in : ParentsView → Child → Option ℕ
parent_in v (Leaf n) = slice_get v.leaves n
parent_in v (Inner n) = slice_get v.inners n

-- another number for one of them
abbrev pub with_parent : ParentsView → Child → ℕ → ParentsView
with_parent v (Leaf n) p = record { leaves = slice_set v.leaves n p; inners = v.inners }
with_parent v (Inner n) p = record { leaves = v.leaves; inners = slice_set v.inners n p }

-- the node of each row for its two parts
abbrev pub with_parents : ParentsView → List DirtyRow → ParentsView
with_parents v [] = v
with_parents v (row ∷ rest) = with_parents (with_parent (with_parent v row.left row.node) row.right row.node) rest

-- the number is below so many leaves or inner nodes
abbrev pub IsPlaced : ℕ → ℕ → Child → Type 0
IsPlaced leaves inners (Leaf n) = n < leaves
IsPlaced leaves inners (Inner n) = n < inners

-- the same of both parts of a row
abbrev pub RowIsPlaced : ℕ → ℕ → DirtyRow → Type 0
RowIsPlaced leaves inners row = IsPlaced leaves inners row.left × IsPlaced leaves inners row.right

-- the rows of an arena's nodes from a number on
abbrev pub rows_in : ℕ → List Node → List DirtyRow
rows_in number [] = []
rows_in number (node ∷ rest) = record { node = number; left = node.left; right = node.right } ∷ rows_in (suc number) rest

-- each part of an inner node of the tree has that node above it
abbrev pub PartsHaveParents : ParentsView → Option Tree → Type 0
PartsHaveParents v tree = (n : ℕ) (l r : Tree) → HasBelow tree n l r → (parent_in v (name l) ≡ Some n) × (parent_in v (name r) ≡ Some n)

-- there is a place for each number drawn
pub record HavePlaces (v : ParentsView) (leaf_numbers inner_numbers : ℕ) : Type 0 where
  pub leaves : leaf_numbers ≤ length v.leaves
  pub inners : inner_numbers ≤ length v.inners

-- a root's tree in which each leaf's number is there once, and each part has its node above it
pub record IsWholeTree (nodes : List Node) (v : ParentsView) (root : Child) (whole : Tree) : Type 0 where
  pub sound : IsSoundTree nodes root whole
  pub leaves_once : (k : ℕ) → times_in k (leaves whole) ≤ 1
  pub linked : PartsHaveParents v (Some whole)

-- after so many steps up from the leaf with a number, the climb has come to this part of the tree
pub record IsClimbAt (whole : Tree) (number done : ℕ) (climb : Climb) (t : Tree) : Type 0 where
  pub named : climb.child ≡ name t
  pub part : IsSubtree t whole
  pub found : slice_get (leaves t) climb.at ≡ Some number
  pub high : (done ≤ height t) ⊎ (t ≡ whole)

abbrev pub IsClimb : Tree → ℕ → ℕ → Climb → Type 0
IsClimb whole number done climb = (t : Tree) × IsClimbAt whole number done climb t
