-- What a list of rows says of a tree before and after a change.
use Rattle.std.specs.Prelude.{◌≡◌, ℕ, zero, suc, ◌+◌, ◌<◌, ◌≤◌, ◌⊎◌, List, [], ◌∷◌, ◌++◌, Option, Some, None}
use Rattle.std.specs.List.{All}
use Rattle.tree_shape.specs.declared.node.Child.{Child}
use Rattle.tree_shape.specs.declared.node.Child.TheVariants.{Leaf, Inner}
use Rattle.tree_shape.specs.declared.dirty.DirtyRow.{DirtyRow}
use Rattle.tree_shape.specs.Tree.{Tree, leaf, inner, name, height, count, IsBalanced}
use Rattle.tree_shape.specs.Apply.{mark}

-- a leaf or an inner node of a tree, with all that is below it
abbrev pub IsSubtree : Tree → Tree → Type 0
IsSubtree part (leaf n) = part ≡ leaf n
IsSubtree part (inner n l r) = (part ≡ inner n l r) ⊎ (IsSubtree part l ⊎ IsSubtree part r)

-- the same, of a tree that may have no leaf
abbrev pub IsSubtreeOf : Tree → Option Tree → Type 0
IsSubtreeOf part None = ⊥
IsSubtreeOf part (Some t) = IsSubtree part t

-- the number is an inner node's, with these trees below it
abbrev pub HasBelow : Option Tree → ℕ → Tree → Tree → Type 0
HasBelow tree n l r = IsSubtreeOf (inner n l r) tree

-- the number is an inner node's
abbrev pub HasInner : Option Tree → ℕ → Type 0
HasInner tree n = (l : Tree) × (r : Tree) × HasBelow tree n l r

-- how often a node is listed
abbrev pub times_listed : ℕ → List DirtyRow → ℕ
times_listed k [] = 0
times_listed k (row ∷ rest) = mark k row.node + times_listed k rest

-- the row's node is in the tree, with these two children
abbrev pub HasChildren : Option Tree → DirtyRow → Type 0
HasChildren tree row = (l : Tree) × (r : Tree) × IsSubtreeOf (inner row.node l r) tree × (row.left ≡ name l) × (row.right ≡ name r)

-- every inner node that is not listed was there before with the same children, and the same tree below each
abbrev pub LeavesOthers : Option Tree → Option Tree → List DirtyRow → Type 0
LeavesOthers old new rows = (k : ℕ) (l r : Tree) → IsSubtreeOf (inner k l r) new → times_listed k rows ≡ 0 → IsSubtreeOf (inner k l r) old

-- the child is no inner node among the rows
abbrev pub IsNotListed : Child → List DirtyRow → Type 0
IsNotListed (Leaf n) rows = Unit {0}
IsNotListed (Inner k) rows = times_listed k rows ≡ 0

-- children before parents: neither child of a row is listed with it or after it
abbrev pub IsOrdered : List DirtyRow → Type 0
IsOrdered [] = Unit {0}
IsOrdered (row ∷ rest) = IsNotListed row.left (row ∷ rest) × IsNotListed row.right (row ∷ rest) × IsOrdered rest

-- What rows say of a tree before and after a change: each has the children that its node has then, every other inner node is as
-- it was, children stand before parents, and none stands twice.
pub record ListsChanges (old new : Option Tree) (rows : List DirtyRow) : Type 0 where
  pub children : All (HasChildren new) rows
  pub others : LeavesOthers old new rows
  pub ordered : IsOrdered rows
  pub once : (k : ℕ) → times_listed k rows ≤ 1

-- a part of a tree, with so many of the tree's leaves before it
abbrev pub IsSubtreeAt : Tree → ℕ → Tree → Type 0
IsSubtreeAt part before (leaf n) = (part ≡ leaf n) × (before ≡ 0)
IsSubtreeAt part before (inner n l r) = ((part ≡ inner n l r) × (before ≡ 0)) ⊎ (IsSubtreeAt part before l ⊎ ((rest : ℕ) × (before ≡ count l + rest) × IsSubtreeAt part rest r))

-- the same, of a tree that may have no leaf
abbrev pub IsPartOfAt : Tree → ℕ → Option Tree → Type 0
IsPartOfAt part before None = ⊥
IsPartOfAt part before (Some t) = IsSubtreeAt part before t

-- the number is an inner node's, and the leaf at that position is below it
abbrev pub IsNodeOverPosition : Option Tree → ℕ → ℕ → Type 0
IsNodeOverPosition tree at n = (l : Tree) × (r : Tree) × (before : ℕ) × IsPartOfAt (inner n l r) before tree × (before ≤ at) × (at < before + count (inner n l r))

-- no balanced tree of so many leaves is higher
abbrev pub BoundsHeight : ℕ → ℕ → Type 0
BoundsHeight leaves high = (t : Tree) → IsBalanced t → count t ≡ leaves → height t ≤ high

-- the numbers below a count, in order
abbrev pub numbers_below : ℕ → List ℕ
numbers_below zero = []
numbers_below (suc n) = numbers_below n ++ n ∷ []
