-- A tree by positions with numbers at its leaves and inner nodes, and how an arena of rows stands for it.
use Rattle.std.specs.Prelude.{◌≡◌, ℕ, ◌+◌, ◌<◌, ◌≤◌, max, List, [], ◌∷◌, ◌++◌, Option, Some, None}
use Rattle.std.specs.List.{slice_get}
use Rattle.tree_shape.specs.declared.node.Child.{Child}
use Rattle.tree_shape.specs.declared.node.Child.TheVariants.{Leaf, Inner}
use Rattle.tree_shape.specs.declared.node.Node.{Node}

-- a tree, each leaf and inner node with its number
pub data Tree : Type 0 where
  leaf : ℕ → Tree
  inner : ℕ → Tree → Tree → Tree

-- how a parent names it
abbrev pub name : Tree → Child
name (leaf n) = Leaf n
name (inner n l r) = Inner n

-- the inner nodes on the longest way down
abbrev pub height : Tree → ℕ
height (leaf n) = 0
height (inner n l r) = 1 + max (height l) (height r)

-- the number of leaves
abbrev pub count : Tree → ℕ
count (leaf n) = 1
count (inner n l r) = count l + count r

-- the leaves' numbers, from left to right
abbrev pub leaves : Tree → List ℕ
leaves (leaf n) = n ∷ []
leaves (inner n l r) = leaves l ++ leaves r

-- the inner nodes' numbers
abbrev pub inner_node_numbers : Tree → List ℕ
inner_node_numbers (leaf n) = []
inner_node_numbers (inner n l r) = n ∷ (inner_node_numbers l ++ inner_node_numbers r)

-- the heights of the two parts of each inner node differ by at most one
abbrev pub IsBalanced : Tree → Type 0
IsBalanced (leaf n) = Unit {0}
IsBalanced (inner n l r) = (height l ≤ height r + 1) × (height r ≤ height l + 1) × IsBalanced l × IsBalanced r

-- the row that the arena keeps for an inner node with these parts
abbrev pub node_of_parts : Tree → Tree → Node
node_of_parts l r = record { left = name l; right = name r; height = 1 + max (height l) (height r); leaves = count l + count r }

-- each inner node's row is in the arena at its number
abbrev pub NodesStand : List Node → Tree → Type 0
NodesStand rows (leaf n) = Unit {0}
NodesStand rows (inner n l r) = (slice_get rows n ≡ Some (node_of_parts l r)) × NodesStand rows l × NodesStand rows r

-- the arena's node has a tree
abbrev pub IsTreeAt : List Node → Child → Type 0
IsTreeAt rows child = (t : Tree) × (child ≡ name t) × NodesStand rows t

-- the height that the arena keeps for a node
abbrev pub height_in : Option Node → ℕ
height_in None = 0
height_in (Some node) = node.height

-- the same by child, 0 for a leaf
abbrev pub stored_height : List Node → Child → ℕ
stored_height rows (Leaf n) = 0
stored_height rows (Inner n) = height_in (slice_get rows n)

-- the arena's node has a tree with a leaf at that position
abbrev pub HasLeafAt : List Node → Child → ℕ → Type 0
HasLeafAt rows child at = (t : Tree) × (child ≡ name t) × NodesStand rows t × (at < count t)
