-- What the rows of a change make of the arena.
use Rattle.std.specs.Prelude.{ℕ, ◌+◌, ◌^◌, ◌<◌, max, eqb, cond, List, [], ◌∷◌, length, Option, Some, None, slice_set}
use Rattle.std.specs.List.{slice_get}
use Rattle.tree_shape.specs.declared.node.Child.{Child}
use Rattle.tree_shape.specs.declared.node.Child.TheVariants.{Leaf, Inner}
use Rattle.tree_shape.specs.declared.dirty.DirtyRow.{DirtyRow}
use Rattle.tree_shape.specs.declared.node.Node.{Node}
use Rattle.tree_shape.specs.Tree.{Tree, leaf, inner, NodesStand, stored_height}
use Rattle.tree_shape.specs.Plan.{Plan, kept, made}

-- the leaves that the arena counts below a node
abbrev pub leaves_in : Option Node → ℕ
leaves_in None = 0
leaves_in (Some node) = node.leaves

-- the leaves that the arena counts below a child
abbrev pub stored_leaves : List Node → Child → ℕ
stored_leaves rows (Leaf n) = 1
stored_leaves rows (Inner n) = leaves_in (slice_get rows n)

-- the row that a node with these parts gets
abbrev pub node_from : List Node → Child → Child → Node
node_from rows left right = record { left = left; right = right; height = 1 + max (stored_height rows left) (stored_height rows right); leaves = stored_leaves rows left + stored_leaves rows right }

-- the arena with the row written at its number
abbrev pub nodes_with_row : List Node → DirtyRow → List Node
nodes_with_row rows row = slice_set rows row.node (node_from rows row.left row.right)

-- one row after the other
abbrev pub nodes_with_rows : List Node → List DirtyRow → List Node
nodes_with_rows rows [] = rows
nodes_with_rows rows (row ∷ rest) = nodes_with_rows (nodes_with_row rows row) rest

-- the child has a row, if it is no leaf
abbrev pub IsIn : List Node → Child → Type 0
IsIn rows (Leaf n) = Unit {0}
IsIn rows (Inner n) = n < length rows

-- the row has its place, and its height and its leaves are numbers that fit
pub record FitsRow (rows : List Node) (row : DirtyRow) : Type 0 where
  pub place : row.node < length rows
  pub left : IsIn rows row.left
  pub right : IsIn rows row.right
  pub low : (stored_height rows row.left < 255) × (stored_height rows row.right < 255)
  pub few : stored_leaves rows row.left + stored_leaves rows row.right < 2 ^ 32

-- each row fits the arena as it then is
abbrev pub FitRows : List Node → List DirtyRow → Type 0
FitRows rows [] = Unit {0}
FitRows rows (row ∷ rest) = FitsRow rows row × FitRows (nodes_with_row rows row) rest

-- one where two numbers are the same
abbrev pub mark : ℕ → ℕ → ℕ
mark k n = cond (eqb k n) 1 0

-- how often a number is an inner node's
abbrev pub times : ℕ → Tree → ℕ
times k (leaf n) = 0
times k (inner n l r) = mark k n + (times k l + times k r)

-- how often a plan writes the node
abbrev pub times_made : ℕ → Plan → ℕ
times_made k (kept t) = 0
times_made k (made side n near far) = mark k n + (times_made k near + times_made k far)

-- each part that stays has a property
abbrev pub KeptBy : (Tree → Type 0) → Plan → Type 0
KeptBy P (kept t) = P t
KeptBy P (made side n near far) = KeptBy P near × KeptBy P far

-- the parts that stay stand in the arena
abbrev pub KeptStands : List Node → Plan → Type 0
KeptStands rows p = KeptBy (NodesStand rows) p
