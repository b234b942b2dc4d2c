-- The tree without the leaf at a position.
use Rattle.std.specs.Prelude.{◌≡◌, ◌<◌, ◌≤◌, ◌*◌, length, ℕ, ◌+◌, ◌-◌, nat_le, nat_lt, cond, List, ◌++◌}
use Rattle.tree_shape.specs.declared.node.Side.{Side}
use Rattle.tree_shape.specs.declared.node.Side.TheVariants.{Left, Right}
use Rattle.tree_shape.specs.declared.node.Child.{Child}
use Rattle.tree_shape.specs.declared.node.Child.TheVariants.{Inner}
use Rattle.tree_shape.specs.declared.node.Node.{Node}
use Rattle.tree_shape.specs.declared.dirty.DirtyRow.{DirtyRow}
use Rattle.tree_shape.specs.declared.removal.RemovedPart.{RemovedPart}
use Rattle.tree_shape.specs.Tree.{Tree, leaf, inner, name, height, count, NodesStand, IsBalanced}
use Rattle.tree_shape.specs.Plan.{Plan, kept, made, tree_of_plan, over, rows}

-- of an inner node on the far side, the part beside the near one
abbrev pub part_beside : Side → Tree → Tree → Tree
part_beside Left l r = l
part_beside Right l r = r

-- and the outer part
abbrev pub outer : Side → Tree → Tree → Tree
outer Left l r = r
outer Right l r = l

-- A node whose far part is too high, with the far part's root and its two parts, the inward one beside the near part.

-- the far part's root takes the node's place
abbrev pub raised_once : Side → ℕ → Plan → ℕ → Tree → Tree → Plan
raised_once side node part far inward outward = made side far (made side node part (kept inward)) (kept outward)

-- the inward part's root takes the place of both
abbrev pub raised_twice : Side → ℕ → Plan → ℕ → Tree → Tree → Plan
raised_twice side node part far (leaf n) outward = raised_once side node part far (leaf n) outward
raised_twice side node part far (inner lower l r) outward = made side lower (made side node part (kept (part_beside side l r))) (made side far (kept (outer side l r)) (kept outward))

-- twice where the inward part is the higher one
abbrev pub raised_by : Side → ℕ → Plan → ℕ → Tree → Tree → Plan
raised_by side node part far inward outward = cond (nat_le (height inward) (height outward)) (raised_once side node part far inward outward) (raised_twice side node part far inward outward)

-- turned by the far part's root
abbrev pub plan_raised : Side → ℕ → Plan → Tree → Plan
plan_raised side node part (leaf n) = over side node part (leaf n)
plan_raised side node part (inner far l r) = raised_by side node part far (part_beside side l r) (outer side l r)

-- a node above a part that a removal changed, turned where the other part is too high
abbrev pub plan_sunk : Side → ℕ → Plan → Tree → Plan
plan_sunk side node part far = cond (nat_le (height far) (height (tree_of_plan part) + 1)) (over side node part far) (plan_raised side node part far)

-- where the near part was the leaf alone, the far part takes the node's place
abbrev pub plan_without_near : Side → ℕ → Tree → Plan → Tree → Plan
plan_without_near side node (leaf n) part far = kept far
plan_without_near side node (inner k l r) part far = plan_sunk side node part far

-- the tree without the leaf at a position, below an inner node
abbrev pub plan_shrunk : ℕ → Tree → Plan
plan_shrunk at (leaf n) = kept (leaf n)
plan_shrunk at (inner n l r) = cond (nat_lt at (count l)) (plan_without_near Left n l (plan_shrunk at l) r) (plan_without_near Right n r (plan_shrunk (at - count l) r) l)

-- the node itself where the part with the leaf is that leaf, else one below it
abbrev pub gone_in : ℕ → Tree → ℕ → ℕ
gone_in node (leaf n) deeper = node
gone_in node (inner k l r) deeper = deeper

-- the inner node that goes: the one right above the leaf
abbrev pub node_removed : ℕ → Tree → ℕ
node_removed at (leaf n) = 0
node_removed at (inner n l r) = cond (nat_lt at (count l)) (gone_in n l (node_removed at l)) (gone_in n r (node_removed (at - count l) r))

-- the nodes above a leaf, with the parts that they have
abbrev pub plan_touched : ℕ → Tree → Plan
plan_touched at (leaf n) = kept (leaf n)
plan_touched at (inner n l r) = cond (nat_lt at (count l)) (made Left n (plan_touched at l) (kept r)) (made Right n (plan_touched (at - count l) r) (kept l))

-- the arena's node has a tree with that leaf, and the list has room for so many rows a level
abbrev pub HasRows : ℕ → List Node → Child → ℕ → ℕ → Type 0
HasRows each nodes child at used = (t : Tree) × (child ≡ name t) × NodesStand nodes t × (at < count t) × (used + each * height t ≤ 72)

-- a part that a removal changed, and the part beside it
pub record IsSinking (nodes : List Node) (part : RemovedPart) (dirty : List DirtyRow) (far : Child) (p : Plan) (before : List DirtyRow) (f : Tree) : Type 0 where
  pub child : part.child ≡ name (tree_of_plan p)
  pub high : part.height ≡ height (tree_of_plan p)
  pub listed : dirty ≡ before ++ rows p
  pub named : far ≡ name f
  pub stands : NodesStand nodes f

-- the part as it is after the change
abbrev pub IsPartAfter : RemovedPart → Plan → Type 0
IsPartAfter part p = (part.child ≡ name (tree_of_plan p)) × (part.height ≡ height (tree_of_plan p))

-- the children of a far node's row, by the same names
abbrev pub beside_child : Side → Node → Child
beside_child Left node = node.left
beside_child Right node = node.right

-- the outer one
abbrev pub outer_child : Side → Node → Child
outer_child Left node = node.right
outer_child Right node = node.left

-- a part and the part beside it, low enough, and a list with room for three rows
abbrev pub HasSinking : List Node → RemovedPart → List DirtyRow → Child → Type 0
HasSinking nodes part dirty far = (p : Plan) × (before : List DirtyRow) × (f : Tree) × IsSinking nodes part dirty far p before f × (height f < 250) × (part.height < 250) × (length dirty + 3 ≤ 72)

-- the two parts of the other part, both seen
pub record IsRaising (nodes : List Node) (part : RemovedPart) (dirty : List DirtyRow) (b o : Child) (o_height : ℕ) (p : Plan) (before : List DirtyRow) (bt ot : Tree) : Type 0 where
  pub child : part.child ≡ name (tree_of_plan p)
  pub high : part.height ≡ height (tree_of_plan p)
  pub listed : dirty ≡ before ++ rows p
  pub named : b ≡ name bt
  pub stands : NodesStand nodes bt
  pub named_outer : o ≡ name ot
  pub high_outer : o_height ≡ height ot

-- those two parts, low enough, and a list with room for three rows
abbrev pub HasRaising : List Node → RemovedPart → List DirtyRow → Child → Child → ℕ → Type 0
HasRaising nodes part dirty b o o_height = (p : Plan) × (before : List DirtyRow) × (bt : Tree) × (ot : Tree) × IsRaising nodes part dirty b o o_height p before bt ot × (height bt < 250) × (o_height < 250) × (part.height < 250) × (length dirty + 3 ≤ 72)

-- the arena's node has a balanced tree with that leaf, and the list has room for three rows a level
abbrev pub HasRemoval : List Node → Child → ℕ → ℕ → Type 0
HasRemoval nodes child at used = (t : Tree) × (child ≡ name t) × NodesStand nodes t × (at < count t) × (used + 3 * height t ≤ 72) × IsBalanced t

-- the inner node has a tree with that leaf
abbrev pub IsNodeAboveLeaf : List Node → ℕ → ℕ → Type 0
IsNodeAboveLeaf nodes n at = (t : Tree) × (Inner n ≡ name t) × NodesStand nodes t × (at < count t)
