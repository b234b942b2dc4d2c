-- A tree after one change, with the parts that stayed as they were marked: which inner nodes the change wrote, and in which order they are listed.
use Rattle.std.specs.Prelude.{◌≡◌, ℕ, ◌+◌, ◌-◌, ◌<◌, ◌≤◌, Bool, true, false, nat_le, cond, List, [], ◌∷◌, ◌++◌, length}
use Rattle.tree_shape.specs.declared.node.Child.{Child}
use Rattle.tree_shape.specs.declared.node.Side.{Side}
use Rattle.tree_shape.specs.declared.node.Side.TheVariants.{Left, Right}
use Rattle.tree_shape.specs.declared.insertion.Way.{Way}
use Rattle.tree_shape.specs.declared.insertion.Way.TheVariants.{Turned, Once, Twice}
use Rattle.tree_shape.specs.declared.dirty.DirtyRow.{DirtyRow}
use Rattle.tree_shape.specs.declared.insertion.Grown.{Grown}
use Rattle.tree_shape.specs.Tree.{Tree, leaf, inner, name, height, count, NodesStand}
use Rattle.tree_shape.specs.declared.node.Node.{Node}

-- a part that stayed, or an inner node that was written: the side of its near part, its number, its near part and its far part
pub data Plan : Type 0 where
  kept : Tree → Plan
  made : Side → ℕ → Plan → Plan → Plan

-- an inner node by its near and its far part
abbrev pub inner_on : Side → ℕ → Tree → Tree → Tree
inner_on Left n near far = inner n near far
inner_on Right n near far = inner n far near

-- the tree after the change
abbrev pub tree_of_plan : Plan → Tree
tree_of_plan (kept t) = t
tree_of_plan (made side n near far) = inner_on side n (tree_of_plan near) (tree_of_plan far)

-- the row of an inner node by its near and its far child
abbrev pub dirty_row : Side → ℕ → Child → Child → DirtyRow
dirty_row Left n near far = record { node = n; left = near; right = far }
dirty_row Right n near far = record { node = n; left = far; right = near }

-- the row's child on a side
abbrev pub child_on : Side → DirtyRow → Child
child_on Left row = row.left
child_on Right row = row.right

-- the rows written, each node after its parts
abbrev pub rows : Plan → List DirtyRow
rows (kept t) = []
rows (made side n near far) = (rows near ++ rows far) ++ dirty_row side n (name (tree_of_plan near)) (name (tree_of_plan far)) ∷ []

-- the same without the root's
abbrev pub rows_below_root : Plan → List DirtyRow
rows_below_root (kept t) = []
rows_below_root (made side n near far) = rows near ++ rows far

-- whether two sides are the same
abbrev pub same_side : Side → Side → Bool
same_side Left Left = true
same_side Left Right = false
same_side Right Left = false
same_side Right Right = true

-- the side across
abbrev pub other : Side → Side
other Left = Right
other Right = Left

-- A node set above a part that has grown, in three ways. From the top its nodes are the upper one, with the part beside
-- the change, the middle one and the lower one, each with the part on its far side.

-- as it stood before
abbrev pub over : Side → ℕ → Plan → Tree → Plan
over side upper part beside = made side upper part (kept beside)

-- the middle node takes the upper one's place
abbrev pub turned_once : Side → ℕ → ℕ → Plan → Tree → Tree → Plan
turned_once side upper middle near middle_far beside = made side middle near (made side upper (kept middle_far) (kept beside))

-- the lower node takes the place of both, and its near part goes to the node on that side
abbrev pub turned_twice : Side → ℕ → ℕ → ℕ → Side → Plan → Tree → Tree → Tree → Plan
turned_twice side upper middle lower lower_side near lower_far middle_far beside =
    cond (same_side lower_side side)
    (made side lower (made (other side) middle near (kept middle_far)) (made side upper (kept lower_far) (kept beside)))
    (made (other side) lower (made side upper near (kept beside)) (made (other side) middle (kept lower_far) (kept middle_far)))

-- once where the change went the same way at the upper and the middle node, else twice
abbrev pub plan_turned : Side → ℕ → Side → ℕ → Side → ℕ → Plan → Tree → Tree → Tree → Plan
plan_turned side upper middle_side middle lower_side lower near lower_far middle_far beside =
    cond (same_side middle_side side)
    (turned_once side upper middle (made lower_side lower near (kept lower_far)) middle_far beside)
    (turned_twice side upper middle lower lower_side near lower_far middle_far beside)

-- turned, where the part has two nodes to turn by
abbrev pub turned_through : Side → ℕ → Side → ℕ → Plan → Tree → Tree → Plan
turned_through side upper middle_side middle (made lower_side lower near (kept lower_far)) middle_far beside = plan_turned side upper middle_side middle lower_side lower near lower_far middle_far beside
turned_through side upper middle_side middle near middle_far beside = over side upper (made middle_side middle near (kept middle_far)) beside

-- turned, where the part's far part stayed
abbrev pub turned_plan : Side → ℕ → Plan → Tree → Plan
turned_plan side upper (made middle_side middle near (kept middle_far)) beside = turned_through side upper middle_side middle near middle_far beside
turned_plan side upper part beside = over side upper part beside

-- a node above a part that was changed by an insertion, turned where the part is too high
abbrev pub plan_leaned : Side → ℕ → Plan → Tree → Plan
plan_leaned side upper part beside = cond (nat_le (height (tree_of_plan part)) (height beside + 1)) (over side upper part beside) (turned_plan side upper part beside)

-- the tree with a new leaf at a position, below a new inner node
abbrev pub plan_grown : ℕ → ℕ → ℕ → Tree → Plan
plan_grown at new number (leaf old) = made (cond (nat_le at 0) Left Right) number (kept (leaf new)) (kept (leaf old))
plan_grown at new number (inner n l r) =
    cond (nat_le at (count l)) (plan_leaned Left n (plan_grown at new number l) r) (plan_leaned Right n (plan_grown (at - count l) new number r) l)

-- whether the change went through the near part's root as well
abbrev pub way_through : Plan → Way
way_through (made side n near (kept beside)) = Twice side (height (tree_of_plan near)) (height beside)
way_through part = Once

-- what the change did at a plan's root
abbrev pub plan_way : Plan → Way
plan_way (made side n near (kept beside)) = way_through near
plan_way part = Turned

-- the root of a plan, as the code knows it
abbrev pub IsPending : Grown → Plan → Type 0
IsPending g (kept t) = ⊥
IsPending g (made side n near far) = g ≡ record {
  node = n;
  side = side;
  near = name (tree_of_plan near);
  far = name (tree_of_plan far);
  near_height = height (tree_of_plan near);
  far_height = height (tree_of_plan far);
  way = plan_way (made side n near far);
}

-- a part that an insertion changed and the part that stayed beside it
pub record IsLeaning (g : Grown) (dirty : List DirtyRow) (far : Child) (far_height : ℕ) (part : Plan) (before : List DirtyRow) (f : Tree) : Type 0 where
  pub pending : IsPending g part
  pub listed : dirty ≡ before ++ rows_below_root part
  pub named : far ≡ name f
  pub high : far_height ≡ height f

-- the heights and the rows leave room
pub record FitsLean (g : Grown) (far_height : ℕ) (dirty : List DirtyRow) : Type 0 where
  pub near : g.near_height < 254
  pub far : g.far_height < 254
  pub beside : far_height < 254
  pub room : length dirty < 71

-- the change went through the near part's root too: its near side, and the heights of its parts
abbrev pub IsTwice : Way → Side → ℕ → ℕ → Type 0
IsTwice way third near far = way ≡ Twice third near far

-- the arena's node has a tree with a place for a leaf at that position, and the list has room for the rows
abbrev pub HasPlaceAt : List Node → Child → ℕ → ℕ → Type 0
HasPlaceAt nodes child at used = (t : Tree) × (child ≡ name t) × NodesStand nodes t × (at ≤ count t) × (used + height t < 71)
