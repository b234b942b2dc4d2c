-- The other part of a node, opened on the side of the part that a removal changed.
use Rattle.std.proofs.Common.{◌≡◌, ℕ, ◌+◌, ◌<◌, ◌≤◌, List, Some, ap, refl, arith}
use Rattle.std.specs.List.{slice_get}
use Rattle.std.proofs.lemmas.Bool.{le-leb, lt-leb}
use Rattle.tree_shape.specs.Plan.{Plan, tree_of_plan, over}
use Rattle.tree_shape.specs.declared.node.Child.TheVariants.{Leaf, Inner}
use Rattle.tree_shape.specs.declared.node.Side.{Side}
use Rattle.tree_shape.specs.declared.node.Side.TheVariants.{Left, Right}
use Rattle.tree_shape.specs.declared.node.Node.{Node}
use Rattle.tree_shape.specs.Tree.{Tree, leaf, inner, name, height, NodesStand}
use Rattle.tree_shape.specs.Removal.{part_beside, outer, beside_child, outer_child, raised_by, raised_once, raised_twice, plan_raised, plan_sunk}
use Rattle.tree_shape.proofs.ArenaTrees.{arena_inner_opened}

pub record OpenedOn (rows : List Node) (side : Side) (n : ℕ) (t : Tree) (node : Node) : Type 0 where
  pub left : Tree
  pub right : Tree
  pub is : t ≡ inner n left right
  pub beside_is : beside_child side node ≡ name (part_beside side left right)
  pub outer_is : outer_child side node ≡ name (outer side left right)
  pub stands_beside : NodesStand rows (part_beside side left right)
  pub stands_outer : NodesStand rows (outer side left right)
  pub low_beside : height (part_beside side left right) < height t
  pub low_outer : height (outer side left right) < height t

pub opened_on : (rows : List Node) (side : Side) (n : ℕ) (t : Tree) (node : Node) → Inner n ≡ name t → NodesStand rows t → slice_get rows n ≡ Some node → OpenedOn rows side n t node
opened_on rows Left n t node e s g =
    let o = arena_inner_opened rows n t node e s g in
    let high = ap height o.is in
    record { left = o.left; right = o.right; is = o.is; beside_is = ap (λ (v : Node). v.left) o.node_is; outer_is = ap (λ (v : Node). v.right) o.node_is; stands_beside = o.stands_left; stands_outer = o.stands_right; low_beside = omega arith; low_outer = omega arith }
opened_on rows Right n t node e s g =
    let o = arena_inner_opened rows n t node e s g in
    let high = ap height o.is in
    record { left = o.left; right = o.right; is = o.is; beside_is = ap (λ (v : Node). v.right) o.node_is; outer_is = ap (λ (v : Node). v.left) o.node_is; stands_beside = o.stands_right; stands_outer = o.stands_left; low_beside = omega arith; low_outer = omega arith }

pub leaf_low : (t : Tree) (n : ℕ) → Leaf n ≡ name t → height t ≡ 0
leaf_low (leaf m) n e = refl
leaf_low (inner m l r) n e = cc

pub once_is : (side : Side) (m : ℕ) (p : Plan) (k : ℕ) (b o : Tree) → height b ≤ height o → raised_by side m p k b o ≡ raised_once side m p k b o
once_is side m p k b o h = rw (le-leb (height b) (height o) h) refl

pub twice_is : (side : Side) (m : ℕ) (p : Plan) (k : ℕ) (b o : Tree) → height o < height b → raised_by side m p k b o ≡ raised_twice side m p k b o
twice_is side m p k b o h = rw (lt-leb (height b) (height o) h) refl

pub no_inner : (t : Tree) → ((k : ℕ) → name t ≡ Inner k → ⊥) → height t ≡ 0
no_inner (leaf n) h = refl
no_inner (inner n l r) h = absurd (h n refl)

pub sunk_raised : (side : Side) (m : ℕ) (p : Plan) (f : Tree) → height (tree_of_plan p) + 1 < height f → plan_sunk side m p f ≡ plan_raised side m p f
sunk_raised side m p f h = rw (lt-leb (height f) (height (tree_of_plan p) + 1) h) refl

pub sunk_over : (side : Side) (m : ℕ) (p : Plan) (f : Tree) → height f ≤ height (tree_of_plan p) + 1 → plan_sunk side m p f ≡ over side m p f
sunk_over side m p f h = rw (le-leb (height f) (height (tree_of_plan p) + 1) h) refl
