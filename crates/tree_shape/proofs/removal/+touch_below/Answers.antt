use Rattle.std.proofs.Common.{◌≡◌, ℕ, ◌+◌, ◌*◌, ◌<◌, ◌≤◌, List, ◌++◌, arith, sym, ◌∙◌, ap, length, length-append}
use Rattle.tree_shape.specs.declared.node.Node.{Node}
use Rattle.tree_shape.specs.declared.dirty.DirtyRow.{DirtyRow}
use Rattle.tree_shape.specs.Tree.{Tree, inner, height, count}
use Rattle.tree_shape.specs.Plan.{rows}
use Rattle.tree_shape.specs.Removal.{plan_touched}
use Rattle.tree_shape.proofs.ArenaTrees.{arena_inner_opened, stored_height_is_height}
use Rattle.tree_shape.proofs.NodesAbove.{rows_most}
use Rattle.tree_shape.proofs.removal.+touch_below.Goals as goal

-- the list has room for the node's own row after the rows below it
room : (before dirty : List DirtyRow) (at : ℕ) (t : Tree) (h : ℕ) → dirty ≡ before ++ rows (plan_touched at t) → height t < h → length before + 1 * h ≤ 72 → length dirty < 72
room before dirty at t h e low fits = omega (arith, ap length e, length-append before (rows (plan_touched at t)), rows_most at t)

left_lower : {n : ℕ} {t l r : Tree} → t ≡ inner n l r → height l < height t
left_lower e = omega (arith, ap height e)

right_lower : {n : ℕ} {t l r : Tree} → t ≡ inner n l r → height r < height t
right_lower e = omega (arith, ap height e)

pub push-requires : goal.push-requires
push-requires t c =
    let o = arena_inner_opened _ _ c.requires.0 c.row-node.result (sym c.in-Inner.is ∙ c.requires.1) c.requires.2 c.row-node.ensures in
    room _ _ c.args.at o.left (height c.requires.0) (c.touch_below.ensures o.left (ap (λ (v : Node). v.left) o.node_is) o.stands_left) (left_lower o.is) c.requires.4

pub touch_below-requires-else-at-before : goal.touch_below-requires-else-at-before
touch_below-requires-else-at-before t c =
    let o = arena_inner_opened _ _ c.requires.0 c.row-node.result (sym c.in-Inner.is ∙ c.requires.1) c.requires.2 c.row-node.ensures in
    let right = ap (λ (v : Node). v.right) o.node_is in
    let many = c.leaves_of-before.ensures o.left (ap (λ (v : Node). v.left) o.node_is) o.stands_left in
    let here = stored_height_is_height _ _ c.requires.0 c.requires.1 c.requires.2 in
    let there = stored_height_is_height _ _ o.right right o.stands_right in
    let high = ap height o.is in
    let all = ap count o.is in
    (omega arith, (o.right, right, o.stands_right, omega (arith, c.requires.3), omega (arith, c.requires.4)))

pub push-requires-else-at-before : goal.push-requires-else-at-before
push-requires-else-at-before t c =
    let o = arena_inner_opened _ _ c.requires.0 c.row-node.result (sym c.in-Inner.is ∙ c.requires.1) c.requires.2 c.row-node.ensures in
    room _ _ _ o.right (height c.requires.0) (c.touch_below-else-at-before.ensures o.right (ap (λ (v : Node). v.right) o.node_is) o.stands_right) (right_lower o.is) c.requires.4
