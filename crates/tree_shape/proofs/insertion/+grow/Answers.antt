use Rattle.std.proofs.Common.{◌≡◌, ℕ, ◌+◌, ◌-◌, ◌<◌, nat_le, List, ◌++◌, length, length-append, arith, sym, ◌∙◌, ap, false}
use Rattle.std.proofs.lemmas.Bool.{lt-leb}
use Rattle.tree_shape.specs.declared.node.Node.{Node}
use Rattle.tree_shape.specs.declared.insertion.Grown.{Grown}
use Rattle.tree_shape.specs.declared.dirty.DirtyRow.{DirtyRow}
use Rattle.tree_shape.specs.Tree.{Tree, name, height, count, node_of_parts}
use Rattle.tree_shape.specs.Plan.{plan_grown, rows_below_root, IsPending, FitsLean}
use Rattle.tree_shape.proofs.ArenaTrees.{arena_inner_opened}
use Rattle.tree_shape.proofs.Turns.{height_pending}
use Rattle.tree_shape.proofs.InsertionBounds.{grown_high, grown_listed}
use Rattle.tree_shape.proofs.insertion.+grow.Goals as goal

left_is : {node : Node} (l r : Tree) → node ≡ node_of_parts l r → node.left ≡ name l
left_is l r e = ap (λ (v : Node). v.left) e

right_is : {node : Node} (l r : Tree) → node ≡ node_of_parts l r → node.right ≡ name r
right_is l r e = ap (λ (v : Node). v.right) e

-- the heights and the rows leave room after a recursion into t
fits : (g : Grown) (at new number high : ℕ) (before dirty : List DirtyRow) (t other : Tree) → IsPending g (plan_grown at new number t) → dirty ≡ before ++ rows_below_root (plan_grown at new number t) → high ≡ height other → length before + height t < 70 → length before + height other < 70 → FitsLean g high dirty
fits g at new number high before dirty t other e d h room beside =
    let up = height_pending g (plan_grown at new number t) e in
    let most = grown_high at new number t in
    let many = grown_listed at new number t in
    let long = ap length d ∙ length-append before (rows_below_root (plan_grown at new number t)) in
    record { near = omega arith; far = omega arith; beside = omega arith; room = omega arith }

pub lean-requires-clause-fits : goal.lean-requires-clause-fits
lean-requires-clause-fits t c =
    let o = arena_inner_opened _ _ c.requires.0 c.row-node.result (sym c.in-Inner.is ∙ c.requires.1) c.requires.2 c.row-node.ensures in
    let told = c.grow-part.ensures o.left (left_is _ _ o.node_is) o.stands_left in
    let high = c.half_of-upper.ensures.high o.right (right_is _ _ o.node_is) o.stands_right in
    let up = ap height o.is in
    fits _ _ _ _ _ _ _ o.left o.right told.0 told.1 high (omega (arith, c.requires.4)) (omega (arith, c.requires.4))

pub lean-requires-clause-part : goal.lean-requires-clause-part
lean-requires-clause-part t c =
    let o = arena_inner_opened _ _ c.requires.0 c.row-node.result (sym c.in-Inner.is ∙ c.requires.1) c.requires.2 c.row-node.ensures in
    let told = c.grow-part.ensures o.left (left_is _ _ o.node_is) o.stands_left in
    (plan_grown c.args.at c.args.new c.args.number o.left, c.args.dirty.now, o.right, record { pending = told.0; listed = told.1; named = c.half_of-upper.ensures.part ∙ right_is _ _ o.node_is; high = c.half_of-upper.ensures.high o.right (right_is _ _ o.node_is) o.stands_right })

pub half_of-upper-requires-else-at-before : goal.half_of-upper-requires-else-at-before
half_of-upper-requires-else-at-before t c =
    let o = arena_inner_opened _ _ c.requires.0 c.row-node.result (sym c.in-Inner.is ∙ c.requires.1) c.requires.2 c.row-node.ensures in
    (o.left, left_is _ _ o.node_is, o.stands_left)

pub lean-requires-else-at-before-clause-fits : goal.lean-requires-else-at-before-clause-fits
lean-requires-else-at-before-clause-fits t c =
    let o = arena_inner_opened _ _ c.requires.0 c.row-node.result (sym c.in-Inner.is ∙ c.requires.1) c.requires.2 c.row-node.ensures in
    let told = c.grow-part-else-at-before.ensures o.right (right_is _ _ o.node_is) o.stands_right in
    let high = c.half_of-upper-else-at-before.ensures.high o.left (left_is _ _ o.node_is) o.stands_left in
    let up = ap height o.is in
    fits _ _ _ _ _ _ _ o.right o.left told.0 told.1 high (omega (arith, c.requires.4)) (omega (arith, c.requires.4))

pub lean-requires-else-at-before-clause-part : goal.lean-requires-else-at-before-clause-part
lean-requires-else-at-before-clause-part t c =
    let o = arena_inner_opened _ _ c.requires.0 c.row-node.result (sym c.in-Inner.is ∙ c.requires.1) c.requires.2 c.row-node.ensures in
    let told = c.grow-part-else-at-before.ensures o.right (right_is _ _ o.node_is) o.stands_right in
    (plan_grown (c.args.at - c.leaves_of-before.result) c.args.new c.args.number o.right, c.args.dirty.now, o.left, record { pending = told.0; listed = told.1; named = c.half_of-upper-else-at-before.ensures.part ∙ left_is _ _ o.node_is; high = c.half_of-upper-else-at-before.ensures.high o.left (left_is _ _ o.node_is) o.stands_left })

pub returns-else-at-before : goal.returns-else-at-before
returns-else-at-before t c = λ u e s.
    let o = arena_inner_opened _ _ u c.row-node.result (sym c.in-Inner.is ∙ e) s c.row-node.ensures in
    let told = c.grow-part-else-at-before.ensures o.right (right_is _ _ o.node_is) o.stands_right in
    let high = c.half_of-upper-else-at-before.ensures.high o.left (left_is _ _ o.node_is) o.stands_left in
    let many = c.leaves_of-before.ensures o.left (left_is _ _ o.node_is) o.stands_left in
    let l = c.lean-else-at-before.ensures (plan_grown (c.args.at - c.leaves_of-before.result) c.args.new c.args.number o.right) c.args.dirty.now o.left (record { pending = told.0; listed = told.1; named = c.half_of-upper-else-at-before.ensures.part ∙ left_is _ _ o.node_is; high = high }) in
    let past : nat_le c.args.at (count o.left) ≡ false = lt-leb _ _ (omega arith) in
    rw (o.is, past, ← many) (rw (c.half_of-upper-else-at-before.ensures.side, c.half_of-upper-else-at-before.ensures.node) at l)
