use Rattle.std.proofs.Common.{◌≡◌, ℕ, ◌+◌, ◌-◌, ◌*◌, ◌<◌, ◌≤◌, List, ◌++◌, arith, sym, ◌∙◌, ap, subst, refl, length, length-append, false, nat_lt}
use Rattle.std.proofs.lemmas.Bool.{le-ltb}
use Rattle.tree_shape.specs.declared.node.Child.TheVariants.{Inner}
use Rattle.tree_shape.specs.declared.node.Side.TheVariants.{Right}
use Rattle.tree_shape.specs.declared.node.Node.{Node}
use Rattle.tree_shape.specs.declared.dirty.DirtyRow.{DirtyRow}
use Rattle.tree_shape.specs.Tree.{Tree, leaf, inner, name, height, count, IsBalanced}
use Rattle.tree_shape.specs.Plan.{Plan, rows}
use Rattle.tree_shape.specs.Removal.{plan_shrunk, plan_sunk, plan_without_near}
use Rattle.tree_shape.proofs.ArenaTrees.{arena_inner_opened, stored_height_is_height}
use Rattle.tree_shape.proofs.Removals.{listed_shrunk, low_shrunk, Lower, as_high, one_lower}
use Rattle.tree_shape.proofs.InsertionBounds.{plan_height}
use Rattle.tree_shape.proofs.removal.+shrink.Goals as goal

not_higher : (before : ℕ) (p : Plan) → Lower before p → plan_height p ≤ before
not_higher before p (as_high e) = omega arith
not_higher before p (one_lower e) = omega arith

room : (before dirty : List DirtyRow) (at : ℕ) (t : Tree) (h : ℕ) → dirty ≡ before ++ rows (plan_shrunk at t) → height t < h → length before + 3 * h ≤ 72 → length dirty + 3 ≤ 72
room before dirty at t h e low fits = omega (arith, ap length e, length-append before (rows (plan_shrunk at t)), listed_shrunk at t)

balanced_parts : (n : ℕ) (t l r : Tree) → t ≡ inner n l r → IsBalanced t → IsBalanced l × IsBalanced r
balanced_parts n t l r e b = let w = subst IsBalanced e b in (w.2, w.3)

-- a node with a near part that is no leaf
sunk_below : (side : _) (m : ℕ) (near : Tree) (p : Plan) (far : Tree) (k : ℕ) → Inner k ≡ name near → plan_without_near side m near p far ≡ plan_sunk side m p far
sunk_below side m (leaf n) p far k e = cc
sunk_below side m (inner n l r) p far k e = refl

pub sink-requires : goal.sink-requires
sink-requires t c =
    let o = arena_inner_opened _ _ c.requires.0 c.row-node.result (sym c.in-Inner.is ∙ c.requires.1) c.requires.2 c.row-node.ensures in
    let left = ap (λ (v : Node). v.left) o.node_is in
    let told = c.shrink-part.ensures o.left left o.stands_left in
    let high = ap height o.is in
    let low = not_higher _ _ (low_shrunk c.args.at o.left (balanced_parts _ _ _ _ o.is c.requires.5).0).height in (
      plan_shrunk c.args.at o.left,
      c.args.dirty.now,
      o.right,
      record { child = told.0.0; high = told.0.1; listed = told.1; named = ap (λ (v : Node). v.right) o.node_is; stands = o.stands_right },
      omega (arith, c.requires.4),
      omega (arith, c.requires.4, told.0.1),
      room _ _ c.args.at o.left (height c.requires.0) told.1 (omega arith) c.requires.4,
    )

pub shrink-part-requires : goal.shrink-part-requires
shrink-part-requires t c =
    let o = arena_inner_opened _ _ c.requires.0 c.row-node.result (sym c.in-Inner.is ∙ c.requires.1) c.requires.2 c.row-node.ensures in
    let left = ap (λ (v : Node). v.left) o.node_is in
    let many = c.leaves_of-before.ensures o.left left o.stands_left in
    let here = stored_height_is_height _ _ c.requires.0 c.requires.1 c.requires.2 in
    let there = stored_height_is_height _ _ o.left left o.stands_left in
    let high = ap height o.is in
    (omega arith, (o.left, left, o.stands_left, omega (arith, c.requires.3), omega (arith, c.requires.4), (balanced_parts _ _ _ _ o.is c.requires.5).0))

pub shrink-part-requires-in-Inner-right : goal.shrink-part-requires-in-Inner-right
shrink-part-requires-in-Inner-right t c =
    let o = arena_inner_opened _ _ c.requires.0 c.row-node.result (sym c.in-Inner.is ∙ c.requires.1) c.requires.2 c.row-node.ensures in
    let right = ap (λ (v : Node). v.right) o.node_is in
    let many = c.leaves_of-before.ensures o.left (ap (λ (v : Node). v.left) o.node_is) o.stands_left in
    let here = stored_height_is_height _ _ c.requires.0 c.requires.1 c.requires.2 in
    let there = stored_height_is_height _ _ o.right right o.stands_right in
    let high = ap height o.is in
    let all = ap count o.is in
    (omega arith, (o.right, right, o.stands_right, omega (arith, c.requires.3), omega (arith, c.requires.4), (balanced_parts _ _ _ _ o.is c.requires.5).1))

pub sink-requires-in-Inner-right : goal.sink-requires-in-Inner-right
sink-requires-in-Inner-right t c =
    let o = arena_inner_opened _ _ c.requires.0 c.row-node.result (sym c.in-Inner.is ∙ c.requires.1) c.requires.2 c.row-node.ensures in
    let right = ap (λ (v : Node). v.right) o.node_is in
    let told = c.shrink-part-in-Inner-right.ensures o.right right o.stands_right in
    let high = ap height o.is in
    let at = c.args.at - c.leaves_of-before.result in
    let low = not_higher _ _ (low_shrunk at o.right (balanced_parts _ _ _ _ o.is c.requires.5).1).height in (
      plan_shrunk at o.right,
      c.args.dirty.now,
      o.left,
      record { child = told.0.0; high = told.0.1; listed = told.1; named = ap (λ (v : Node). v.left) o.node_is; stands = o.stands_left },
      omega (arith, c.requires.4),
      omega (arith, c.requires.4, told.0.1),
      room _ _ at o.right (height c.requires.0) told.1 (omega arith) c.requires.4,
    )

pub returns-in-Inner-right : goal.returns-in-Inner-right
returns-in-Inner-right t c = λ u e s.
    let o = arena_inner_opened _ _ u c.row-node.result (sym c.in-Inner.is ∙ e) s c.row-node.ensures in
    let right = ap (λ (v : Node). v.right) o.node_is in
    let left = ap (λ (v : Node). v.left) o.node_is in
    let told = c.shrink-part-in-Inner-right.ensures o.right right o.stands_right in
    let many = c.leaves_of-before.ensures o.left left o.stands_left in
    let at = c.args.at - c.leaves_of-before.result in
    let past : nat_lt c.args.at (count o.left) ≡ false = le-ltb _ _ (omega arith) in
    let l = c.sink-in-Inner-right.ensures (plan_shrunk at o.right) c.args.dirty.now o.left (record { child = told.0.0; high = told.0.1; listed = told.1; named = left; stands = o.stands_left }) in
    rw (o.is, past, ← many, sunk_below Right c.in-Inner.inner o.right (plan_shrunk at o.right) o.left c.in-Inner-right.field-0 (sym c.in-Inner-right.is ∙ right)) l
