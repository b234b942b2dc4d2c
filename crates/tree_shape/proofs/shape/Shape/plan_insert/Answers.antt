use Rattle.std.proofs.Common.{◌≡◌, ◌<◌, ◌≤◌, sym, ap, subst}
use Rattle.tree_shape.specs.Numbers.{numbers_view}
use Rattle.tree_shape.specs.View.{ShapeView, IsSoundTree, leaf_count_of}
use Rattle.tree_shape.proofs.Shapes.{tree_below, next_free}
use Rattle.tree_shape.proofs.shape.Shape.plan_insert.Goals as goal

pub plan_put-requires-clause-place : goal.plan_put-requires-clause-place
plan_put-requires-clause-place c =
    let r = tree_below _ _ c.in-Some.child _ _ _ c.in-Some.is (ap (λ (v : ShapeView). v.tree) c.self.view_is) c.self.invariant.0 in (
      r.t,
      subst (λ v. IsSoundTree v c.in-Some.child r.t) (sym c.as_slice.ensures.value) r.sound,
      subst (λ v. c.args.at ≤ leaf_count_of v) r.seen c.requires.place,
      subst (λ v. leaf_count_of v < 65536) r.seen c.requires.few,
      rw c.next-number.ensures (next_free _ _ r.t _ _ r.shape r.sound),
    )

pub returns-in-Some-clause-listed : goal.returns-in-Some-clause-listed
returns-in-Some-clause-listed c =
    let r = tree_below _ _ c.in-Some.child _ _ _ c.in-Some.is (ap (λ (v : ShapeView). v.tree) c.self.view_is) c.self.invariant.0 in
    let leaf_numbers : c.args.self.now.leaf_numbers ≡ numbers_view c.self.inside.leaves = ap (λ (v : ShapeView). v.leaf_numbers) (sym c.self.view_is) in
    let inner_numbers : c.args.self.now.inner_numbers ≡ numbers_view c.self.inside.inners = ap (λ (v : ShapeView). v.inner_numbers) (sym c.self.view_is) in
    rw (leaf_numbers, inner_numbers, r.seen, ← c.next-new.ensures, ← c.next-number.ensures) (c.plan_put.ensures.listed r.t (subst (λ v. IsSoundTree v c.in-Some.child r.t) (sym c.as_slice.ensures.value) r.sound))
