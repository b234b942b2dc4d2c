use Rattle.std.proofs.Common.{◌<◌, sym, ap, subst}
use Rattle.tree_shape.specs.Tree.{NodesStand}
use Rattle.tree_shape.specs.View.{ShapeView, IsSoundTree, leaf_count_of}
use Rattle.tree_shape.proofs.Shapes.{tree_below}
use Rattle.tree_shape.proofs.shape.Shape.plan_remove.Goals as goal

pub plan_take-requires-clause-place : goal.plan_take-requires-clause-place
plan_take-requires-clause-place c =
    let r = tree_below _ _ c.in-Some.child _ _ _ c.in-Some.is (ap (λ (v : ShapeView). v.tree) c.self.view_is) c.self.invariant.0 in
    (r.t, subst (λ v. IsSoundTree v c.in-Some.child r.t) (sym c.as_slice.ensures.value) r.sound, subst (λ v. c.args.at < leaf_count_of v) r.seen c.requires)

pub leaf_at-requires : goal.leaf_at-requires
leaf_at-requires c =
    let r = tree_below _ _ c.in-Some.child _ _ _ c.in-Some.is (ap (λ (v : ShapeView). v.tree) c.self.view_is) c.self.invariant.0 in
    (r.t, r.sound.named, subst (λ v. NodesStand v r.t) (sym c.as_slice-in-Some.ensures.value) r.sound.stands, subst (λ v. c.args.at < leaf_count_of v) r.seen c.requires)

pub returns-in-Some-clause-number : goal.returns-in-Some-clause-number
returns-in-Some-clause-number c =
    let r = tree_below _ _ c.in-Some.child _ _ _ c.in-Some.is (ap (λ (v : ShapeView). v.tree) c.self.view_is) c.self.invariant.0 in
    rw r.seen (c.leaf_at.ensures r.t r.sound.named (subst (λ v. NodesStand v r.t) (sym c.as_slice-in-Some.ensures.value) r.sound.stands))

pub returns-in-Some-clause-listed : goal.returns-in-Some-clause-listed
returns-in-Some-clause-listed c =
    let r = tree_below _ _ c.in-Some.child _ _ _ c.in-Some.is (ap (λ (v : ShapeView). v.tree) c.self.view_is) c.self.invariant.0 in
    rw r.seen (c.plan_take.ensures.listed r.t (subst (λ v. IsSoundTree v c.in-Some.child r.t) (sym c.as_slice.ensures.value) r.sound))
