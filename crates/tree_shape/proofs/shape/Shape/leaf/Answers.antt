use Rattle.std.proofs.Common.{◌<◌, sym, ap, subst}
use Rattle.tree_shape.specs.View.{ShapeView, leaf_count_of}
use Rattle.tree_shape.specs.Tree.{NodesStand}
use Rattle.tree_shape.proofs.Shapes.{tree_below}
use Rattle.tree_shape.proofs.shape.Shape.leaf.Goals as goal

pub leaf_at-requires : goal.leaf_at-requires
leaf_at-requires c =
    let r = tree_below _ _ c.in-Some.child _ _ _ c.in-Some.is (ap (λ (v : ShapeView). v.tree) c.self.view_is) c.self.invariant.0 in
    let below = subst (λ v. c.args.at < leaf_count_of v) r.seen c.requires in
    (r.t, r.sound.named, subst (λ v. NodesStand v r.t) (sym c.as_slice.ensures.value) r.sound.stands, below)

pub returns-in-Some : goal.returns-in-Some
returns-in-Some c =
    let r = tree_below _ _ c.in-Some.child _ _ _ c.in-Some.is (ap (λ (v : ShapeView). v.tree) c.self.view_is) c.self.invariant.0 in
    rw r.seen (c.leaf_at.ensures r.t r.sound.named (subst (λ v. NodesStand v r.t) (sym c.as_slice.ensures.value) r.sound.stands))
