use Rattle.std.proofs.Common.{◌<◌, ◌++◌, length, sym, ◌∙◌, ap, subst, arith}
use Rattle.tree_shape.specs.Tree.{NodesStand}
use Rattle.tree_shape.specs.Plan.{rows}
use Rattle.tree_shape.specs.Removal.{plan_touched}
use Rattle.tree_shape.specs.View.{ShapeView, leaf_count_of}
use Rattle.tree_shape.proofs.Heights.{at_most_22}
use Rattle.tree_shape.proofs.Shapes.{tree_below}
use Rattle.tree_shape.proofs.Listings.{touching}
use Rattle.tree_shape.proofs.shape.Shape.touch.Goals as goal

pub touch_below-requires : goal.touch_below-requires
touch_below-requires c =
    let r = tree_below _ _ c.in-Some.child _ _ _ c.in-Some.is (ap (λ (v : ShapeView). v.tree) c.self.view_is) c.self.invariant.0 in
    let stands = subst (λ v. NodesStand v r.t) (sym c.as_slice.ensures.value) r.sound.stands in
    let low = at_most_22 r.t r.sound.balanced r.sound.few in
    (r.t, r.sound.named, stands, subst (λ v. c.args.at < leaf_count_of v) r.seen c.requires, omega (arith, ap length c.clear.ensures))

pub returns-in-Some : goal.returns-in-Some
returns-in-Some c =
    let r = tree_below _ _ c.in-Some.child _ _ _ c.in-Some.is (ap (λ (v : ShapeView). v.tree) c.self.view_is) c.self.invariant.0 in
    let stands = subst (λ v. NodesStand v r.t) (sym c.as_slice.ensures.value) r.sound.stands in
    let list = c.touch_below.ensures r.t r.sound.named stands ∙ ap (λ v. v ++ rows (plan_touched c.args.at r.t)) c.clear.ensures in
    let told = touching r.t c.args.at c.args.self.now.tree c.touch_below.new.dirty r.sound.once r.sound.balanced (subst (λ v. c.args.at < leaf_count_of v) r.seen c.requires) r.seen list in
    record { listed = rw r.seen list; above = told.above; no_other = told.no_other; listing = told.listing; few = told.few }
