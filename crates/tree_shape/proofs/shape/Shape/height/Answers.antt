use Rattle.std.proofs.Common.{sym, ap, subst, arith}
use Rattle.tree_shape.specs.View.{ShapeView}
use Rattle.tree_shape.specs.Tree.{NodesStand}
use Rattle.tree_shape.proofs.Shapes.{tree_below}
use Rattle.tree_shape.proofs.Heights.{at_most_22}
use Rattle.tree_shape.proofs.shape.Shape.height.Goals as goal

pub returns-in-Some-clause-height : goal.returns-in-Some-clause-height
returns-in-Some-clause-height c =
    let r = tree_below _ _ c.in-Some.child _ _ _ c.in-Some.is (ap (λ (v : ShapeView). v.tree) c.self.view_is) c.self.invariant.0 in
    let stands = subst (λ v. NodesStand v r.t) (sym c.as_slice.ensures.value) r.sound.stands in
    rw r.seen (omega (arith, c.from.ensures, c.height_of.ensures r.t r.sound.named stands))

pub returns-in-Some-clause-low : goal.returns-in-Some-clause-low
returns-in-Some-clause-low c =
    let r = tree_below _ _ c.in-Some.child _ _ _ c.in-Some.is (ap (λ (v : ShapeView). v.tree) c.self.view_is) c.self.invariant.0 in
    let stands = subst (λ v. NodesStand v r.t) (sym c.as_slice.ensures.value) r.sound.stands in
    omega (arith, c.from.ensures, c.height_of.ensures r.t r.sound.named stands, at_most_22 r.t r.sound.balanced r.sound.few)
