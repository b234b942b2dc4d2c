use Rattle.std.proofs.Common.{sym, ap, subst, refl}
use Rattle.tree_shape.specs.View.{ShapeView, IsLawfulShape}
use Rattle.tree_shape.specs.Tree.{NodesStand}
use Rattle.tree_shape.proofs.Shapes.{tree_below}
use Rattle.tree_shape.proofs.Shapes.{lawful}
use Rattle.tree_shape.proofs.shape.Shape.len.Goals as goal

pub returns-in-Some-clause-leaves : goal.returns-in-Some-clause-leaves
returns-in-Some-clause-leaves c =
    let r = tree_below _ _ c.in-Some.child _ _ _ c.in-Some.is (ap (λ (v : ShapeView). v.tree) c.self.view_is) c.self.invariant.0 in
    let stands = subst (λ v. NodesStand v r.t) (sym c.as_slice.ensures.value) r.sound.stands in
    rw r.seen (c.leaves_of.ensures r.t r.sound.named stands)

pub returns-in-Some-clause-lawful : goal.returns-in-Some-clause-lawful
returns-in-Some-clause-lawful c = subst (λ v. IsLawfulShape v) c.self.view_is (lawful _ _ _ c.self.invariant.0 refl)
