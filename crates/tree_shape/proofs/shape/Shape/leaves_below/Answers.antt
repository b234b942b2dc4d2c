use Rattle.std.proofs.Common.{sym, subst}
use Rattle.tree_shape.specs.View.{ShapeView}
use Rattle.tree_shape.specs.Tree.{NodesStand}
use Rattle.tree_shape.specs.Changes.{IsSubtreeOf}
use Rattle.tree_shape.proofs.Shapes.{part_stands}
use Rattle.tree_shape.proofs.shape.Shape.leaves_below.Goals as goal

pub leaves_of-requires : goal.leaves_of-requires
leaves_of-requires c =
    let h = c.requires in
    let part = subst (λ (v : ShapeView). IsSubtreeOf h.0 v.tree) (sym c.self.view_is) h.2 in
    (h.0, h.1, subst (λ v. NodesStand v h.0) (sym c.as_slice.ensures.value) (part_stands _ _ _ c.self.invariant.0.sound part))

pub returns : goal.returns
returns c = λ t named p.
    let part = subst (λ (v : ShapeView). IsSubtreeOf t v.tree) (sym c.self.view_is) p in
    c.leaves_of.ensures t named (subst (λ v. NodesStand v t) (sym c.as_slice.ensures.value) (part_stands _ _ _ c.self.invariant.0.sound part))
