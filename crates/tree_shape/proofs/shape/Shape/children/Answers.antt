use Rattle.std.proofs.Common.{◌≡◌, sym, ◌∙◌, ap, subst, refl, Some}
use Rattle.tree_shape.specs.View.{ShapeView}
use Rattle.tree_shape.specs.Tree.{NodesStand, inner, node_of_parts}
use Rattle.tree_shape.specs.declared.node.Node.{Node}
use Rattle.tree_shape.specs.Changes.{IsSubtreeOf}
use Rattle.tree_shape.proofs.Shapes.{part_stands}
use Rattle.tree_shape.proofs.shape.Shape.children.Goals as goal

pub row-node-requires : goal.row-node-requires
row-node-requires c =
    let h = c.requires in
    let part = subst (λ (v : ShapeView). IsSubtreeOf (inner c.args.inner h.0 h.1) v.tree) (sym c.self.view_is) h.2 in
    (inner c.args.inner h.0 h.1, refl, subst (λ v. NodesStand v (inner c.args.inner h.0 h.1)) (sym c.as_slice.ensures.value) (part_stands _ _ _ c.self.invariant.0.sound part))

pub returns : goal.returns
returns c = λ l r p.
    let part = subst (λ (v : ShapeView). IsSubtreeOf (inner c.args.inner l r) v.tree) (sym c.self.view_is) p in
    let s = subst (λ v. NodesStand v (inner c.args.inner l r)) (sym c.as_slice.ensures.value) (part_stands _ _ _ c.self.invariant.0.sound part) in
    let same : Some c.row-node.result ≡ Some (node_of_parts l r) = sym c.row-node.ensures ∙ s.0 in
    let node : c.row-node.result ≡ node_of_parts l r = cc in
    ap (λ (n : Node). (n.left, n.right)) node
