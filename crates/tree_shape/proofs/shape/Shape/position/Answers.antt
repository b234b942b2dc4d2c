use Rattle.std.proofs.Common.{List, Some, sym, ◌∙◌, ap, subst}
use Rattle.std.specs.List.{slice_get}
use Rattle.tree_shape.specs.declared.node.Node.{Node}
use Rattle.tree_shape.specs.Numbers.{numbers_view}
use Rattle.tree_shape.specs.Parents.{parents_of, PartsHaveParents, IsWholeTree}
use Rattle.tree_shape.specs.View.{ShapeView, leaves_of_tree}
use Rattle.tree_shape.proofs.Shapes.{tree_below}
use Rattle.tree_shape.proofs.Climbs.{whole_of}
use Rattle.tree_shape.proofs.shape.Shape.position.Goals as goal

pub climbed-requires : goal.climbed-requires
climbed-requires c =
    let r = tree_below _ _ c.in-Some.root _ _ _ c.in-Some.is (ap (λ (v : ShapeView). v.tree) c.self.view_is) c.self.invariant.0 in
    let v = parents_of c.self.inside.parents in
    let linked : PartsHaveParents v (Some r.t) = subst (PartsHaveParents v) (ap (λ (s : ShapeView). s.tree) c.self.view_is ∙ r.seen) c.self.invariant.4 in
    (r.t, c.requires.0, subst (λ (ns : List Node). IsWholeTree ns v c.in-Some.root r.t) (sym c.as_slice.ensures.value) (whole_of c.self.inside.nodes.items v c.in-Some.root r.t (numbers_view c.self.inside.leaves) (numbers_view c.self.inside.inners) r.sound r.shape linked), ap (λ t. slice_get (leaves_of_tree t) c.requires.0) (sym r.seen) ∙ c.requires.1)

pub returns-in-Some : goal.returns-in-Some
returns-in-Some c =
    let r = tree_below _ _ c.in-Some.root _ _ _ c.in-Some.is (ap (λ (v : ShapeView). v.tree) c.self.view_is) c.self.invariant.0 in
    let v = parents_of c.self.inside.parents in
    let linked : PartsHaveParents v (Some r.t) = subst (PartsHaveParents v) (ap (λ (s : ShapeView). s.tree) c.self.view_is ∙ r.seen) c.self.invariant.4 in
    ap (λ t. slice_get (leaves_of_tree t) c.climbed.result) r.seen
    ∙ c.climbed.ensures r.t c.requires.0 (subst (λ (ns : List Node). IsWholeTree ns v c.in-Some.root r.t) (sym c.as_slice.ensures.value) (whole_of c.self.inside.nodes.items v c.in-Some.root r.t (numbers_view c.self.inside.leaves) (numbers_view c.self.inside.inners) r.sound r.shape linked))
    (ap (λ t. slice_get (leaves_of_tree t) c.requires.0) (sym r.seen) ∙ c.requires.1)
