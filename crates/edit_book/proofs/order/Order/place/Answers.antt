use Rattle.std.proofs.Common.{ℕ, List, Option, ap, sym, ◌∙◌, position}
use Rattle.tree_shape.specs.View.{leaves_of_tree}
use Rattle.edit_book.specs.Orders.{OrderView, is_id, number_at}
use Rattle.edit_book.proofs.Orders.{leaves_once, leaf_place_of_id, times_place, id_without_leaf_unplaced}
use Rattle.edit_book.proofs.order.Order.place.Goals as goal

pub position-requires : goal.position-requires
position-requires c =
    let told = ap (λ (l : List (Option ℕ)). number_at l c.args.id) (sym c.as_slice.ensures.value) ∙ (sym c.found.ensures ∙ c.in-Some.is) in
    times_place c.in-Some.leaf (leaves_of_tree c.self.inside.shape.tree) (c.self.invariant.back c.args.id c.in-Some.leaf told).0

pub returns-in-Some : goal.returns-in-Some
returns-in-Some c =
    let told = ap (λ (l : List (Option ℕ)). number_at l c.args.id) (sym c.as_slice.ensures.value) ∙ (sym c.found.ensures ∙ c.in-Some.is) in
    sym (leaf_place_of_id (leaves_of_tree c.self.inside.shape.tree) _ _ c.args.id c.in-Some.leaf c.position.result c.self.invariant (leaves_once c.self.inside.shape c.len-len.ensures.lawful) told c.position.ensures)
    ∙ ap (λ (v : OrderView). position (is_id c.args.id) v.ids) c.self.view_is

pub returns-in-None : goal.returns-in-None
returns-in-None c =
    let told = ap (λ (l : List (Option ℕ)). number_at l c.args.id) (sym c.as_slice.ensures.value) ∙ (sym c.found.ensures ∙ c.in-None.is) in
    sym (id_without_leaf_unplaced (leaves_of_tree c.self.inside.shape.tree) _ _ c.args.id c.self.invariant told) ∙ ap (λ (v : OrderView). position (is_id c.args.id) v.ids) c.self.view_is
