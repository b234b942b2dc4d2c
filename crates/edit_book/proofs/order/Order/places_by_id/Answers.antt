use Rattle.std.proofs.Common.{ℕ, None, arith, ap, sym, ◌∙◌, position}
use Rattle.std.proofs.lemmas.Grind.{common_steps}
use Rattle.std.proofs.lemmas.List.{get_or_past}
use Rattle.tree_shape.specs.View.{leaves_of_tree}
use Rattle.edit_book.specs.Orders.{OrderView, is_id}
use Rattle.edit_book.proofs.CopiedOrders.{told_all}
use Rattle.edit_book.proofs.Orders.{id_without_leaf_unplaced}
use Rattle.edit_book.proofs.order.Order.places_by_id.Goals as goal

pub returns : goal.returns
returns c =
    let at = c.loop-id in
    told_all at.table.items (λ (id : ℕ). position (is_id id) c.args.self.now.ids) (λ k w. at.invariant.within k (omega (arith, w, at.invariant.many)))
    (λ k w.
    let past = get_or_past c.self.inside.leaves.items k None (grind (arith, common_steps)) in
    ap (λ (v : OrderView). position (is_id k) v.ids) (sym c.self.view_is) ∙ id_without_leaf_unplaced (leaves_of_tree c.self.inside.shape.tree) _ _ k c.self.invariant past)
