use Rattle.std.proofs.Common.{◌≡◌, ℕ, List, Some, length, position, slice_get, ap, sym, subst, ◌∙◌, arith}
use Rattle.tree_shape.specs.Changes.{numbers_below}
use Rattle.tree_shape.specs.Values.{values_of_numbers}
use Rattle.tree_shape.specs.View.{leaves_of_tree}
use Rattle.edit_book.specs.Orders.{LeavesHaveIds, OrderView, is_id, number_at}
use Rattle.edit_book.proofs.CopiedOrders.{copied_ids, copied_kept, own_place}
use Rattle.edit_book.proofs.Orders.{kept_count, leaves_once}
use Rattle.edit_book.proofs.order.Order.try_clone.Goals as goal
use Rattle.edit_book.proofs.order.Order.try_clone.Goals.{In_ok-leaves}

pub build-requires : goal.build-requires
build-requires c = omega (arith, c.len.ensures.leaves, c.len.ensures.lawful.few)

-- there is a leaf for each id
leaves_are : (c : In_ok-leaves) → leaves_of_tree c.in_ok-shape.shape.tree ≡ numbers_below (length c.args.self.now.ids)
leaves_are c =
    let many = c.len.ensures.leaves ∙ (sym (kept_count c.self.inside.shape.tree _ _ c.self.invariant) ∙ ap (λ (v : OrderView). length v.ids) c.self.view_is) in
    c.in_ok-shape.ensures.leaves ∙ ap numbers_below many

pub invariant_of-result : goal.invariant_of-result
invariant_of-result c =
    let here = (goal.at.invariant_of-result c).In_ok-leaves in
    let own = own_place c.self.inside.shape.tree _ _ c.self.invariant (leaves_once c.self.inside.shape c.len.ensures.lawful) in
    subst (λ (l : List ℕ). LeavesHaveIds l (number_at c.in_ok-ids.ids.items) (number_at c.in_ok-leaves.leaves.items)) (sym (leaves_are here))
    (copied_kept c.args.self.now.ids _ _ c.in_ok-ids.ensures c.in_ok-leaves.ensures
    (subst (λ (v : OrderView). (at id : ℕ) → slice_get v.ids at ≡ Some id → position (is_id id) v.ids ≡ Some at) c.self.view_is own))

pub returns : goal.returns
returns c =
    let here = (goal.at.returns c).In_ok-leaves in
    ap (values_of_numbers (number_at c.in_ok-ids.ids.items)) (leaves_are here) ∙ copied_ids c.args.self.now.ids _ c.in_ok-ids.ensures
