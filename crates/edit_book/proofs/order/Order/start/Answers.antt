use Rattle.std.proofs.Common.{List, ℕ, ap, sym, subst, ◌∙◌}
use Rattle.tree_shape.specs.Values.{values_of_numbers}
use Rattle.edit_book.specs.Orders.{LeavesHaveIds, number_at}
use Rattle.edit_book.proofs.Orders.{started_ids, started_kept}
use Rattle.edit_book.proofs.order.Order.start.Goals as goal

pub invariant_of-result : goal.invariant_of-result
invariant_of-result c =
    subst (λ (l : List ℕ). LeavesHaveIds l (number_at c.in_ok-ids.ids.items) (number_at c.in_ok-leaves.leaves.items)) (sym c.in_ok-shape.ensures.leaves)
    (started_kept c.args.count _ _ c.in_ok-ids.ensures.within c.in_ok-leaves.ensures.within c.in_ok-leaves.ensures.past)

pub returns : goal.returns
returns c = ap (values_of_numbers (number_at c.in_ok-ids.ids.items)) c.in_ok-shape.ensures.leaves ∙ started_ids c.args.count _ c.in_ok-ids.ensures.within
