use Rattle.std.proofs.Common.{ℕ, ◌<◌, List, length, ap, sym, subst, ◌∙◌, arith, insert}
use Rattle.tree_shape.specs.View.{leaves_of_tree}
use Rattle.edit_book.specs.Books.{Each}
use Rattle.edit_book.specs.Orders.{LeavesHaveIds, OrderView, number_at}
use Rattle.tree_shape.specs.Values.{values_of_numbers}
use Rattle.edit_book.proofs.Orders.{added_kept, kept_count, kept_there, next_is_new, room_there}
use Rattle.tree_shape.proofs.PlanSteps.{gathered_inserted}
use Rattle.edit_book.proofs.order.Order.insert.Goals as goal

pub insert-leaf-requires-clause-place : goal.insert-leaf-requires-clause-place
insert-leaf-requires-clause-place c = omega (arith, c.requires.place, ap (λ (v : OrderView). length v.ids) c.self.view_is, kept_count c.self.inside.shape.tree _ _ c.self.invariant)

pub insert-leaf-requires-clause-few : goal.insert-leaf-requires-clause-few
insert-leaf-requires-clause-few c = omega (arith, c.requires.few, ap (λ (v : OrderView). length v.ids) c.self.view_is, kept_count c.self.inside.shape.tree _ _ c.self.invariant)

pub set-requires : goal.set-requires
set-requires c = room_there c.self.inside.shape _ _ _ c.insert-leaf.result c.self.view_is c.requires.room c.len-len.ensures.lawful c.insert-leaf.ensures.number

pub invariant_of-self : goal.invariant_of-self
invariant_of-self c =
    let below = subst (λ (v : OrderView). Each (λ (k : ℕ). k < c.args.id) v.ids) (sym c.self.view_is) c.requires.beyond in
    let free = next_is_new c.self.inside.shape c.insert-leaf.result c.len-len.ensures.lawful c.insert-leaf.ensures.number in
    subst (λ (l : List ℕ). LeavesHaveIds l (number_at c.set.new.table.items) (number_at c.set-2.new.table.items)) (sym c.insert-leaf.ensures.leaves)
    (added_kept (leaves_of_tree c.self.inside.shape.tree) c.args.at c.insert-leaf.result c.args.id _ _ _ _ c.self.invariant free below c.set.ensures.here c.set.ensures.others c.set-2.ensures.here c.set-2.ensures.others)

pub returns : goal.returns
returns c =
    let ns = leaves_of_tree c.self.inside.shape.tree in
    let free = next_is_new c.self.inside.shape c.insert-leaf.result c.len-len.ensures.lawful c.insert-leaf.ensures.number in
    ap (values_of_numbers (number_at c.set.new.table.items)) c.insert-leaf.ensures.leaves
    ∙ (gathered_inserted _ _ c.args.at c.insert-leaf.result c.args.id ns (kept_there ns _ _ c.self.invariant) free c.set.ensures.here c.set.ensures.others
    ∙ ap (λ (v : OrderView). insert v.ids c.args.at c.args.id) c.self.view_is)
