use Rattle.std.proofs.Common.{ap}
use Rattle.tree_shape.specs.View.{leaves_of_tree}
use Rattle.edit_book.specs.Orders.{number_at}
use Rattle.edit_book.proofs.Orders.{kept_same}
use Rattle.edit_book.proofs.order.Order.reserve_one.Goals as goal

pub invariant_of-self-in_err-lengthen : goal.invariant_of-self-in_err-lengthen
invariant_of-self-in_err-lengthen c =
    kept_same (leaves_of_tree c.self.inside.shape.tree) _ (number_at c.self.inside.ids.items) (number_at c.self.inside.leaves.items) _ _ (ap leaves_of_tree c.reserve_one.ensures.same.tree) c.lengthen.ensures.same (λ k. λ i. number_at c.self.inside.leaves.items k) c.self.invariant

pub invariant_of-self-2 : goal.invariant_of-self-2
invariant_of-self-2 c =
    kept_same (leaves_of_tree c.self.inside.shape.tree) _ (number_at c.self.inside.ids.items) (number_at c.self.inside.leaves.items) _ _ (ap leaves_of_tree c.reserve_one.ensures.same.tree) c.lengthen.ensures.same c.lengthen-2.ensures.same c.self.invariant
