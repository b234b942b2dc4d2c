use Rattle.std.proofs.Common.{length, ap, sym, ◌∙◌}
use Rattle.edit_book.specs.Orders.{OrderView}
use Rattle.edit_book.proofs.Orders.{kept_count}
use Rattle.edit_book.proofs.order.Order.len.Goals as goal

pub returns : goal.returns
returns c = c.len.ensures.leaves ∙ (sym (kept_count c.self.inside.shape.tree _ _ c.self.invariant) ∙ ap (λ (v : OrderView). length v.ids) c.self.view_is)
