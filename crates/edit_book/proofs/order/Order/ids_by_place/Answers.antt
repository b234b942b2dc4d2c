use Rattle.std.proofs.Common.{arith, slice_get}
use Rattle.std.proofs.lemmas.Option.{slice_get_past}
use Rattle.edit_book.proofs.CopiedOrders.{told_all}
use Rattle.edit_book.proofs.order.Order.ids_by_place.Goals as goal

pub returns : goal.returns
returns c =
    let at = c.loop-at in
    told_all at.table.items (slice_get c.args.self.now.ids) (λ k w. at.invariant.within k (omega (arith, w, at.invariant.many)))
    (λ k w. slice_get_past c.args.self.now.ids k (omega (arith, w, at.invariant.many, c.loop-at-test.false, c.len-at-end.ensures)))
