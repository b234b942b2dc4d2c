use Rattle.std.proofs.Common.{◌<◌, length, ap, sym, ◌∙◌, arith, slice_get}
use Rattle.tree_shape.specs.View.{leaf_count_of}
use Rattle.edit_book.specs.Orders.{OrderView, number_at}
use Rattle.edit_book.proofs.Orders.{id_at_leaf_place, kept_count}
use Rattle.std.proofs.lemmas.Option.{slice_get_past}
use Rattle.edit_book.proofs.order.Order.get.Goals as goal

pub returns-then-at-len : goal.returns-then-at-len
returns-then-at-len c =
    let within : c.args.at < leaf_count_of c.self.inside.shape.tree = omega (arith, c.if-at-len.true, c.len.ensures.leaves) in
    c.found.ensures
    ∙ ((λ i. number_at (c.as_slice.ensures.value i) (c.leaf.ensures i))
    ∙ (sym (id_at_leaf_place c.self.inside.shape.tree _ _ c.args.at c.self.invariant within) ∙ ap (λ (v : OrderView). slice_get v.ids c.args.at) c.self.view_is))

pub returns : goal.returns
returns c =
    let many = ap (λ (v : OrderView). length v.ids) (sym c.self.view_is) ∙ kept_count c.self.inside.shape.tree _ _ c.self.invariant in
    sym (slice_get_past c.args.self.now.ids c.args.at (omega (arith, c.if-at-len.false, c.len.ensures.leaves, many)))
