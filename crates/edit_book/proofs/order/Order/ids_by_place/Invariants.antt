use Rattle.std.proofs.Common.{◌≡◌, ℕ, ◌<◌, length, slice_get}
use Rattle.edit_book.specs.Orders.{number_at}
use Rattle.edit_book.proofs.order.Order.ids_by_place.Given as goal

abbrev pub invariant-loop-at : goal.invariant-loop-at
invariant-loop-at l = record {
  many : length l.table.items ≡ l.at;
  within : (k : ℕ) → k < l.at → number_at l.table.items k ≡ slice_get l.self.ids k;
}
