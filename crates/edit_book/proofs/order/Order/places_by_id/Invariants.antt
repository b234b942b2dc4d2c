use Rattle.std.proofs.Common.{◌≡◌, ℕ, ◌<◌, length, position}
use Rattle.edit_book.specs.Orders.{is_id, number_at}
use Rattle.edit_book.proofs.order.Order.places_by_id.Given as goal

abbrev pub invariant-loop-id : goal.invariant-loop-id
invariant-loop-id l = record {
  many : length l.table.items ≡ l.id;
  within : (k : ℕ) → k < l.id → number_at l.table.items k ≡ position (is_id k) l.self.ids;
}
