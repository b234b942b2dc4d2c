use Rattle.std.proofs.Common.{◌≡◌, ℕ, ◌<◌, length, Some}
use Rattle.edit_book.specs.Orders.{number_at}
use Rattle.edit_book.proofs.order.all_below.Given as goal

abbrev pub invariant-loop-n : goal.invariant-loop-n
invariant-loop-n l = record {
  many : length l.table.items ≡ l.n;
  within : (k : ℕ) → k < l.n → number_at l.table.items k ≡ Some k;
}
