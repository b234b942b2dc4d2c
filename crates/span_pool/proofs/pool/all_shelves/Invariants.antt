use Rattle.std.proofs.Common.{◌≡◌, ◌≤◌, length, vec_capacity}
use Rattle.span_pool.specs.Pool.{AreBare}
use Rattle.span_pool.proofs.pool.all_shelves.Given as goal

abbrev pub invariant-loop-class : goal.invariant-loop-class
invariant-loop-class g l = record {
  count : length l.shelves.items ≡ l.class;
  places : 63 ≤ vec_capacity l.shelves;
  bare : AreBare l.shelves.items;
}
