use Rattle.std.proofs.Common.{◌≡◌, ℕ, [], length, slice_index_or}
use Rattle.carriage_model.proofs.beds.empty_stacks.Given as goal

abbrev pub invariant-loop : goal.invariant-loop
invariant-loop l = record { length : length l.stacks.items ≡ l.counter; bare : (k : ℕ) → slice_index_or l.stacks.items k [] ≡ [] }
