use Rattle.std.proofs.Common.{◌≡◌, ◌++◌, length}
use Rattle.std.specs.Vec.Iter.{into_iter_items, into_iter_len}
use Rattle.edit_groups.specs.Chunks.{earlier_steps}
use Rattle.edit_groups.proofs.book.earlier_steps.Given as goal

abbrev pub invariant-loop-entry : goal.invariant-loop-entry
invariant-loop-entry l = record {
  all : l.yielded ++ into_iter_items l.entry-iterator ≡ into_iter_items l.initial.entry-iterator;
  left : into_iter_len l.entry-iterator ≡ length (into_iter_items l.entry-iterator);
  same : l.steps.items ≡ earlier_steps l.yielded;
}
