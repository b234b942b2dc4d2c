use Rattle.std.proofs.Common.{◌≡◌, ◌++◌, length}
use Rattle.std.specs.Vec.Iter.{into_iter_items, into_iter_len}
use Rattle.journal_file.specs.SavedParts.{numbered_from}
use Rattle.journal_file.proofs.read.numbered.Given as goal

abbrev pub invariant-loop-text : goal.invariant-loop-text
invariant-loop-text l = record {
  all : l.yielded ++ into_iter_items l.text-iterator ≡ into_iter_items l.initial.text-iterator;
  left : into_iter_len l.text-iterator ≡ length (into_iter_items l.text-iterator);
  same : l.blocks ≡ numbered_from 0 l.yielded;
}
