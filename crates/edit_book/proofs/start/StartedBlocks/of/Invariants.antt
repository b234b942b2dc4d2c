use Rattle.std.proofs.Common.{◌≡◌, ◌++◌, length}
use Rattle.std.specs.Vec.Iter.{into_iter_items, into_iter_len}
use Rattle.edit_book.specs.Opened.{HasKept}
use Rattle.edit_book.proofs.start.StartedBlocks.of.Given as goal

abbrev pub invariant-loop-block : goal.invariant-loop-block
invariant-loop-block l = record {
  all : l.yielded ++ into_iter_items l.block-iterator ≡ into_iter_items l.initial.block-iterator;
  left : into_iter_len l.block-iterator ≡ length (into_iter_items l.block-iterator);
  kept : HasKept l.yielded l.kept;
}
