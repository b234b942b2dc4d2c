use Rattle.std.proofs.Common.{◌≡◌, ◌++◌, length}
use Rattle.std.specs.Vec.Iter.{into_iter_items, into_iter_len}
use Rattle.edit_book.specs.Books.{document}
use Rattle.edit_book.specs.HeaderTrees.{AreLeavesTaken}
use Rattle.edit_book.proofs.book.Book.taken_leaves.Given as goal

abbrev pub invariant-loop-item : goal.invariant-loop-item
invariant-loop-item l = record {
  all : l.yielded ++ into_iter_items l.item-iterator ≡ into_iter_items l.initial.item-iterator;
  left : into_iter_len l.item-iterator ≡ length (into_iter_items l.item-iterator);
  taken : AreLeavesTaken l.yielded l.taken.items (document l.self).blocks;
}
