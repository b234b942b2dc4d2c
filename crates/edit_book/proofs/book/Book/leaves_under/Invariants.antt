use Rattle.std.proofs.Common.{◌≡◌, length}
use Rattle.std.specs.Vec.Iter.{into_iter_items, into_iter_len}
use Rattle.edit_book.specs.Books.{document}
use Rattle.edit_book.specs.HeaderTrees.{lines_left}
use Rattle.edit_book.proofs.HeaderTrees.{AreMade}
use Rattle.edit_book.proofs.book.Book.leaves_under.Given as goal

abbrev pub invariant-loop-leaf : goal.invariant-loop-leaf
invariant-loop-leaf g l = record {
  left : into_iter_len l.leaf-iterator ≡ length (into_iter_items l.leaf-iterator);
  made : AreMade l.setting (document l.self).blocks (into_iter_items l.leaf-iterator) l.leaves.items l.at l.fn.steps l.steps (lines_left l.fn.taken.items (document l.self).blocks);
}
