use Rattle.std.proofs.Common.{◌≡◌, length, take}
use Rattle.edit_book.proofs.book.Book.copied_leaves.Given as goal

abbrev pub invariant-loop-at : goal.invariant-loop-at
invariant-loop-at l = record {
  all : l.at-end ≡ length l.self.tree.leaves;
  taken : l.leaves.items ≡ take l.at l.self.tree.leaves;
}
