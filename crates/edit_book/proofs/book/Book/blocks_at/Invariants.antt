use Rattle.std.proofs.Common.{◌≡◌, length, take}
use Rattle.edit_book.specs.Books.{document}
use Rattle.edit_book.specs.Headers.{blocks_at}
use Rattle.edit_book.proofs.book.Book.blocks_at.Given as goal

abbrev pub invariant-loop-at : goal.invariant-loop-at
invariant-loop-at l = record {
  all : l.at-end ≡ length (document l.self).blocks;
  taken : l.blocks ≡ take l.at (blocks_at (document l.self).blocks);
}
