use Rattle.std.proofs.Common.{arith}
use Rattle.edit_book.proofs.Trees.{lines_fit}
use Rattle.edit_book.proofs.Boxes.{lines_are}
use Rattle.edit_book.proofs.book.Book.add_entry.Goals as goal

pub entry_contents-requires-clause-lines : goal.entry_contents-requires-clause-lines
entry_contents-requires-clause-lines c = let fit = lines_fit _ _ _ c.self.invariant in omega (arith, fit, c.first.ensures, lines_are _ _ c.deref.ensures)
