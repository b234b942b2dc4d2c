use Rattle.std.proofs.Common.{◌≡◌, ◌++◌, All, length}
use Rattle.std.specs.Vec.Iter.{into_iter_items, into_iter_len}
use Rattle.journal_file.specs.SavedParts.{IsSpelledEntry, MayAllCome}
use Rattle.journal_file.proofs.book.follow_all.Given as goal

abbrev pub invariant-loop-entry : goal.invariant-loop-entry
invariant-loop-entry l = record {
  opening : l.outline.opening ≡ l.fn.outline.opening;
  all : l.outline.entries ++ into_iter_items l.entry-iterator ≡ l.fn.entries.items;
  left : into_iter_len l.entry-iterator ≡ length (into_iter_items l.entry-iterator);
  come : MayAllCome l.fn.outline.opening l.outline.entries (into_iter_items l.entry-iterator);
  written : All IsSpelledEntry (into_iter_items l.entry-iterator);
}
