-- A book's replies keep the laws of a core.
use Rattle.std.proofs.Common.{refl}
use Rattle.edit_journal.specs.declared.opening.Opening.{Opening}
use Rattle.edit_book.specs.Memory.{asked_of_book}
use Rattle.edit_book.proofs.Carried.{asked_is_alone, answer_enters, answer_free, answer_stays, entry_number, short_entry}
use Rattle.turn_book.specs.Core.{IsCore}
use Rattle.edit_sessions.specs.Core.{document_core}

-- the book of this opening is a core
pub is_core : (opening : Opening) → IsCore (document_core opening)
is_core opening = record {
  number = (λ n m c r e h. entry_number n (asked_of_book m c) r e h);
  short_entry = (λ n m c. short_entry n (asked_of_book m c));
  short_version = refl;
  short_base = refl;
  enters = (λ n before m c r e h some. answer_enters opening n before (asked_of_book m c) r e h some);
  stays = (λ n before m c r h none. answer_stays opening n before (asked_of_book m c) r (asked_is_alone m c) h none);
  free = (λ n before after m c r h none. answer_free opening before after (asked_of_book m c) r h none);
}
