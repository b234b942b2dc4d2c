-- The opening of a shared book.
use Rattle.std.specs.Prelude.{ℕ}
use Rattle.edit_journal.specs.declared.edit.Entry.{Entry}
use Rattle.edit_journal.specs.declared.opening.Opening.{Opening}
use Rattle.edit_book.specs.Books.{BookView}
use Rattle.edit_book.specs.declared.reply.BookCommand.{BookCommand}
use Rattle.edit_book.specs.declared.reply.Reply.{Reply}
use Rattle.turn_book.specs.Passes.{first_book}
use Rattle.turn_book.specs.declared.pass.Shared.{Shared}

abbrev pub shared_opening : Shared BookView BookCommand Reply Entry Opening → Opening
shared_opening shared = (first_book shared).opening

-- the session that made an entry
abbrev pub entry_session : Entry → ℕ
entry_session entry = entry.session
