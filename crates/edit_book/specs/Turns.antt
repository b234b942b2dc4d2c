-- What a turn of the book may answer, and what a command needs.
use Rattle.std.specs.Prelude.{◌≡◌, ◌<◌, ◌⊎◌, ℕ, List, [], ◌∷◌, Option, Some, None}
use Rattle.edit_journal.specs.declared.edit.Entry.{Entry}
use Rattle.edit_journal.specs.declared.opening.Opening.{Opening}
use Rattle.block_summary.specs.Prepared.{IsPreparedFor}
use Rattle.block_summary.specs.declared.prepared.Prepared.{Prepared}
use Rattle.edit_journal.specs.Documents.{document_of, names_given, text_at}
use Rattle.edit_journal.specs.Entries.{head_id}
use Rattle.edit_journal.specs.declared.edit.BlockAt.{BlockAt}
use Rattle.edit_book.specs.declared.reply.Again.{Again}
use Rattle.edit_book.specs.declared.reply.BookCommand.{BookCommand}
use Rattle.edit_book.specs.declared.reply.BookCommand.TheVariants as command
use Rattle.edit_book.specs.declared.reply.Reply.{Reply}
use Rattle.edit_book.specs.declared.reply.Reply.TheVariants as reply
use Rattle.edit_book.specs.Replies.{IsReply, entry_of, request_of_command}

-- want of memory, which enters nothing, or the reply that is due at this journal, and its entry; and no block has the header's id
abbrev pub IsRightReply : Opening → List Entry → ℕ → BookCommand → Reply → Option Entry → Type 0
IsRightReply opening before session command r added =
    ((r ≡ reply.NoMemory) × (added ≡ None))
    ⊎ (IsReply opening before (request_of_command command) r × (added ≡ entry_of session (request_of_command command) r) × ((document_of opening before).drawn < head_id))

-- the journal has the entry of the header with this number, and the text was prepared under its names
pub record IsFitUnder (opening : Opening) (journal : List Entry) (head : ℕ) (prepared : Prepared) : Type 0 where
  pub names : List (List ℕ)
  pub given : names_given opening journal head ≡ Some names
  pub prepared_for : IsPreparedFor opening.setting.profile names prepared

-- the block got a text from the entry with the stamp, and this is its summary under these names
pub record IsFitAgain (opening : Opening) (journal : List Entry) (names : List (List ℕ)) (again : Again) : Type 0 where
  pub given : text_at opening journal again.block again.stamp ≡ Some again.prepared.text
  pub prepared_for : IsPreparedFor opening.setting.profile names again.prepared

abbrev pub AreFitAgain : Opening → List Entry → List (List ℕ) → List Again → Type 0
AreFitAgain opening journal names [] = Unit {0}
AreFitAgain opening journal names (again ∷ more) = IsFitAgain opening journal names again × AreFitAgain opening journal names more

-- each of these blocks has the text that the entry with its stamp gave it
abbrev pub AreTextsGiven : Opening → List Entry → List BlockAt → Type 0
AreTextsGiven opening journal [] = Unit {0}
AreTextsGiven opening journal (b ∷ bs) = (text_at opening journal b.block b.stamp ≡ Some b.text) × AreTextsGiven opening journal bs

-- what a command hands over was prepared for names and texts that the journal has
abbrev pub IsFitBookCommand : Opening → List Entry → BookCommand → Type 0
IsFitBookCommand opening journal (command.Look block) = Unit {0}
IsFitBookCommand opening journal (command.Put block seen head prepared) = IsFitUnder opening journal head prepared
IsFitBookCommand opening journal (command.Add anchor head prepared) = IsFitUnder opening journal head prepared
IsFitBookCommand opening journal (command.Cut block seen) = Unit {0}
IsFitBookCommand opening journal (command.LoopAt line) = Unit {0}
IsFitBookCommand opening journal command.Verdict = Unit {0}
IsFitBookCommand opening journal command.LookHead = Unit {0}
IsFitBookCommand opening journal command.Texts = Unit {0}
IsFitBookCommand opening journal (command.PutHead seen names again) = AreFitAgain opening journal names again
