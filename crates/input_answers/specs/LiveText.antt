-- What is written when the sessions of a script have ended.
use Rattle.std.specs.Prelude.{◌≡◌, ℕ, List}
use Rattle.command_words.specs.declared.command.Command.{Command}
use Rattle.command_words.specs.declared.command.Command.TheVariants.{Save}
use Rattle.edit_journal.specs.declared.edit.Entry.{Entry}
use Rattle.edit_journal.specs.declared.opening.Opening.{Opening}
use Rattle.edit_book.specs.declared.reply.Reply.{Reply}
use Rattle.journal_file.specs.SavedParts.{first_blocks}
use Rattle.journal_file.specs.Spelling.{saved_spelling}
use Rattle.verdict_report.specs.LiveText.{IsLiveReport}
use Rattle.input_answers.specs.declared.live_text.LiveOutput.{LiveOutput}
use Rattle.input_answers.specs.declared.live_text.LiveOutput.TheVariants.{Report, SavedText}

-- what is written for a command whose sessions edit a document
abbrev pub output_of : Command → LiveOutput
output_of Save = SavedText
output_of _ = Report

-- The report of the replies, of the journal and of the verdict at its end; or the spelling of the head, of what the document began with, and of the journal.
abbrev pub IsLiveText : LiveOutput → List (List ℕ) → Opening → List Entry → List (List Reply) → List ℕ → Type 0
IsLiveText Report head opening entries replies text = IsLiveReport opening entries replies text
IsLiveText SavedText head opening entries replies text = text ≡ saved_spelling head opening.setting.profile (first_blocks opening) entries
