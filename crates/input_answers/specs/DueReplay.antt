-- What is due for a saved text that was read whole: the text and the status.
use Rattle.std.specs.Prelude.{◌≡◌, ℕ, List}
use Rattle.knit_base.specs.declared.profile.Profile.{Profile}
use Rattle.edit_journal.specs.declared.edit.BlockAt.{BlockAt}
use Rattle.edit_journal.specs.declared.edit.Entry.{Entry}
use Rattle.journal_file.specs.declared.fault.JournalCause.{JournalCause}
use Rattle.journal_file.specs.declared.fault.JournalCause.TheVariants.{BadLine, NoFit}
use Rattle.journal_file.specs.declared.fault.JournalFault.TheVariants.{At}
use Rattle.journal_file.specs.Faults.{HasNoSpelling, IsBadJournal}
use Rattle.journal_file.specs.SavedParts.{IsLawfulSaved, opening_of_saved}
use Rattle.journal_file.specs.Spelling.{saved_spelling}
use Rattle.verdict_report.specs.declared.refusal.Refusal.{Refusal}
use Rattle.verdict_report.specs.declared.refusal.Refusal.TheVariants as refusal
use Rattle.verdict_report.specs.LiveText.{IsFinalReport}
use Rattle.verdict_report.specs.Refusals.{refusal_text}
use Rattle.input_answers.specs.declared.outcome.Status.{Status}
use Rattle.input_answers.specs.declared.outcome.Status.TheVariants as status

-- the input is the spelling of these parts, which are lawful
pub record IsSaved (input : List ℕ) (head : List (List ℕ)) (profile : Profile) (blocks : List BlockAt) (entries : List Entry) : Type 0 where
  pub spelt : input ≡ saved_spelling head profile blocks entries
  pub lawful : IsLawfulSaved head profile blocks entries

-- what is said of the first bad line
abbrev pub journal_refusal : ℕ → JournalCause → Refusal
journal_refusal line BadLine = refusal.BadJournal line
journal_refusal line NoFit = refusal.NoFit line

-- the text and the status that are due for this input
pub data DueReplay (input : List ℕ) : List ℕ → Status → Type 0 where
  -- the input is no saved text: the first bad line is named, with its cause
  bad_journal : (line : ℕ) (cause : JournalCause) → IsBadJournal input (At line cause) → HasNoSpelling input → DueReplay input (refusal_text (journal_refusal line cause)) status.BadInput
  -- the input is a saved text: the version at its end, and the verdict on the document there
  replayed : (head : List (List ℕ)) (profile : Profile) (blocks : List BlockAt) (entries : List Entry) (text : List ℕ) → IsSaved input head profile blocks entries
      → IsFinalReport (opening_of_saved head profile blocks) entries text → DueReplay input text status.Done
