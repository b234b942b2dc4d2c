-- What is due for a saved text of which a tally is asked: the text and the status.
use Rattle.std.specs.Prelude.{ℕ, List}
use Rattle.knit_base.specs.declared.profile.Profile.{Profile}
use Rattle.edit_journal.specs.declared.edit.BlockAt.{BlockAt}
use Rattle.edit_journal.specs.declared.edit.Entry.{Entry}
use Rattle.journal_file.specs.declared.fault.JournalCause.{JournalCause}
use Rattle.journal_file.specs.declared.fault.JournalFault.TheVariants.{At}
use Rattle.journal_file.specs.Faults.{HasNoSpelling, IsBadJournal}
use Rattle.journal_file.specs.SavedParts.{opening_of_saved}
use Rattle.tally_tree.specs.Docs.{DocView, HasBlocks, IsRange, setting_now}
use Rattle.tally_tree.specs.Tallies.{TallyCounts}
use Rattle.verdict_report.specs.declared.refusal.Refusal.TheVariants as refusal
use Rattle.verdict_report.specs.Refusals.{refusal_text}
use Rattle.input_answers.specs.declared.outcome.Status.{Status}
use Rattle.input_answers.specs.declared.outcome.Status.TheVariants as status
use Rattle.input_answers.specs.DueReplay.{IsSaved, journal_refusal}
use Rattle.reply_report.specs.TallyText.{tally_text}

-- the document at the end of a saved text
abbrev pub saved_doc : List (List ℕ) → Profile → List BlockAt → List Entry → DocView
saved_doc head profile blocks entries = record { opening = opening_of_saved head profile blocks; entries = entries }

-- the text and the status that are due for the blocks of a document from one place to another
pub data IsDueRange (doc : DocView) (from to : ℕ) : List ℕ → Status → Type 0 where
  -- it has no such blocks, or the places stand in the wrong order
  bad_range : (HasBlocks doc from to → ⊥) → IsDueRange doc from to (refusal_text refusal.BadRange) status.BadInput
  -- what their lines come to
  tallied : (v : TallyCounts) → HasBlocks doc from to → IsRange doc from to v → IsDueRange doc from to (tally_text from to (setting_now doc).declared v) status.Done

-- the text and the status that are due for this input, of whose last version the blocks from one place to another are asked for
pub data DueTally (from to : ℕ) (input : List ℕ) : List ℕ → Status → Type 0 where
  -- the input is no saved text: the first bad line is named, with its cause
  bad_journal : (line : ℕ) (cause : JournalCause) → IsBadJournal input (At line cause) → HasNoSpelling input
      → DueTally from to input (refusal_text (journal_refusal line cause)) status.BadInput
  -- it is one: what is due for the blocks of the document at its end
  ended : (head : List (List ℕ)) (profile : Profile) (blocks : List BlockAt) (entries : List Entry) (text : List ℕ) (end : Status) → IsSaved input head profile blocks entries
      → IsDueRange (saved_doc head profile blocks entries) from to text end → DueTally from to input text end
