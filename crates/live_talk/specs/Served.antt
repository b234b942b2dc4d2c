-- A conversation from its first line to its end, and the status with which it ends.
use Rattle.std.specs.Prelude.{◌≡◌, ℕ, ◌+◌, Bool, List, [], ◌∷◌, ◌++◌, length, take, flat_map, Some, Result, Ok, Err}
use Rattle.knit_base.specs.declared.profile.Profile.{Profile}
use Rattle.knit_ports.specs.Faults.{Rose}
use Rattle.knit_ports.specs.Pieces.{AreSaid, Heard, Piece, said_in}
use Rattle.knit_ports.specs.WholeLines.{with_feed}
use Rattle.knitout_reader.specs.declared.head.Head.{Head}
use Rattle.knitout_reader.specs.declared.head.HeadFault.{HeadFault}
use Rattle.knitout_reader.specs.Head.{IsHead, IsHeadFault, head_of}
use Rattle.machine_profile.specs.declared.Chosen.{Chosen}
use Rattle.edit_journal.specs.declared.edit.BlockAt.{BlockAt}
use Rattle.edit_journal.specs.declared.edit.Entry.{Entry}
use Rattle.edit_journal.specs.declared.opening.Opening.{Opening}
use Rattle.edit_groups.specs.Chunks.{earlier_steps}
use Rattle.journal_file.specs.Faults.{HasNoSpelling, IsBadJournal}
use Rattle.journal_file.specs.SavedParts.{IsLawfulSaved, opening_of_saved}
use Rattle.journal_file.specs.Spelling.{saved_spelling}
use Rattle.journal_file.specs.declared.fault.JournalCause.{JournalCause}
use Rattle.journal_file.specs.declared.fault.JournalFault.TheVariants.{At}
use Rattle.script_reader.specs.declared.fault.Cause.{Cause}
use Rattle.script_reader.specs.declared.fault.Cause.TheVariants as cause
use Rattle.opening_reader.specs.HeardOpenings.{EndsOpening}
use Rattle.opening_reader.specs.declared.opening.OpeningFault.TheVariants as fault
use Rattle.opening_reader.specs.declared.opening.OpeningKind.{OpeningKind}
use Rattle.opening_reader.specs.declared.opening.OpeningKind.TheVariants as kind
use Rattle.opening_reader.specs.declared.opening.OpeningText.{OpeningText}
use Rattle.talk_loop.specs.Conversed.{Conversed}
use Rattle.talk_loop.specs.InStep.{Asking}
use Rattle.talk_loop.specs.declared.conversation.TalkFault.{TalkFault}
use Rattle.talk_loop.specs.declared.conversation.TalkFault.TheVariants as talk_fault
use Rattle.talk_desk.specs.Conversation.{Ends, asking}
use Rattle.talk_desk.specs.Styles.{IsOpenedIn}
use Rattle.verdict_report.specs.declared.refusal.Refusal.{Refusal}
use Rattle.verdict_report.specs.declared.refusal.Refusal.TheVariants as refusal
use Rattle.verdict_report.specs.Refusals.{refusal_text}
use Rattle.verdict_report.specs.VerdictText.{Text}
use Rattle.input_answers.specs.declared.outcome.Status.{Status}
use Rattle.input_answers.specs.declared.outcome.Status.TheVariants as status
use Rattle.file_run.specs.Bodies.{body_of}
use Rattle.input_answers.specs.Due.{BodyFits, IsSizeRefusal, head_refusal}
use Rattle.input_answers.specs.DueLive.{IsScriptOpening}
use Rattle.input_answers.specs.DueReplay.{journal_refusal}

-- what is said of a line that can't stand where it does
abbrev pub line_refusal : ℕ → Cause → Refusal
line_refusal line cause.LineLong = refusal.LineLong line
line_refusal line cause.NotUtf8 = refusal.NotUtf8 line
line_refusal line why = refusal.BadScript line why

-- What the document of a conversation is that has this opening: with this head it began so, and these entries are in its journal.
pub data IsDocumentOf (chosen : Chosen) : OpeningKind → List (List ℕ) → List (List ℕ) → Opening → List Entry → Type 0 where
  -- it begins with the text
  anew : (text : List (List ℕ)) (head : Head) (opening : Opening) → IsHead text head → BodyFits chosen.block (length (body_of text)) → IsScriptOpening chosen head text opening
      → IsDocumentOf chosen kind.Text text (head_of text) opening []
  -- it goes on from the saved text that the lines are, whatever the words of the command line say
  again : (lines head : List (List ℕ)) (profile : Profile) (blocks : List BlockAt) (entries : List Entry) → flat_map with_feed lines ≡ saved_spelling head profile blocks entries
      → IsLawfulSaved head profile blocks entries → IsDocumentOf chosen kind.Saved lines head (opening_of_saved head profile blocks) entries

-- The pieces that are the opening were heard, with these bytes pending behind them; it is refused for this reason, and the program is to end so.
pub data IsTalkRefused (chosen : Chosen) (heard : List Piece) (pending : List ℕ) : Refusal → Status → Type 0 where
  -- a line can't stand where it does, or isn't there
  bad_line : (line : ℕ) (why : Cause) → EndsOpening heard pending (Err (fault.At line why)) → IsTalkRefused chosen heard pending (line_refusal line why) status.BadInput
  -- the lines have too many bytes
  too_many : EndsOpening heard pending (Err fault.TooManyBytes) → IsTalkRefused chosen heard pending refusal.TooManyBytes status.TooLarge
  -- hearing failed
  failed : EndsOpening heard pending (Err fault.Failed) → IsTalkRefused chosen heard pending refusal.ReadFault status.ReadFault
  -- the head of the text is refused, for the first reason that holds
  bad_head : (told : OpeningText) (why : HeadFault) (said : Refusal) → EndsOpening heard pending (Ok told) → told.kind ≡ kind.Text → IsHeadFault told.text why → head_refusal why ≡ Some said
      → IsTalkRefused chosen heard pending said status.BadInput
  -- the body of the text has too many lines, or else too many blocks
  too_large : (told : OpeningText) (head : Head) (said : Refusal) → EndsOpening heard pending (Ok told) → told.kind ≡ kind.Text → IsHead told.text head
      → IsSizeRefusal chosen.block (length (body_of told.text)) said → IsTalkRefused chosen heard pending said status.TooLarge
  -- the lines of the saved text are none, and this is the first bad one of them
  bad_journal : (told : OpeningText) (line : ℕ) (why : JournalCause) → EndsOpening heard pending (Ok told) → told.kind ≡ kind.Saved → IsBadJournal (flat_map with_feed told.text) (At line why)
      → HasNoSpelling (flat_map with_feed told.text) → IsTalkRefused chosen heard pending (journal_refusal line why) status.BadInput

-- The pieces that are the opening were heard, with these bytes pending behind them; this is the document, and the line behind has this number.
pub record IsTalkBegun (chosen : Chosen) (heard : List Piece) (pending : List ℕ) (head : List (List ℕ)) (opening : Opening) (entries : List Entry) (first : ℕ) : Type 0 where
  pub told : OpeningText
  pub told_of : EndsOpening heard pending (Ok told)
  pub document : IsDocumentOf chosen told.kind told.text head opening entries
  pub first_is : first ≡ told.lines + 1

-- So a text was said with which the program is to end: whole; or a front of it, since saying failed; or there was no memory for it.
pub data IsEnded (text : Text) (ends : Status) (pieces : List Piece) : Status → Type 0 where
  whole : AreSaid pieces → said_in pieces ≡ text → IsEnded text ends pieces ends
  front : (n : ℕ) → AreSaid pieces → said_in pieces ≡ take n text → IsEnded text ends pieces status.WriteFault
  nothing : pieces ≡ [] → IsEnded text ends pieces status.NoMemory

-- the status of a conversation that ended so, where hearing didn't fail
pub data IsTalkStatus : Result (Unit {0}) TalkFault → Status → Type 0 where
  done : IsTalkStatus (Ok tt) status.Done
  mute : IsTalkStatus (Err talk_fault.Saying) status.WriteFault
  short : IsTalkStatus (Err talk_fault.NoMemory) status.NoMemory

-- This text was said, and then a conversation, whose first bytes are those that were pending, went on to its end.
pub data IsTalked {Order Answer State : Type 0} (asking : Asking Order Answer State) (ends : List (List ℕ) → List Answer → List ℕ → Type 0) (text : Text) (pending : List ℕ) (pieces : List Piece) : Status → Type 0 where
  -- saying failed, behind a front of the text
  cut_off : (n : ℕ) → AreSaid pieces → said_in pieces ≡ take n text → IsTalked asking ends text pending pieces status.WriteFault
  conversed : (said more : List Piece) (end : Result (Unit {0}) TalkFault) (result : Status) → pieces ≡ said ++ more → AreSaid said → said_in said ≡ text
      → Conversed asking ends (Heard pending ∷ more) end → IsTalkStatus end result → IsTalked asking ends text pending pieces result
  -- hearing failed, and that was said last
  deaf : (said more last : List Piece) (result : Status) → pieces ≡ said ++ (more ++ last) → AreSaid said → said_in said ≡ text
      → Conversed asking ends (Heard pending ∷ more) (Err talk_fault.Hearing) → IsEnded (refusal_text refusal.ReadFault) status.ReadFault last result
      → IsTalked asking ends text pending pieces result

-- What was heard and said of a conversation, as JSON or as text, and how it ended.
pub data Served (json : Bool) (chosen : Chosen) (pieces : List Piece) : Status → Type 0 where
  -- memory ran out before anything was said
  stopped : said_in pieces ≡ [] → Served json chosen pieces status.NoMemory
  -- the opening was refused
  refused : (heard more : List Piece) (pending : List ℕ) (said : Refusal) (ends result : Status) → pieces ≡ heard ++ more → IsTalkRefused chosen heard pending said ends
      → IsEnded (refusal_text said) ends more result → Served json chosen pieces result
  -- the document stood, that was said, and its sessions were answered
  talked : (heard more : List Piece) (pending : List ℕ) (head : List (List ℕ)) (opening : Opening) (entries : List Entry) (first : ℕ) (text : Text) (result : Status) → pieces ≡ heard ++ more
      → IsTalkBegun chosen heard pending head opening entries first → IsOpenedIn json opening entries text
      → IsTalked (asking json head opening (earlier_steps entries) first) (Ends json head opening (earlier_steps entries) first) text pending more result → Served json chosen pieces result

-- A call failed where hearing is told to have failed, or saying; where none did, neither is told.
pub record HasServeCause (faults_before faults_after : ℕ) (result : Status) : Type 0 where
  pub read : result ≡ status.ReadFault → Rose faults_before faults_after
  pub write : result ≡ status.WriteFault → Rose faults_before faults_after
