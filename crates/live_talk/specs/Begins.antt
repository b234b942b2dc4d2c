-- What a conversation begins with, once its text is there. No public contract speaks of it.
use Rattle.std.specs.Prelude.{◌≡◌, ℕ, Bool, List, flat_map, length, Some}
use Rattle.edit_groups.specs.Chunks.{earlier_steps}
use Rattle.edit_journal.specs.declared.edit.Entry.{Entry}
use Rattle.edit_journal.specs.declared.opening.Opening.{Opening}
use Rattle.input_answers.specs.Asked.{as_json}
use Rattle.file_run.specs.Bodies.{body_of}
use Rattle.input_answers.specs.Due.{IsSizeRefusal, head_refusal}
use Rattle.input_answers.specs.DueReplay.{journal_refusal}
use Rattle.input_answers.specs.declared.outcome.Status.{Status}
use Rattle.input_answers.specs.declared.outcome.Status.TheVariants as status
use Rattle.input_answers.specs.declared.plan.Plan.{Plan}
use Rattle.knit_ports.specs.Faults.{Rose}
use Rattle.journal_file.specs.Faults.{HasNoSpelling, IsBadJournal}
use Rattle.journal_file.specs.declared.fault.JournalCause.{JournalCause}
use Rattle.journal_file.specs.declared.fault.JournalFault.TheVariants.{At}
use Rattle.knit_ports.specs.WholeLines.{with_feed}
use Rattle.knitout_reader.specs.Head.{IsHead, IsHeadFault}
use Rattle.knitout_reader.specs.declared.head.Head.{Head}
use Rattle.knitout_reader.specs.declared.head.HeadFault.{HeadFault}
use Rattle.talk_desk.specs.Conversation.{standing_at_start}
use Rattle.opening_reader.specs.declared.opening.OpeningKind.TheVariants as kind
use Rattle.opening_reader.specs.declared.opening.OpeningText.{OpeningText}
use Rattle.talk_desk.specs.Hosts.{IsAt, known_in, opening_in}
use Rattle.talk_desk.specs.Styles.{IsOpenedIn}
use Rattle.verdict_report.specs.declared.refusal.Refusal.{Refusal}
use Rattle.live_talk.specs.Served.{IsDocumentOf}
use Rattle.live_talk.specs.declared.begin.Begun.{Begun}
use Rattle.live_talk.specs.declared.begin.Beginning.{Beginning}
use Rattle.live_talk.specs.declared.begin.Beginning.TheVariants as beginning

-- the sessions of this document have asked nothing yet, and that is said of it
pub record HasBegun (json : Bool) (head : List (List ℕ)) (opening : Opening) (entries : List Entry) (b : Begun) : Type 0 where
  pub json_is : b.host.document.style.json ≡ json
  pub head_is : b.host.document.style.head ≡ head
  pub opens : opening_in b.host.document ≡ opening
  pub known : known_in b.host.document ≡ earlier_steps entries
  pub at : IsAt (opening_in b.host.document) b.host (standing_at_start b.host.document.style.json b.host.document.style.head (opening_in b.host.document) (known_in b.host.document))
  pub said : IsOpenedIn json opening entries b.text.items

-- the opening is that of a document, with which a conversation begins
pub record BeginsBy (plan : Plan) (told : OpeningText) (b : Begun) : Type 0 where
  pub head : List (List ℕ)
  pub opening : Opening
  pub entries : List Entry
  pub document : IsDocumentOf plan.chosen told.kind told.text head opening entries
  pub begun : HasBegun (as_json plan.command) head opening entries b

-- the text is refused for its head, or else for its size; the lines are no saved text
pub data RefusesText (plan : Plan) (told : OpeningText) : Refusal → Status → Type 0 where
  bad_head : (why : HeadFault) (said : Refusal) → told.kind ≡ kind.Text → IsHeadFault told.text why → head_refusal why ≡ Some said → RefusesText plan told said status.BadInput
  too_large : (head : Head) (said : Refusal) → told.kind ≡ kind.Text → IsHead told.text head → IsSizeRefusal plan.chosen.block (length (body_of told.text)) said
      → RefusesText plan told said status.TooLarge
  bad_journal : (line : ℕ) (why : JournalCause) → told.kind ≡ kind.Saved → IsBadJournal (flat_map with_feed told.text) (At line why) → HasNoSpelling (flat_map with_feed told.text)
      → RefusesText plan told (journal_refusal line why) status.BadInput

abbrev pub IsBeginning : Plan → OpeningText → Beginning → Type 0
IsBeginning plan told (beginning.Begun b) = BeginsBy plan told b
IsBeginning plan told (beginning.Refused said ends) = RefusesText plan told said ends

-- A text was said with which the program is to end: no call failed, or one did, and that is told.
pub data HasEndCause (ends : Status) (before after : ℕ) : Status → Type 0 where
  fine : after ≡ before → HasEndCause ends before after ends
  short : after ≡ before → HasEndCause ends before after status.NoMemory
  failed : Rose before after → HasEndCause ends before after status.WriteFault
