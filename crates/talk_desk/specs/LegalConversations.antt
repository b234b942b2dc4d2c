-- The history of a conversation: its steps and their answers, behind the steps that were accepted earlier.
use Rattle.std.specs.Prelude.{◌≡◌, ℕ, ◌-◌, Bool, List, [], ◌∷◌, ◌++◌, length}
use Rattle.std.specs.Option.{option_map}
use Rattle.edit_journal.specs.declared.opening.Opening.{Opening}
use Rattle.edit_book.specs.Memory.{first_memory}
use Rattle.edit_groups.specs.Sessions.{HeardReply, group_core}
use Rattle.edit_groups.specs.declared.chunk.Chunk.{Chunk}
use Rattle.script_reader.specs.Hearing.{Order, Refuse, Ask, Tell}
use Rattle.script_reader.specs.declared.step.Step.{Step}
use Rattle.talk_loop.specs.InStep.{AreDeskAnswers}
use Rattle.turn_book.specs.Core.{Core}
use Rattle.turn_book.specs.Legal.{IsLegalHistory}
use Rattle.turn_book.specs.OneOrder.{Exchange, all_replies_of, scripts_of}
use Rattle.talk_desk.specs.Conversation.{Answer, Given, asking, standing_of}

-- A book of which these entries are in the journal, as histories see it that begin behind them: versions count from there.
abbrev pub behind_earlier : {Entry Command Reply Memory : Type 0} → List Entry → Core Entry Command Reply Memory → Core Entry Command Reply Memory
behind_earlier earlier core = record {
  number_of = core.number_of;
  answers = (λ n before m c r. core.answers n (earlier ++ before) m c r);
  entry_of = core.entry_of;
  memory_after = core.memory_after;
  short = core.short;
  version_of = (λ r. option_map (λ version. version - length earlier) (core.version_of r));
  base_of = (λ r. option_map (λ version. version - length earlier) (core.base_of r));
}

-- the steps among these orders, with their answers
abbrev pub exchanges : List Order → List Answer → List (Exchange Step HeardReply)
exchanges [] as_ = []
exchanges (o ∷ os) [] = []
exchanges (Ask n c ∷ os) (Given h ∷ as_) = record { session = n; command = c; reply = h } ∷ exchanges os as_
exchanges (o ∷ os) (a ∷ as_) = exchanges os as_

-- Behind the earlier steps the steps among these orders and their answers are a legal history, and what they added to the journal is that of the history.
pub record IsLegalTalk (opening : Opening) (earlier : List Chunk) (orders : List Order) (answers : List Answer) (journal : List Chunk) : Type 0 where
  pub added : List Chunk
  pub journal_is : journal ≡ earlier ++ added
  pub legal : IsLegalHistory (behind_earlier earlier (group_core opening)) (first_memory opening) (scripts_of 0 64 (exchanges orders answers)) added (all_replies_of 0 64 (exchanges orders answers))

-- So is each conversation in which what its lines ask for has answers that may be given to it.
abbrev pub EachTalkIsLegal : Type 0
EachTalkIsLegal = (json : Bool) (head : List (List ℕ)) (opening : Opening) (earlier : List Chunk) (first : ℕ) (lines : List (List ℕ)) (answers : List Answer)
    → AreDeskAnswers (asking json head opening earlier first) [] ((asking json head opening earlier first).orders lines) answers
    → IsLegalTalk opening earlier ((asking json head opening earlier first).orders lines) answers (standing_of json head opening earlier first lines answers).point.entries
