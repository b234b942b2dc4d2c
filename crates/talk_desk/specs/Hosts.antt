-- What is kept of a conversation.
use Rattle.std.specs.Prelude.{◌≡◌, ℕ, ◌+◌, Bool, List, [], ◌∷◌, ◌++◌, length, slice_get, Option, Some, MatchOption}
use Rattle.std.specs.Option.{option_map_or}
use Rattle.knit_base.specs.Limits.{IsLawfulProfile}
use Rattle.edit_journal.specs.declared.edit.Entry.{Entry}
use Rattle.edit_journal.specs.declared.opening.Opening.{Opening}
use Rattle.script_reader.specs.declared.step.Step.{Step}
use Rattle.script_reader.specs.declared.talk_line.Question.{Question}
use Rattle.script_reader.specs.declared.talk_line.Question.TheVariants as question
use Rattle.script_reader.specs.Hearing.{Order}
use Rattle.edit_book.specs.Memory.{Memory, first_memory, block_id_of_name}
use Rattle.edit_groups.specs.Alone.{IsSessionAt}
use Rattle.edit_groups.specs.Chunks.{chunk_of, entries_of_chunks}
use Rattle.edit_groups.specs.Groups.{GroupView}
use Rattle.edit_groups.specs.Sessions.{HeardReply, group_core, step_memory}
use Rattle.edit_groups.specs.Shared.{group_book_opening}
use Rattle.edit_groups.specs.declared.chunk.Chunk.{Chunk}
use Rattle.edit_groups.specs.declared.reply.GroupCommand.{GroupCommand}
use Rattle.edit_groups.specs.declared.reply.Told.{Told}
use Rattle.turn_book.specs.Journal.{entry_list}
use Rattle.turn_book.specs.Passes.{IsHeldOf, IsPassOf, held_view, session_count_of, view_of}
use Rattle.turn_book.specs.Walk.{IsReplyGiven}
use Rattle.turn_book.specs.declared.booked.Booked.{Ghosts}
use Rattle.turn_book.specs.declared.pass.Held.{Held}
use Rattle.talk_desk.specs.Conversation.{Answer, IsQuestionAnswer, Standing, standing_after, MayBeGiven, question_text, text}
use Rattle.reply_report.specs.declared.frame.Frame.{Frame}
use Rattle.talk_desk.specs.Styles.{step_in}
use Rattle.talk_desk.specs.declared.document.Document.{Document}
use Rattle.talk_desk.specs.declared.document.Style.{Style}
use Rattle.talk_desk.specs.declared.host.Host.{Host}
use Rattle.talk_desk.specs.declared.steps.Talker.{Talker}

-- how the document began
abbrev pub opening_in : Document → Opening
opening_in d = group_book_opening d.shared

-- the steps that were accepted since, where its book isn't lent
abbrev pub known_in : Document → List Chunk
known_in d = option_map_or (λ p. (view_of p).seen) d.pass []

-- its first blocks are read so, and 64 sessions may edit it
pub record IsDocumentBegun (d : Document) : Type 0 where
  pub setting : (opening_in d).setting ≡ d.setting
  pub profile : IsLawfulProfile (opening_in d).setting.profile
  pub numbers : session_count_of d.shared ≡ 64

-- its pass has all numbers
pub record IsDocument (d : Document) : Type 0 where
  pub begun : IsDocumentBegun d
  pub pass : MatchOption d.pass ⊥ (λ p. IsPassOf d.shared p × ((view_of p).first ≡ 0) × ((view_of p).past ≡ 64))

module _ {g : Ghosts GroupView GroupCommand Told Chunk Opening} where
  -- its book is lent
  pub record IsLent (d : Document) (held : Held GroupView GroupCommand Told Chunk Opening g) : Type 0 where
    pub begun : IsDocumentBegun d
    pub held_of : IsHeldOf d.shared held
    pub first : (held_view held).first ≡ 0
    pub past : (held_view held).past ≡ 64

-- The step c of the talker s, which remembered m, was answered, and that was said behind what was to be said before: the document was d, and is e since; the talker is t since.
pub record IsStepSaid (json : Bool) (m : Memory) (c : Step) (d e : Document) (s t : Talker) (before after : List ℕ) : Type 0 where
  pub heard : HeardReply
  pub given : IsReplyGiven (group_core (opening_in d)) s.session.session.number (known_in d) m c heard
  pub known : known_in e ≡ known_in d ++ entry_list (chunk_of s.session.session.number heard.edits)
  pub number : t.session.session.number ≡ s.session.session.number
  pub stands : IsSessionAt (opening_in d) (known_in e) (step_memory m c heard) t.session
  pub counted : t.answered ≡ s.answered + 1
  pub said : after ≡ before ++ step_in json (opening_in d) (entries_of_chunks (known_in e)) (record { session = s.session.session.number; number = s.answered + 1 }) heard.reply

-- session n is at this standing
pub record IsTalker (opening : Opening) (s : Standing) (n : ℕ) (t : Talker) : Type 0 where
  pub number : t.session.session.number ≡ n
  pub session : IsSessionAt opening s.point.entries (s.point.memories n) t.session
  pub answered : t.answered ≡ s.answered n

-- session n has asked nothing yet, behind these steps
pub record IsFresh (opening : Opening) (earlier : List Chunk) (n : ℕ) (t : Talker) : Type 0 where
  pub number : t.session.session.number ≡ n
  pub session : IsSessionAt opening earlier (first_memory opening) t.session
  pub answered : t.answered ≡ 0

-- the block that a question names, if it names one, is that which a session with this memory knows by the name
abbrev pub Names : Memory → Question → Option ℕ → Type 0
Names m (question.TextAt name stamp) block = block ≡ block_id_of_name m name
Names m q block = Unit {0}

-- A question of a session with this memory is answered at this journal, and that was said behind what was to be said before.
pub record IsQuestionSaid (style : Style) (opening : Opening) (entries : List Entry) (m : Memory) (f : Frame) (q : Question) (before after : List ℕ) : Type 0 where
  pub answer : Answer
  pub given : IsQuestionAnswer style.json style.head opening entries m f q answer
  pub said : after ≡ before ++ question_text style.json style.head opening entries f answer

-- The sessions of a conversation about a document that began so are at this standing.
pub record IsAt (opening : Opening) (host : Host) (s : Standing) : Type 0 where
  pub document : IsDocument host.document
  pub began : opening_in host.document ≡ opening
  pub known : known_in host.document ≡ s.point.entries
  pub count : length host.talkers.items ≡ 64
  pub talkers : (i : ℕ) (u : Talker) → slice_get host.talkers.items i ≡ Some u → IsTalker opening s i u

-- An order was answered where the sessions were at the standing s, and that was said behind what was to be said before.
pub record IsOrderTaken (opening : Opening) (s : Standing) (asked : Order) (style : Style) (host : Host) (before after : List ℕ) : Type 0 where
  pub answer : Answer
  pub given : MayBeGiven style.json style.head opening s asked answer
  pub at : IsAt opening host (standing_after style.json style.head opening s asked answer)
  pub said : after ≡ before ++ text style.json style.head opening s asked answer

-- the sessions have asked nothing yet, behind these steps, numbered from here on
abbrev pub AreFresh : Opening → List Chunk → ℕ → List Talker → Type 0
AreFresh opening earlier n [] = Unit {0}
AreFresh opening earlier n (t ∷ ts) = IsFresh opening earlier n t × AreFresh opening earlier (n + 1) ts
