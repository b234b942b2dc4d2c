-- How far a group is carried out. No public contract speaks of it.
use Rattle.std.specs.Prelude.{false, ◌≡◌, ◌⊎◌, ℕ, ◌+◌, List, [], ◌∷◌, ◌++◌, length, None, Some, Result}
use Rattle.edit_journal.specs.declared.edit.Edit.{Edit}
use Rattle.edit_journal.specs.declared.edit.Entry.{Entry}
use Rattle.edit_journal.specs.declared.opening.Opening.{Opening}
use Rattle.edit_book.specs.Memory.{IsRequestAnswered, asked_entry}
use Rattle.edit_book.specs.Replies.{Request}
use Rattle.edit_book.specs.declared.reply.Reply.{Reply}
use Rattle.carriage_model.specs.declared.verdict.Brief.{Brief}
use Rattle.edit_groups.specs.Answers.{AreAccepted, IsBriefAt}
use Rattle.edit_groups.specs.Chunks.{entries_by, entries_of_chunks}
use Rattle.edit_groups.specs.declared.chunk.Chunk.{Chunk}
use Rattle.edit_groups.specs.declared.reply.GroupReply.{GroupReply}
use Rattle.edit_groups.specs.declared.reply.GroupReply.TheVariants as group
use Rattle.edit_groups.specs.declared.group.Stop.{Stop}
use Rattle.edit_groups.specs.declared.group.Stop.TheVariants as stop

-- what was asked is answered so, and isn't accepted
pub record IsAskedRefused (opening : Opening) (session : ℕ) (journal : List Entry) (asked : Result Request Reply) (told : Reply) : Type 0 where
  pub answered : IsRequestAnswered opening journal asked told
  pub none : asked_entry session asked told ≡ None

-- what was asked is accepted, and leaves this edit, the last of the journal
pub record IsEditDone (opening : Opening) (session : ℕ) (journal : List Entry) (asked : Result Request Reply) (e : Edit) (after : List Entry) : Type 0 where
  pub told : Reply
  pub answered : IsRequestAnswered opening journal asked told
  pub entered : asked_entry session asked told ≡ Some (record { session = session; edit = e })
  pub journal_is : after ≡ journal ++ record { session = session; edit = e } ∷ []

-- all that was asked is accepted, and leaves these edits at the end of the journal
pub record IsCarriedOut (opening : Opening) (session : ℕ) (journal : List Entry) (asked : List (Result Request Reply)) (edits : List Edit) (after : List Entry) : Type 0 where
  pub accepted : AreAccepted opening session journal asked (entries_by session edits)
  pub journal_is : after ≡ journal ++ entries_by session edits

-- those before the one with this number, from 1, are accepted, and that one isn't
pub record IsStopped (opening : Opening) (session : ℕ) (journal : List Entry) (asked : List (Result Request Reply)) (at : ℕ) (told : Reply) : Type 0 where
  pub front : List (Result Request Reply)
  pub here : Result Request Reply
  pub back : List (Result Request Reply)
  pub entries : List Entry
  pub asked_are : asked ≡ front ++ here ∷ back
  pub number : at ≡ length front + 1
  pub accepted : AreAccepted opening session journal front entries
  pub refused : IsAskedRefused opening session (journal ++ entries) here told

abbrev pub IsStopOf : Opening → ℕ → List Entry → List (Result Request Reply) → Stop → Type 0
IsStopOf opening session journal asked (stop.Refused at told) = IsStopped opening session journal asked at told
IsStopOf opening session journal asked stop.NoMemory = Unit {0}

-- what a group is answered then
abbrev pub stop_reply : ℕ → Stop → GroupReply
stop_reply base (stop.Refused at told) = group.Refused base at told
stop_reply base stop.NoMemory = group.NoMemory

-- the edits of a group are one step more, and the journal is this one; or there was no memory, and the steps are as they were
abbrev pub IsTakenOver : Opening → List Chunk → ℕ → List Entry → List Edit → GroupReply → List Chunk → Type 0
IsTakenOver opening before session journal edits r after =
    ((r ≡ group.NoMemory) × (after ≡ before))
    ⊎ ((brief : Brief) × (r ≡ group.Done (length journal) (length (entries_of_chunks before) + 1) brief) × IsBriefAt opening journal brief × (after ≡ before ++ record { session = session; edits = edits; earlier = false } ∷ []))

-- the first is refused so, whoever asks
pub record IsFirstRefused (opening : Opening) (journal : List Entry) (asked : List (Result Request Reply)) (told : Reply) : Type 0 where
  pub here : Result Request Reply
  pub back : List (Result Request Reply)
  pub asked_are : asked ≡ here ∷ back
  pub refused : (session : ℕ) → IsAskedRefused opening session journal here told
