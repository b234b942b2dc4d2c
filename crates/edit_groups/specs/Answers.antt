-- The one reply to a step at a journal, and the edits that it leaves.
use Rattle.std.specs.Prelude.{◌≡◌, ℕ, ◌+◌, List, [], ◌∷◌, ◌++◌, length, map, Option, Some, None, Result, Ok, option_map}
use Rattle.carriage_model.specs.declared.verdict.Brief.{Brief}
use Rattle.edit_journal.specs.declared.edit.Edit.{Edit}
use Rattle.edit_journal.specs.declared.edit.Edit.TheVariants as edit
use Rattle.edit_journal.specs.declared.edit.Entry.{Entry}
use Rattle.edit_journal.specs.declared.opening.Opening.{Opening}
use Rattle.edit_journal.specs.Documents.{body, document_of, text_at}
use Rattle.edit_book.specs.Memory.{IsRequestAnswered, asked_entry}
use Rattle.edit_book.specs.Replies.{Request, Put, Cut}
use Rattle.edit_book.specs.Verdicts.{IsBriefOn, setting_of}
use Rattle.edit_book.specs.declared.reply.Reply.{Reply}
use Rattle.edit_groups.specs.Chunks.{Undoable}
use Rattle.edit_groups.specs.declared.reply.GroupReply.{GroupReply}
use Rattle.edit_groups.specs.declared.reply.GroupReply.TheVariants as group

-- What a step asks: one thing of the book, the edits of a group, or that the session's last step be undone. In place of what is asked of the book may stand the session's own refusal.
pub data AskedStep : Type 0 where
  One : Result Request Reply → AskedStep
  Group : List (Result Request Reply) → AskedStep
  Undo : AskedStep

-- the edit of an entry, if there is one
abbrev pub edits_in : Option Entry → List Edit
edits_in None = []
edits_in (Some e) = e.edit ∷ []

-- one command: its answer at this journal, and the edit of an accepted one
pub record IsCommandAnswered (opening : Opening) (session : ℕ) (journal : List Entry) (asked : Result Request Reply) (r : GroupReply) (edits : List Edit) : Type 0 where
  pub told : Reply
  pub answered : IsRequestAnswered opening journal asked told
  pub reply_is : r ≡ group.One told
  pub edits_are : edits ≡ edits_in (asked_entry session asked told)

-- The edits are accepted one after the other, the first at this journal, each as the answer at the journal behind those before it, and leave these entries.
abbrev pub AreAccepted : Opening → ℕ → List Entry → List (Result Request Reply) → List Entry → Type 0
AreAccepted opening session journal [] entries = entries ≡ []
AreAccepted opening session journal (a ∷ asked) entries =
    (told : Reply) × (e : Entry) × (rest : List Entry) × IsRequestAnswered opening journal a told × (asked_entry session a told ≡ Some e) × (entries ≡ e ∷ rest)
    × AreAccepted opening session (journal ++ e ∷ []) asked rest

-- the verdict in short on the document of a journal
abbrev pub IsBriefAt : Opening → List Entry → Brief → Type 0
IsBriefAt opening journal brief = let d = document_of opening journal in IsBriefOn (setting_of opening d) (body d) brief

-- a group's edits are answered one after the other, as if those before had been accepted
pub data IsGroupAnswered (opening : Opening) (session : ℕ) (journal : List Entry) (asked : List (Result Request Reply)) : GroupReply → List Edit → Type 0 where
  -- all of them are accepted: the group is done, with the last version, the number of its first entry, and the verdict behind it
  done : (entries : List Entry) (brief : Brief) → AreAccepted opening session journal asked entries → IsBriefAt opening (journal ++ entries) brief
      → IsGroupAnswered opening session journal asked (group.Done (length journal + length entries) (length journal + 1) brief) (map (λ e. e.edit) entries)
  -- one isn't, the first: the group is refused with its number, from 1, and its answer, and leaves nothing
  refused : (front : List (Result Request Reply)) (a : Result Request Reply) (back : List (Result Request Reply)) (entries : List Entry) (told : Reply) → asked ≡ front ++ a ∷ back
      → AreAccepted opening session journal front entries → IsRequestAnswered opening (journal ++ entries) a told → asked_entry session a told ≡ None
      → IsGroupAnswered opening session journal asked (group.Refused (length journal) (length front + 1) told) []

-- what undoes the entry with this number: putting back the text that a put replaced, under the header of now, or cutting the block that an add made
abbrev pub request_undoing : Opening → List Entry → ℕ → Edit → Option Request
request_undoing opening journal number (edit.Put block seen text) = option_map (Put block number (document_of opening journal).header.stamp) (text_at opening journal block seen)
request_undoing opening journal number (edit.Add anchor block text) = Some (Cut block number)
request_undoing opening journal number (edit.Cut block seen) = None
request_undoing opening journal number (edit.Head seen names) = None

-- an undo: what undoes the session's last step, as one command, or that there is nothing that can be undone
pub data IsUndo (opening : Opening) (session : ℕ) (journal : List Entry) : Option Undoable → GroupReply → List Edit → Type 0 where
  nothing : IsUndo opening session journal None group.NoUndo []
  undone : (last : Undoable) (request : Request) (r : GroupReply) (edits : List Edit) → request_undoing opening journal last.number last.edit ≡ Some request
      → IsCommandAnswered opening session journal (Ok request) r edits → IsUndo opening session journal (Some last) r edits

-- the reply to a step of this session at this journal, and the edits that it leaves, where this is what can be undone of the session's last step
abbrev pub IsStep : Opening → ℕ → List Entry → Option Undoable → AskedStep → GroupReply → List Edit → Type 0
IsStep opening session journal last (One asked) r edits = IsCommandAnswered opening session journal asked r edits
IsStep opening session journal last (Group asked) r edits = IsGroupAnswered opening session journal asked r edits
IsStep opening session journal last Undo r edits = IsUndo opening session journal last r edits
