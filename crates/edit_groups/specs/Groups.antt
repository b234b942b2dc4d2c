-- A book on which groups are carried out: what is seen of it, what it keeps, what a turn of it answers, and what that needs.
use Rattle.std.specs.Prelude.{◌≡◌, ◌⊎◌, ℕ, ◌+◌, ◌<◌, ◌≤◌, List, [], ◌∷◌, ◌++◌, length, map, Option, Some, None, Result, Ok, Err, IfSome, IsSome, option_map}
use Rattle.std.specs.List.{slice_get}
use Rattle.std.specs.Option.{option_map_or}
use Rattle.edit_journal.specs.declared.edit.Edit.{Edit}
use Rattle.edit_journal.specs.declared.edit.Entry.{Entry}
use Rattle.edit_journal.specs.declared.opening.Opening.{Opening}
use Rattle.edit_journal.specs.Documents.{Document, after, document_of}
use Rattle.edit_journal.specs.Entries.{entry_at, entry_limit}
use Rattle.edit_book.specs.Books.{BookView}
use Rattle.edit_book.specs.Memory.{text_limit}
use Rattle.edit_book.specs.Replies.{Request, block_limit, edit_of, request_of_command}
use Rattle.edit_book.specs.Turns as book
use Rattle.edit_book.specs.Verdicts.{setting_of}
use Rattle.edit_book.specs.Work.{command_limit, copy_limit, limit_at, work_limit}
use Rattle.edit_book.specs.declared.reply.BookCommand.{BookCommand}
use Rattle.edit_book.specs.declared.reply.BookCommand.TheVariants as command
use Rattle.edit_book.specs.declared.reply.Reply.{Reply}
use Rattle.edit_groups.specs.Answers.{AskedStep, One, Group, Undo, IsStep, request_undoing}
use Rattle.edit_groups.specs.Chunks.{Undoable, chunk_of, entries_of_chunks, undoable_of_session}
use Rattle.edit_groups.specs.declared.chunk.Chunk.{Chunk}
use Rattle.edit_groups.specs.declared.reply.GroupCommand.{GroupCommand}
use Rattle.edit_groups.specs.declared.reply.GroupCommand.TheVariants as group
use Rattle.edit_groups.specs.declared.reply.GroupEdit.{GroupEdit}
use Rattle.edit_groups.specs.declared.reply.GroupEdit.TheVariants as group_edit
use Rattle.edit_groups.specs.declared.reply.GroupReply.{GroupReply}
use Rattle.edit_groups.specs.declared.reply.GroupReply.TheVariants as reply
use Rattle.turn_book.specs.Journal.{entry_list}
use Rattle.edit_groups.specs.declared.reply.Told.{Told}

-- what the book began with, and the steps that were accepted since
pub record GroupView : Type 0 where
  pub opening : Opening
  pub chunks : List Chunk

-- the journal has this put or add, and what undoes it is known
pub record IsUndoable (opening : Opening) (journal : List Entry) (last : Undoable) : Type 0 where
  pub stands : option_map (λ e. e.edit) (entry_at journal last.number) ≡ Some last.edit
  pub undone : IsSome (request_undoing opening journal last.number last.edit)

-- the number of what can be undone, or 0
abbrev pub number_kept : Option Undoable → ℕ
number_kept None = 0
number_kept (Some last) = last.number

-- the book's journal is that of the steps, each of which has an edit, and for each session the number of what can be undone is kept
pub record IsGroupBookKept (held : BookView) (chunks : List Chunk) (kept : List ℕ) : Type 0 where
  pub entries : held.entries ≡ entries_of_chunks chunks
  pub sizes : length chunks ≤ length held.entries
  pub known : (session : ℕ) → session < 64 → slice_get kept session ≡ Some (number_kept (undoable_of_session session chunks))
  pub undoes : (session : ℕ) → IfSome (undoable_of_session session chunks) (IsUndoable held.opening (entries_of_chunks chunks))

-- what an edit of a group asks of the book, or the session's refusal
abbrev pub edit_asked : GroupEdit → Result Request Reply
edit_asked (group_edit.Ready c) = Ok (request_of_command c)
edit_asked (group_edit.Refused told) = Err told

-- what a command asks
abbrev pub asked_of_group_command : GroupCommand → AskedStep
asked_of_group_command (group.One c) = One (Ok (request_of_command c))
asked_of_group_command (group.Group edits) = Group (map edit_asked edits)
asked_of_group_command group.Undo = Undo

-- A step is taken: want of memory, which leaves the steps as they were, or the reply that is due, and its edits as one step more.
abbrev pub IsStepTaken : Opening → List Chunk → ℕ → AskedStep → GroupReply → List Chunk → Type 0
IsStepTaken opening before session asked r after =
    ((r ≡ reply.NoMemory) × (after ≡ before))
    ⊎ ((edits : List Edit) × IsStep opening session (entries_of_chunks before) (undoable_of_session session before) asked r edits × (after ≡ before ++ entry_list (chunk_of session edits)))

-- The reply tells how many steps were accepted before, and how many ids were drawn, both within the book's limits. It is want of memory, which enters nothing, or the one that is due, and its edits are entered as one step.
pub record IsRightGroupReply (opening : Opening) (before : List Chunk) (session : ℕ) (c : GroupCommand) (told : Told) (added : Option Chunk) : Type 0 where
  pub step : told.step ≡ length before
  pub ids : told.ids ≡ (document_of opening (entries_of_chunks before)).drawn
  pub entries_fit : length (entries_of_chunks before) ≤ entry_limit
  pub ids_fit : told.ids ≤ block_limit + entry_limit
  pub answer : ((told.reply ≡ reply.NoMemory) × (added ≡ None))
      ⊎ ((edits : List Edit) × IsStep opening session (entries_of_chunks before) (undoable_of_session session before) (asked_of_group_command c) told.reply edits × (added ≡ chunk_of session edits))

-- the command undoes this, if anything can be undone
abbrev pub IsUndoing : Opening → List Entry → Option Undoable → Option BookCommand → Type 0
IsUndoing opening journal None found = found ≡ None
IsUndoing opening journal (Some last) found = (c : BookCommand) × (found ≡ Some c) × (request_undoing opening journal last.number last.edit ≡ Some (request_of_command c)) × book.IsFitBookCommand opening journal c

-- the command is an edit of a block
abbrev pub IsBlockEdit : BookCommand → Type 0
IsBlockEdit (command.Put block seen head prepared) = Unit {0}
IsBlockEdit (command.Add anchor head prepared) = Unit {0}
IsBlockEdit (command.Cut block seen) = Unit {0}
IsBlockEdit c = ⊥

abbrev pub IsFitEdit : Opening → List Entry → GroupEdit → Type 0
IsFitEdit opening journal (group_edit.Ready c) = IsBlockEdit c × book.IsFitBookCommand opening journal c
IsFitEdit opening journal (group_edit.Refused told) = Unit {0}

abbrev pub AreFitEdits : Opening → List Entry → List GroupEdit → Type 0
AreFitEdits opening journal [] = Unit {0}
AreFitEdits opening journal (e ∷ es) = IsFitEdit opening journal e × AreFitEdits opening journal es

-- what a command hands over was prepared for names and texts that the journal has, and a group has 1 to 64 edits of blocks
abbrev pub IsFitGroupCommand : Opening → List Chunk → GroupCommand → Type 0
IsFitGroupCommand opening before (group.One c) = book.IsFitBookCommand opening (entries_of_chunks before) c
IsFitGroupCommand opening before (group.Group edits) = (0 < length edits) × (length edits ≤ 64) × AreFitEdits opening (entries_of_chunks before) edits
IsFitGroupCommand opening before group.Undo = Unit {0}

-- the steps of an edit of a group at a document
abbrev pub group_edit_limit : Opening → Document → GroupEdit → ℕ
group_edit_limit opening d (group_edit.Ready c) = limit_at (setting_of opening d) d (request_of_command c)
group_edit_limit opening d (group_edit.Refused told) = 0

-- the document behind it, where it is accepted as the entry with this number
abbrev pub document_edited : Document → ℕ → GroupEdit → Document
document_edited d number (group_edit.Ready c) = option_map_or (after d number) (edit_of (request_of_command c) d.drawn) d
document_edited d number (group_edit.Refused told) = d

-- the steps of a group's edits, each at the document behind those before it, of which this is the version
abbrev pub each_limit : Opening → Document → ℕ → List GroupEdit → ℕ
each_limit opening d version [] = 0
each_limit opening d version (e ∷ es) = group_edit_limit opening d e + each_limit opening (document_edited d (version + 1) e) (version + 1) es

-- the steps of a group: those of a copy of the book, and of each edit
abbrev pub group_limit : Opening → List Entry → List GroupEdit → ℕ
group_limit opening journal edits = let d = document_of opening journal in copy_limit (setting_of opening d) d + each_limit opening d (length journal) edits

-- the steps of undoing these entries, the first of which has this number
abbrev pub undo_limit : Opening → List Entry → ℕ → List Entry → ℕ
undo_limit opening journal number [] = 0
undo_limit opening journal number (e ∷ es) = option_map_or (work_limit opening journal) (request_undoing opening journal number e.edit) 0 + undo_limit opening journal (number + 1) es

-- a step takes at most so many, an undo those of a text that is read and of whichever entry it undoes
abbrev pub limit : Opening → List Chunk → GroupCommand → ℕ
limit opening before (group.One c) = command_limit opening (entries_of_chunks before) c
limit opening before (group.Group edits) = group_limit opening (entries_of_chunks before) edits
limit opening before group.Undo = text_limit + undo_limit opening (entries_of_chunks before) 1 (entries_of_chunks before)
