-- What contracts see of an outline, and which edit may come next.
use Rattle.std.specs.Prelude.{ℕ, ◌+◌, ◌<◌, ◌≤◌, Bool, List, length, map}
use Rattle.edit_journal.specs.declared.edit.BlockAt.{BlockAt}
use Rattle.edit_journal.specs.declared.edit.Edit.{Edit}
use Rattle.edit_journal.specs.declared.edit.Edit.TheVariants as edit
use Rattle.edit_journal.specs.declared.edit.Entry.{Entry}
use Rattle.edit_journal.specs.declared.opening.Opening.{Opening}
use Rattle.edit_journal.specs.Documents.{Document, EditFits, after, body, document_of}
use Rattle.edit_journal.specs.Entries.{JournalView, entry_limit}
use Rattle.edit_book.specs.Replies.{block_limit, line_limit}

-- the texts of these blocks
abbrev pub block_texts_of : List BlockAt → List (List (List ℕ))
block_texts_of blocks = map (λ (block : BlockAt). block.text) blocks

-- what the outline began with and the entries since, and whether there is room for one more entry
pub record OutlineView : Type 0 where
  pub opening : Opening
  pub entries : List Entry
  pub journal_room : Bool

-- the same of what an outline keeps
abbrev pub outline_view : Opening → JournalView → OutlineView
outline_view opening journal = record { opening = opening; entries = journal.entries; journal_room = journal.room }

-- the document of the outline's version
abbrev pub outline_document : OutlineView → Document
outline_document outline = document_of outline.opening outline.entries

-- the document after one more edit
abbrev pub next_document : Opening → List Entry → Edit → Document
next_document opening entries e = after (document_of opening entries) (length entries + 1) e

-- the edit may come next: it fits the document, and the document with it keeps the limits
pub record MayCome (opening : Opening) (entries : List Entry) (e : Edit) : Type 0 where
  pub fits : EditFits (document_of opening entries) e
  pub room : length entries < entry_limit
  pub blocks : length (next_document opening entries e).blocks ≤ block_limit
  pub lines : length (body (next_document opening entries e)) ≤ line_limit

-- the text that the edit gives, if it gives one, is as short as a block's
abbrev pub HasShortText : Edit → Type 0
HasShortText (edit.Put block seen text) = length text ≤ 4096
HasShortText (edit.Add anchor block text) = length text ≤ 4096
HasShortText (edit.Cut block seen) = Unit {0}
HasShortText (edit.Head seen names) = Unit {0}
