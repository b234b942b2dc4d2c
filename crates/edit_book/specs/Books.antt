-- What contracts see of a book, and what always holds of what it keeps.
use Rattle.std.specs.Prelude.{◌≡◌, ℕ, ◌+◌, ◌<◌, ◌≤◌, ◌^◌, ◌==◌, Bool, true, List, [], ◌∷◌, find, length, map, position, Some, None, IfSome}
use Rattle.std.specs.List.{AllZip, slice_get}
use Rattle.std.specs.Option.{option_map_or}
use Rattle.knit_base.specs.declared.setting.Setting.{Setting}
use Rattle.knit_base.specs.Limits.{IsLawfulProfile}
use Rattle.face_data.specs.Summaries.{Summary}
use Rattle.block_summary.specs.Prepared.{IsPreparedFor}
use Rattle.edit_journal.specs.declared.edit.Entry.{Entry}
use Rattle.edit_journal.specs.declared.opening.Opening.{Opening}
use Rattle.edit_journal.specs.Documents.{Block, Document, block_of, document_of, body, text_at}
use Rattle.summary_tree.specs.Leaves.{Leaf}
use Rattle.summary_tree.specs.Trees.{TreeView, IsSameTree, CanReplace}
use Rattle.edit_book.specs.declared.block_state.BlockState.{BlockState}
use Rattle.edit_book.specs.declared.block_state.BlockState.TheVariants.{There, CutBy}
use Rattle.edit_book.specs.Orders.{is_id}
use Rattle.edit_book.specs.Outlines.{OutlineView}
use Rattle.edit_journal.specs.Entries.{entry_limit}
use Rattle.edit_book.specs.Replies.{block_limit, line_limit, cut_number}
use Rattle.edit_book.specs.Verdicts.{setting_of}

-- what the book began with and the entries since, and beside them the room that it has
pub record BookView : Type 0 where
  pub opening : Opening
  pub entries : List Entry
  pub journal_room : Bool
  pub tree : TreeView

-- the same of a book's outline and its tree
abbrev pub book_view : OutlineView → TreeView → BookView
book_view outline tree = record { opening = outline.opening; entries = outline.entries; journal_room = outline.journal_room; tree = tree }

-- the document of the book's version
abbrev pub document : BookView → Document
document book = document_of book.opening book.entries

-- where a block that was drawn is: there, with its stamp, or cut by an entry
abbrev pub block_state_of : Document → List Entry → ℕ → BlockState
block_state_of d entries id = option_map_or (λ b. There b.stamp) (block_of d.blocks id) (CutBy (cut_number entries id))

-- P holds of each
abbrev pub Each : {X : Type 0} → (X → Type 0) → List X → Type 0
Each P [] = Unit {0}
Each P (x ∷ xs) = P x × Each P xs

-- no number stands twice
abbrev pub AreDistinct : List ℕ → Type 0
AreDistinct [] = Unit {0}
AreDistinct (x ∷ xs) = (find (λ y. y == x) xs ≡ None) × AreDistinct xs

abbrev pub ids_of : List Block → List ℕ
ids_of blocks = map (λ b. b.id) blocks

-- no id stands twice, and each was drawn
pub record HasIds (d : Document) : Type 0 where
  pub differ : AreDistinct (ids_of d.blocks)
  pub drawn : Each (λ id. id < d.drawn) (ids_of d.blocks)

-- the limits of a book
pub record BookFits (d : Document) (entries : List Entry) : Type 0 where
  pub entries_fit : length entries ≤ entry_limit
  pub blocks_fit : length d.blocks ≤ block_limit
  pub lines_fit : length (body d) ≤ line_limit
  pub ids_fit : d.drawn ≤ block_limit + length entries

-- a document can be read by it: the profile is lawful, there are few carriers, and each line of a document has a number of 32 bits
pub record IsLawfulSetting (setting : Setting) : Type 0 where
  pub profile : IsLawfulProfile setting.profile
  pub carriers : length setting.declared ≤ 64
  pub first : setting.first + line_limit < 2 ^ 32

-- the block's text is where its stamp says
abbrev pub HasText : Opening → List Entry → Block → Type 0
HasText opening entries b = text_at opening entries b.id b.stamp ≡ Some b.lines

-- each text of the opening and of the entries is short
abbrev pub HasShortTexts : Opening → List Entry → Type 0
HasShortTexts opening entries = (id stamp : ℕ) → IfSome (text_at opening entries id stamp) (λ text. length text ≤ 4096)

-- each item is so made of the lines of the block at its place, read by the document's setting
abbrev pub AreBlockwise : {X : Type 0} → (Setting → X → List (List ℕ) → Type 0) → Opening → Document → List X → Type 0
AreBlockwise {X} IsOf opening d items = AllZip (λ (item : X) (b : Block). IsOf (setting_of opening d) item b.lines) items d.blocks

-- the leaf is made of these lines: they are those of a block that was prepared for the setting
abbrev pub IsLeafOf : Setting → Leaf → List (List ℕ) → Type 0
IsLeafOf setting leaf lines = IsPreparedFor setting.profile setting.declared (record { text = lines; face = leaf.0; loops = leaf.1 })

-- each leaf is made of the lines of its block
abbrev pub HasLeaves : Opening → Document → List Leaf → Type 0
HasLeaves opening d leaves = AreBlockwise IsLeafOf opening d leaves

-- what always holds of an outline
pub record IsLawfulOutline (opening : Opening) (entries : List Entry) : Type 0 where
  pub has_ids : HasIds (document_of opening entries)
  pub fits : BookFits (document_of opening entries) entries
  pub texts : Each (HasText opening entries) (document_of opening entries).blocks
  pub short : HasShortTexts opening entries
  pub setting : IsLawfulSetting (setting_of opening (document_of opening entries))

-- what always holds of a book with these leaves
pub record AreLawfulLeaves (opening : Opening) (entries : List Entry) (leaves : List Leaf) : Type 0 where
  pub has_ids : HasIds (document_of opening entries)
  pub fits : BookFits (document_of opening entries) entries
  pub texts : Each (HasText opening entries) (document_of opening entries).blocks
  pub short : HasShortTexts opening entries
  pub leaves_are : HasLeaves opening (document_of opening entries) leaves
  pub setting : IsLawfulSetting (setting_of opening (document_of opening entries))

-- what an outline keeps beside its opening and its journal stands for the document: the states of the blocks drawn, the ids in their
-- order, and the count of lines
pub record OutlineStands (opening : Opening) (entries : List Entry) (states : List BlockState) (ids : List ℕ) (count : ℕ) : Type 0 where
  pub lawful : IsLawfulOutline opening entries
  pub drawn : length states ≡ (document_of opening entries).drawn
  pub states_are : (id : ℕ) → id < (document_of opening entries).drawn → slice_get states id ≡ Some (block_state_of (document_of opening entries) entries id)
  pub order : ids ≡ ids_of (document_of opening entries).blocks
  pub lines : count ≡ length (body (document_of opening entries))

abbrev pub IsLawfulBook : BookView → Type 0
IsLawfulBook book = AreLawfulLeaves book.opening book.entries book.tree.leaves

-- a put of a text with this summary at the block takes no memory; where the block isn't there no room is needed
abbrev pub IsReadyToPut : BookView → ℕ → Summary → Type 0
IsReadyToPut book id summary = IfSome (position (is_id id) (ids_of (document book).blocks)) (λ at. (book.journal_room ≡ true) × CanReplace book.tree at summary)

-- only room was added to a book: its blocks have the same faces, and what was ready for a put is ready
pub record HasMoreRoom (old new : BookView) : Type 0 where
  pub tree : IsSameTree old.tree new.tree
  pub ready : (id : ℕ) (summary : Summary) → IsReadyToPut old id summary → IsReadyToPut new id summary

-- a book whose journal stays has the room that it had, and more at most
abbrev pub KeepsBookRoom : BookView → BookView → Type 0
KeepsBookRoom old new = new.entries ≡ old.entries → HasMoreRoom old new
