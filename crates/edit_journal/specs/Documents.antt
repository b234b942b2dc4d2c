-- Documents: what an opening and a journal give, version by version.
use Rattle.std.specs.Prelude.{◌≡◌, ℕ, zero, suc, ◌+◌, ◌==◌, if◌then◌else◌, List, [], ◌∷◌, length, take, find, Option, Some, IsSome, option_map, option_and_then}
use Rattle.std.specs.List.{flat_map, slice_get}
use Rattle.edit_journal.specs.declared.edit.Anchor.{Anchor}
use Rattle.edit_journal.specs.declared.edit.Anchor.TheVariants.{Start, After}
use Rattle.edit_journal.specs.declared.edit.Edit.{Edit}
use Rattle.edit_journal.specs.declared.edit.Edit.TheVariants.{Put, Add, Cut, Head}
use Rattle.edit_journal.specs.declared.edit.Entry.{Entry}
use Rattle.edit_journal.specs.declared.opening.Opening.{Opening}
use Rattle.edit_journal.specs.Entries.{names_for, text_for}

-- a block: its id, the number of the entry that gave it its lines, 0 for an opening block, and the lines
pub record Block : Type 0 where
  pub id : ℕ
  pub stamp : ℕ
  pub lines : List (List ℕ)

-- the header: the number of the entry that gave it its names, 0 for those of the opening, and the names
pub record Header : Type 0 where
  pub stamp : ℕ
  pub names : List (List ℕ)

-- the blocks in their order, how many ids were drawn, and the header
pub record Document : Type 0 where
  pub blocks : List Block
  pub drawn : ℕ
  pub header : Header

-- blocks of these texts, the first with this id
abbrev pub opened_from : ℕ → List (List (List ℕ)) → List Block
opened_from id [] = []
opened_from id (text ∷ texts) = record { id = id; stamp = 0; lines = text } ∷ opened_from (id + 1) texts

-- the document that an opening gives: ids 0, 1, 2 and so on, and stamp 0 throughout
abbrev pub document_opened : Opening → Document
document_opened opening = record { blocks = opened_from 0 opening.texts; drawn = length opening.texts; header = record { stamp = 0; names = opening.setting.declared } }

-- the block with this id
abbrev pub block_of : List Block → ℕ → Option Block
block_of blocks id = find (λ b. b.id == id) blocks

-- the stamp of the block with this id
abbrev pub stamp_at : List Block → ℕ → Option ℕ
stamp_at blocks id = option_map (λ b. b.stamp) (block_of blocks id)

-- the block with this id has another text and stamp
abbrev pub with_text : ℕ → ℕ → List (List ℕ) → List Block → List Block
with_text id stamp text [] = []
with_text id stamp text (b ∷ bs) = if b.id == id then record { id = id; stamp = stamp; lines = text } ∷ bs else b ∷ with_text id stamp text bs

-- the block with this id is out
abbrev pub blocks_without : ℕ → List Block → List Block
blocks_without id [] = []
blocks_without id (b ∷ bs) = if b.id == id then bs else b ∷ blocks_without id bs

-- a new block directly after the one with this id
abbrev pub with_after : ℕ → Block → List Block → List Block
with_after id new [] = []
with_after id new (b ∷ bs) = if b.id == id then b ∷ new ∷ bs else b ∷ with_after id new bs

-- a new block where the anchor says
abbrev pub blocks_with_new : Anchor → Block → List Block → List Block
blocks_with_new Start new blocks = new ∷ blocks
blocks_with_new (After id) new blocks = with_after id new blocks

-- the document after entry i; where the edit doesn't fit, this says nothing
abbrev pub after : Document → ℕ → Edit → Document
after d i (Put block seen text) = record { blocks = with_text block i text d.blocks; drawn = d.drawn; header = d.header }
after d i (Add anchor block text) = record { blocks = blocks_with_new anchor (record { id = block; stamp = i; lines = text }) d.blocks; drawn = d.drawn + 1; header = d.header }
after d i (Cut block seen) = record { blocks = blocks_without block d.blocks; drawn = d.drawn; header = d.header }
after d i (Head seen names) = record { blocks = d.blocks; drawn = d.drawn; header = record { stamp = i; names = names } }

-- the document after these entries, the first of which has number i
abbrev pub after_all : Document → ℕ → List Entry → Document
after_all d i [] = d
after_all d i (e ∷ es) = after_all (after d i e.edit) (i + 1) es

-- The document of an opening and a journal. That of version v is the one of the journal's first v entries.
abbrev pub document_of : Opening → List Entry → Document
document_of opening journal = after_all (document_opened opening) 1 journal

-- the lines of these blocks, one block after the other
abbrev pub lines_in : List Block → List (List ℕ)
lines_in blocks = flat_map (λ b. b.lines) blocks

-- the lines of the document, block by block
abbrev pub body : Document → List (List ℕ)
body d = lines_in d.blocks

-- the anchor is in the document
abbrev pub HasAnchor : Document → Anchor → Type 0
HasAnchor d Start = Unit {0}
HasAnchor d (After id) = IsSome (block_of d.blocks id)

-- the edit fits the document: a put or a cut has seen the block's stamp, a new block has the next id and an anchor that is there, and
-- other names have seen the header's stamp
abbrev pub EditFits : Document → Edit → Type 0
EditFits d (Put block seen text) = stamp_at d.blocks block ≡ Some seen
EditFits d (Add anchor block text) = (block ≡ d.drawn) × HasAnchor d anchor
EditFits d (Cut block seen) = stamp_at d.blocks block ≡ Some seen
EditFits d (Head seen names) = d.header.stamp ≡ seen

-- the text that a block got from the entry with this number, or its opening text for 0
abbrev pub text_at : Opening → List Entry → ℕ → ℕ → Option (List (List ℕ))
text_at opening journal id zero = slice_get opening.texts id
text_at opening journal id (suc i) = option_and_then (text_for id) (slice_get journal i)

-- each block has the text that the entry with its stamp gave it
abbrev pub AreTextsKnown : Opening → List Entry → List Block → Type 0
AreTextsKnown opening journal [] = Unit {0}
AreTextsKnown opening journal (b ∷ bs) = (text_at opening journal b.id b.stamp ≡ Some b.lines) × AreTextsKnown opening journal bs

-- the names that the header got from the entry with this number, or those of the opening for 0
abbrev pub names_given : Opening → List Entry → ℕ → Option (List (List ℕ))
names_given opening journal zero = Some opening.setting.declared
names_given opening journal (suc i) = option_and_then names_for (slice_get journal i)

-- the header's names at a version; behind the last version they are those of the last
abbrev pub names_at : Opening → List Entry → ℕ → List (List ℕ)
names_at opening journal version = (document_of opening (take version journal)).header.names
