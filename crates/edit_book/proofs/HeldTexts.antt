-- The blocks of a book with their texts.
use Rattle.std.proofs.Common.{◌≡◌, ℕ, Bool, List, length, map, Option, Some, None, option_map, sym, subst, ap, ◌∙◌, refl}
use Rattle.std.specs.List.{slice_get}
use Rattle.std.proofs.lemmas.Option.{slice_get-map}
use Rattle.edit_journal.specs.declared.edit.BlockAt.{BlockAt}
use Rattle.edit_journal.specs.declared.edit.Entry.{Entry}
use Rattle.edit_journal.specs.declared.opening.Opening.{Opening}
use Rattle.edit_journal.specs.Documents.{Block, block_of, document_of, stamp_at}
use Rattle.edit_book.specs.Books.{AreDistinct, BookView, AreLawfulLeaves, document, ids_of}
use Rattle.edit_book.specs.Headers.{blocks_at}
use Rattle.edit_book.proofs.Blocks.{lawful_of}
use Rattle.edit_book.proofs.LinePlaces.{block_at}
use Rattle.edit_book.proofs.Puts.{ids_count}
use Rattle.summary_tree.specs.Trees.{TreeView}

-- the block at a place, which has this id
pub record BlockHere (bs : List Block) (at id : ℕ) : Type 0 where
  pub block : Block
  pub there : slice_get bs at ≡ Some block
  pub named : block_of bs id ≡ Some block
  pub own : block.id ≡ id

pub block_here : (bs : List Block) (at id : ℕ) → AreDistinct (ids_of bs) → slice_get (ids_of bs) at ≡ Some id → BlockHere bs at id
block_here bs at id apart is = go (slice_get bs at) refl (sym (slice_get-map (λ (b : Block). b.id) bs at) ∙ is)
  where
    go : (o : Option Block) → slice_get bs at ≡ o → option_map (λ (b : Block). b.id) o ≡ Some id → BlockHere bs at id
    go None there is = absurd (cc)
    go (Some b) there is =
        let own : b.id ≡ id = cc in
        record { block = b; there = there; named = subst (λ (k : ℕ). block_of bs k ≡ Some b) own (block_at bs at b apart there); own = own }

-- it is there, with its stamp and its text
pub stamp_here : (bs : List Block) (at id : ℕ) (h : BlockHere bs at id) → stamp_at bs id ≡ Some h.block.stamp
stamp_here bs at id h = ap (option_map (λ (b : Block). b.stamp)) h.named

pub text_here : (bs : List Block) (at id : ℕ) (h : BlockHere bs at id) → option_map (λ (b : Block). b.lines) (block_of bs id) ≡ Some h.block.lines
text_here bs at id h = ap (option_map (λ (b : Block). b.lines)) h.named

pub held_here : (bs : List Block) (at id stamp : ℕ) (text : List (List ℕ)) → BlockHere bs at id → stamp_at bs id ≡ Some stamp → option_map (λ (b : Block). b.lines) (block_of bs id) ≡ Some text
    → slice_get (blocks_at bs) at ≡ Some (record { block = id; stamp = stamp; text = text })
held_here bs at id stamp text h stamp_is text_is =
    let one : Some h.block.stamp ≡ Some stamp = sym (stamp_here bs at id h) ∙ stamp_is in
    let two : Some h.block.lines ≡ Some text = sym (text_here bs at id h) ∙ text_is in
    let stamps : h.block.stamp ≡ stamp = cc in
    let texts : h.block.lines ≡ text = cc in
    let row : Block → BlockAt = λ b. record { block = b.id; stamp = b.stamp; text = b.lines } in
    slice_get-map row bs at ∙ (ap (option_map row) h.there ∙ (λ i. Some (record { block = h.own i; stamp = stamps i; text = texts i })))

pub lines_here : (bs : List Block) (at id : ℕ) (text : List (List ℕ)) → BlockHere bs at id → option_map (λ (b : Block). b.lines) (block_of bs id) ≡ Some text → slice_get (map (λ (b : Block). b.lines) bs) at ≡ Some text
lines_here bs at id text h text_is =
    let two : Some h.block.lines ≡ Some text = sym (text_here bs at id h) ∙ text_is in
    let texts : h.block.lines ≡ text = cc in
    slice_get-map (λ (b : Block). b.lines) bs at ∙ (ap (option_map (λ (b : Block). b.lines)) h.there ∙ ap Some texts)

-- the text is that of the block at a place of the book
abbrev pub IsTextAt : BookView → ℕ → List (List ℕ) → Type 0
IsTextAt v at text = (b : Block) → slice_get (document v).blocks at ≡ Some b → text ≡ b.lines

module _ (o : Opening) (es : List Entry) (v : BookView) (room : Bool) (tree : TreeView)
    (s : AreLawfulLeaves o es tree.leaves) (view : record { opening = o; entries = es; journal_room = room; tree = tree } ≡ v) where
  -- the (ids_of (document_of o es).blocks) that are kept are those of the blocks
  pub ids_are : (ids_of (document_of o es).blocks) ≡ ids_of (document v).blocks
  ids_are = ap (λ (w : BookView). ids_of (document w).blocks) view

  pub ids_kept : length (ids_of (document_of o es).blocks) ≡ length (document v).blocks
  ids_kept = ap length ids_are ∙ ids_count (document v).blocks

  pub held_block_here : (at id : ℕ) → slice_get (ids_of (document_of o es).blocks) at ≡ Some id → BlockHere (document v).blocks at id
  held_block_here at id is = block_here (document v).blocks at id (lawful_of o es tree room v s view).has_ids.differ (ap (λ (l : List ℕ). slice_get l at) (sym ids_are) ∙ is)

  pub held_text : (at id : ℕ) (text again : List (List ℕ)) → slice_get (ids_of (document_of o es).blocks) at ≡ Some id → option_map (λ (b : Block). b.lines) (block_of (document v).blocks id) ≡ Some text → again ≡ text → IsTextAt v at again
  held_text at id text again is text_is same b there =
      let h = held_block_here at id is in
      let one : Some h.block.lines ≡ Some text = sym (text_here (document v).blocks at id h) ∙ text_is in
      let two : Some h.block ≡ Some b = sym h.there ∙ there in
      let texts : h.block.lines ≡ text = cc in
      let blocks : h.block ≡ b = cc in
      same ∙ (sym texts ∙ ap (λ (x : Block). x.lines) blocks)
