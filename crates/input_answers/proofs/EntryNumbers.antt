-- The numbers in the entries of a journal that may come fit 32 bits.
use Rattle.std.proofs.Common.{◌≡◌, ℕ, ◌+◌, ◌<◌, ◌≤◌, ◌^◌, Bool, true, false, cond, ◌==◌, List, [], ◌∷◌, ◌++◌, length, Option, Some, None, IsSome, option_map, sym, refl, subst, arith, length-append}
use Rattle.std.specs.List.{AllByRecursion}
use Rattle.std.proofs.lemmas.Bool.{eqb-true}
use Rattle.edit_journal.specs.declared.edit.Anchor.{Anchor}
use Rattle.edit_journal.specs.declared.edit.Anchor.TheVariants.{Start, After}
use Rattle.edit_journal.specs.declared.edit.Edit.{Edit}
use Rattle.edit_journal.specs.declared.edit.Edit.TheVariants as edit
use Rattle.edit_journal.specs.declared.edit.Entry.{Entry}
use Rattle.edit_journal.specs.declared.opening.Opening.{Opening}
use Rattle.edit_journal.specs.Documents.{Block, Document, EditFits, HasAnchor, after, block_of, document_of, opened_from, stamp_at, with_after, blocks_with_new, with_text, blocks_without}
use Rattle.edit_book.specs.Outlines.{MayCome}
use Rattle.edit_book.proofs.Puts.{doc_snoc}
use Rattle.journal_file.specs.Entries.{IsLawfulAnchor}

-- the block's id was drawn, and its stamp is that of an entry so far
pub record IsDrawn (drawn count : ℕ) (b : Block) : Type 0 where
  pub id : b.id < drawn
  pub stamp : b.stamp ≤ count

-- so are those of all blocks, and the header's stamp; and no more ids were drawn than there can have been
pub record AreDrawn (count : ℕ) (d : Document) : Type 0 where
  pub blocks : AllByRecursion (IsDrawn d.drawn count) d.blocks
  pub header : d.header.stamp ≤ count
  pub few : d.drawn ≤ 65536 + count

module _ (drawn more count now : ℕ) (higher : drawn ≤ more) (later : count ≤ now) where
  still_drawn : (b : Block) → IsDrawn drawn count b → IsDrawn more now b
  still_drawn b is = let id = is.id in let stamp = is.stamp in record { id = omega (arith, id, higher); stamp = omega (arith, stamp, later) }

  all_drawn : (bs : List Block) → AllByRecursion (IsDrawn drawn count) bs → AllByRecursion (IsDrawn more now) bs
  all_drawn [] each = tt
  all_drawn (b ∷ bs) each = (still_drawn b each.0, all_drawn bs each.1)

  cut_drawn : (id : ℕ) (bs : List Block) → AllByRecursion (IsDrawn drawn count) bs → AllByRecursion (IsDrawn more now) (blocks_without id bs)
  cut_drawn id [] each = tt
  cut_drawn id (b ∷ bs) each = go (b.id == id) (cut_drawn id bs each.1)
    where
      go : (t : Bool) → AllByRecursion (IsDrawn more now) (blocks_without id bs) → AllByRecursion (IsDrawn more now) (cond t bs (b ∷ blocks_without id bs))
      go true rest = all_drawn bs each.1
      go false rest = (still_drawn b each.0, rest)

  put_drawn : (id : ℕ) (text : List (List ℕ)) (bs : List Block) → AllByRecursion (IsDrawn drawn count) bs → AllByRecursion (IsDrawn more now) (with_text id now text bs)
  put_drawn id text [] each = tt
  put_drawn id text (b ∷ bs) each = go (b.id == id) refl (put_drawn id text bs each.1)
    where
      go : (t : Bool) → (b.id == id) ≡ t → AllByRecursion (IsDrawn more now) (with_text id now text bs)
          → AllByRecursion (IsDrawn more now) (cond t (record { id = id; stamp = now; lines = text } ∷ bs) (b ∷ with_text id now text bs))
      go true is rest = let here = each.0.id in (record { id = omega (arith, here, higher, eqb-true b.id id is); stamp = omega arith }, all_drawn bs each.1)
      go false is rest = (still_drawn b each.0, rest)

  after_drawn : (id : ℕ) (new : Block) (bs : List Block) → IsDrawn more now new → AllByRecursion (IsDrawn drawn count) bs → AllByRecursion (IsDrawn more now) (with_after id new bs)
  after_drawn id new [] fresh each = tt
  after_drawn id new (b ∷ bs) fresh each = go (b.id == id) (after_drawn id new bs fresh each.1)
    where
      go : (t : Bool) → AllByRecursion (IsDrawn more now) (with_after id new bs) → AllByRecursion (IsDrawn more now) (cond t (b ∷ new ∷ bs) (b ∷ with_after id new bs))
      go true rest = (still_drawn b each.0, (fresh, all_drawn bs each.1))
      go false rest = (still_drawn b each.0, rest)

  new_drawn : (anchor : Anchor) (new : Block) (bs : List Block) → IsDrawn more now new → AllByRecursion (IsDrawn drawn count) bs → AllByRecursion (IsDrawn more now) (blocks_with_new anchor new bs)
  new_drawn Start new bs fresh each = (fresh, all_drawn bs each)
  new_drawn (After id) new bs fresh each = after_drawn id new bs fresh each

-- after one more entry
next_drawn : (count : ℕ) (d : Document) (e : Edit) → AreDrawn count d → EditFits d e → AreDrawn (count + 1) (after d (count + 1) e)
next_drawn count d (edit.Put block seen text) are fits = let header = are.header in let few = are.few in record {
  blocks = put_drawn d.drawn d.drawn count (count + 1) (omega arith) (omega arith) block text d.blocks are.blocks;
  header = omega (arith, header);
  few = omega (arith, few);
}
next_drawn count d (edit.Add anchor block text) are fits = let header = are.header in let few = are.few in let id = fits.0 in record {
  blocks = new_drawn d.drawn (d.drawn + 1) count (count + 1) (omega arith) (omega arith) anchor (record { id = block; stamp = count + 1; lines = text }) d.blocks (record { id = omega (arith, id); stamp = omega arith }) are.blocks;
  header = omega (arith, header);
  few = omega (arith, few);
}
next_drawn count d (edit.Cut block seen) are fits = let header = are.header in let few = are.few in record {
  blocks = cut_drawn d.drawn d.drawn count (count + 1) (omega arith) (omega arith) block d.blocks are.blocks;
  header = omega (arith, header);
  few = omega (arith, few);
}
next_drawn count d (edit.Head seen names) are fits = let few = are.few in record {
  blocks = all_drawn d.drawn d.drawn count (count + 1) (omega arith) (omega arith) d.blocks are.blocks;
  header = omega arith;
  few = omega (arith, few);
}

pub drawn_behind : (o : Opening) (before : List Entry) (e : Entry) → AreDrawn (length before) (document_of o before) → MayCome o before e.edit → AreDrawn (length (before ++ e ∷ [])) (document_of o (before ++ e ∷ []))
drawn_behind o before e are comes =
    subst (λ (p : ℕ × Document). AreDrawn p.0 p.1) (λ i. (sym (length-append before (e ∷ [])) i, sym (doc_snoc o before e) i)) (next_drawn (length before) (document_of o before) e.edit are comes.fits)

-- at the start
opened_drawn : (id most : ℕ) (texts : List (List (List ℕ))) → id + length texts ≤ most → AllByRecursion (IsDrawn most 0) (opened_from id texts)
opened_drawn id most [] few = tt
opened_drawn id most (text ∷ texts) few = (record { id = omega (arith, few); stamp = omega arith }, opened_drawn (id + 1) most texts (omega (arith, few)))

pub drawn_first : (o : Opening) → length o.texts ≤ 65536 → AreDrawn 0 (document_of o [])
drawn_first o few = record { blocks = opened_drawn 0 (length o.texts) o.texts (omega arith); header = omega arith; few = omega (arith, few) }

-- a block that is found
record IsFound (drawn count id : ℕ) (b : Block) : Type 0 where
  same : b.id ≡ id
  is_drawn : IsDrawn drawn count b

found_drawn : (drawn count id : ℕ) (bs : List Block) (b : Block) → AllByRecursion (IsDrawn drawn count) bs → block_of bs id ≡ Some b → IsFound drawn count id b
found_drawn drawn count id [] b each is = absurd (cc)
found_drawn drawn count id (x ∷ bs) b each is = go (x.id == id) refl (found_drawn drawn count id bs b each.1) is
  where
    go : (t : Bool) → (x.id == id) ≡ t → (block_of bs id ≡ Some b → IsFound drawn count id b) → cond t (Some x) (block_of bs id) ≡ Some b → IsFound drawn count id b
    go true same behind some = let this : x ≡ b = cc in subst (IsFound drawn count id) this (record { same = eqb-true x.id id same; is_drawn = each.0 })
    go false other behind some = behind some

stamped_drawn : (count : ℕ) (d : Document) (id seen : ℕ) → AreDrawn count d → stamp_at d.blocks id ≡ Some seen → (id < d.drawn) × (seen ≤ count)
stamped_drawn count d id seen are is = go (block_of d.blocks id) refl is
  where
    go : (x : Option Block) → block_of d.blocks id ≡ x → option_map (λ (b : Block). b.stamp) x ≡ Some seen → (id < d.drawn) × (seen ≤ count)
    go None none is = absurd (cc)
    go (Some b) some is =
        let f = found_drawn d.drawn count id d.blocks b are.blocks some in
        let stamp : b.stamp ≡ seen = cc in
        let same = f.same in let low = f.is_drawn.id in let early = f.is_drawn.stamp in
        (omega (arith, same, low), omega (arith, stamp, early))

anchor_drawn : (count : ℕ) (d : Document) (anchor : Anchor) → AreDrawn count d → d.drawn < 2 ^ 32 → HasAnchor d anchor → IsLawfulAnchor anchor
anchor_drawn count d Start are few has = tt
anchor_drawn count d (After id) are few has = go (block_of d.blocks id) refl has
  where
    go : (x : Option Block) → block_of d.blocks id ≡ x → IsSome x → id < 2 ^ 32
    go None none has = absurd (cc)
    go (Some b) some has = let f = found_drawn d.drawn count id d.blocks b are.blocks some in let same = f.same in let low = f.is_drawn.id in omega (arith, same, low, few)

-- the numbers that an edit names
abbrev pub HasNumbers : Edit → Type 0
HasNumbers (edit.Put block seen text) = (block < 2 ^ 32) × (seen < 2 ^ 32)
HasNumbers (edit.Add anchor block text) = IsLawfulAnchor anchor × (block < 2 ^ 32)
HasNumbers (edit.Cut block seen) = (block < 2 ^ 32) × (seen < 2 ^ 32)
HasNumbers (edit.Head seen names) = seen < 2 ^ 32

pub numbers_fit : (count : ℕ) (d : Document) (e : Edit) → AreDrawn count d → count < 1048576 → EditFits d e → HasNumbers e
numbers_fit count d (edit.Put block seen text) are room fits = let s = stamped_drawn count d block seen are fits in let few = are.few in (omega (arith, s.0, few, room), omega (arith, s.1, room))
numbers_fit count d (edit.Add anchor block text) are room fits = let few = are.few in let id = fits.0 in (anchor_drawn count d anchor are (omega (arith, few, room)) fits.1, omega (arith, few, room, id))
numbers_fit count d (edit.Cut block seen) are room fits = let s = stamped_drawn count d block seen are fits in let few = are.few in (omega (arith, s.0, few, room), omega (arith, s.1, room))
numbers_fit count d (edit.Head seen names) are room fits = let header = are.header in omega (arith, header, room, fits)
