-- What a cut does to what the book keeps.
use Rattle.std.proofs.Common.{◌≡◌, ◌≢◌, ℕ, suc, ◌+◌, ◌<◌, ◌≤◌, Bool, true, false, cond, not, eq-eqb, ne_eqb, ◌==◌, List, [], ◌∷◌, ◌++◌, length, set, find, take, drop, position, Option, Some, None, sym, subst, ap, ◌∙◌, refl, length-append, length-set, one-add, arith}
use Rattle.std.specs.Prelude.{remove}
use Rattle.std.specs.List.{AllZip, position_or_len, slice_get}
use Rattle.std.specs.Option.{option_map_or}
use Rattle.std.proofs.lemmas.Bool.{eqb-true, eqb-false}
use Rattle.knit_base.specs.declared.setting.Setting.{Setting}
use Rattle.edit_journal.specs.declared.edit.Edit.TheVariants as edit
use Rattle.edit_journal.specs.declared.edit.Entry.{Entry}
use Rattle.edit_journal.specs.declared.opening.Opening.{Opening}
use Rattle.edit_journal.specs.Documents.{Block, Document, block_of, blocks_without, after, document_of, body}
use Rattle.edit_book.specs.declared.block_state.BlockState.{BlockState}
use Rattle.edit_book.specs.declared.block_state.BlockState.TheVariants.{There, CutBy}
use Rattle.edit_book.specs.Books.{AreBlockwise, AreDistinct, Each, ids_of, block_state_of, HasIds, HasText, BookFits, IsLawfulSetting, OutlineStands}
use Rattle.edit_book.specs.Orders.{is_id}
use Rattle.edit_book.specs.Outlines.{MayCome}
use Rattle.edit_book.specs.Replies.{Cut, cut_number, refusal_or_else, refused_name, refused_stamp, refused_entries, refusal_of}
use Rattle.edit_book.proofs.Puts.{cut_number_snoc, doc_snoc, or_else_none, place_is, set_other, set_there, short_after, stamped_there, texts_before, there_drawn}
use Rattle.edit_book.specs.Verdicts.{setting_of}
use Rattle.tree_shape.specs.Fewest.{list_removed}

-- a list without one item
pub removed_is : {X : Type 0} (at : ℕ) (xs : List X) → list_removed at xs ≡ remove xs at
removed_is at xs = ap (λ (n : ℕ). take at xs ++ drop n xs) (let e : at + 1 ≡ suc at = omega arith in e)

-- the ids that are left
pub cut_ids : (bs : List Block) (id : ℕ) → ids_of (blocks_without id bs) ≡ remove (ids_of bs) (position_or_len (is_id id) (ids_of bs))
cut_ids [] id = refl
cut_ids (b ∷ bs) id = go (b.id == id) (cut_ids bs id)
  where
    go : (t : Bool) → ids_of (blocks_without id bs) ≡ remove (ids_of bs) (position_or_len (is_id id) (ids_of bs))
        → ids_of (cond t bs (b ∷ blocks_without id bs)) ≡ remove (b.id ∷ ids_of bs) (cond (not t) (1 + position_or_len (is_id id) (ids_of bs)) 0)
    go true ih = refl
    go false ih = simp one-add (ap (λ (l : List ℕ). b.id ∷ l) ih)

pub cut_count : (bs : List Block) (id : ℕ) → length (blocks_without id bs) ≤ length bs
cut_count [] id = omega arith
cut_count (b ∷ bs) id = go (b.id == id) (cut_count bs id)
  where
    go : (t : Bool) → length (blocks_without id bs) ≤ length bs → length (cond t bs (b ∷ blocks_without id bs)) ≤ suc (length bs)
    go true ih = omega arith
    go false ih = omega (arith, ih)

cut_each : (P : Block → Type 0) (bs : List Block) (id : ℕ) → Each P bs → Each P (blocks_without id bs)
cut_each P [] id h = tt
cut_each P (b ∷ bs) id h = go (b.id == id) (cut_each P bs id h.1)
  where
    go : (t : Bool) → Each P (blocks_without id bs) → Each P (cond t bs (b ∷ blocks_without id bs))
    go true rest = h.1
    go false rest = (h.0, rest)

cut_each_id : (P : ℕ → Type 0) (bs : List Block) (id : ℕ) → Each P (ids_of bs) → Each P (ids_of (blocks_without id bs))
cut_each_id P [] id h = tt
cut_each_id P (b ∷ bs) id h = go (b.id == id) (cut_each_id P bs id h.1)
  where
    go : (t : Bool) → Each P (ids_of (blocks_without id bs)) → Each P (ids_of (cond t bs (b ∷ blocks_without id bs)))
    go true rest = h.1
    go false rest = (h.0, rest)

cut_find : (bs : List Block) (id k : ℕ) → find (λ y. y == k) (ids_of bs) ≡ None → find (λ y. y == k) (ids_of (blocks_without id bs)) ≡ None
cut_find [] id k h = h
cut_find (b ∷ bs) id k h = go (b.id == k) (b.id == id) refl (cut_find bs id k) h
  where
    go : (u t : Bool) → (b.id == k) ≡ u → (find (λ y. y == k) (ids_of bs) ≡ None → find (λ y. y == k) (ids_of (blocks_without id bs)) ≡ None)
        → cond u (Some b.id) (find (λ y. y == k) (ids_of bs)) ≡ None → find (λ y. y == k) (ids_of (cond t bs (b ∷ blocks_without id bs))) ≡ None
    go true t is ih h = absurd (cc)
    go false true is ih h = h
    go false false is ih h = ap (λ (u : Bool). cond u (Some b.id) (find (λ y. y == k) (ids_of (blocks_without id bs)))) is ∙ ih h

cut_distinct : (bs : List Block) (id : ℕ) → AreDistinct (ids_of bs) → AreDistinct (ids_of (blocks_without id bs))
cut_distinct [] id h = tt
cut_distinct (b ∷ bs) id h = go (b.id == id) (cut_distinct bs id h.1) (cut_find bs id b.id h.0)
  where
    go : (t : Bool) → AreDistinct (ids_of (blocks_without id bs)) → find (λ y. y == b.id) (ids_of (blocks_without id bs)) ≡ None → AreDistinct (ids_of (cond t bs (b ∷ blocks_without id bs)))
    go true rest none = h.1
    go false rest none = (none, rest)

not_among : (bs : List Block) (k : ℕ) → find (λ y. y == k) (ids_of bs) ≡ None → block_of bs k ≡ None
not_among [] k h = refl
not_among (b ∷ bs) k h = go (b.id == k) (not_among bs k) h
  where
    go : (t : Bool) → (find (λ y. y == k) (ids_of bs) ≡ None → block_of bs k ≡ None) → cond t (Some b.id) (find (λ y. y == k) (ids_of bs)) ≡ None → cond t (Some b) (block_of bs k) ≡ None
    go true ih h = absurd (cc)
    go false ih h = ih h

-- the block that was cut, and the others
cut_block : (bs : List Block) (id : ℕ) → AreDistinct (ids_of bs) → block_of (blocks_without id bs) id ≡ None
cut_block [] id h = refl
cut_block (b ∷ bs) id h = go (b.id == id) refl (cut_block bs id h.1)
  where
    go : (t : Bool) → (b.id == id) ≡ t → block_of (blocks_without id bs) id ≡ None → block_of (cond t bs (b ∷ blocks_without id bs)) id ≡ None
    go true is rest = not_among bs id (subst (λ (k : ℕ). find (λ y. y == k) (ids_of bs) ≡ None) (eqb-true b.id id is) h.0)
    go false is rest = ap (λ (u : Bool). cond u (Some b) (block_of (blocks_without id bs) id)) is ∙ rest

cut_other : (bs : List Block) (id k : ℕ) → k ≢ id → block_of (blocks_without id bs) k ≡ block_of bs k
cut_other [] id k ne = refl
cut_other (b ∷ bs) id k ne = go (b.id == id) refl (cut_other bs id k ne)
  where
    go : (t : Bool) → (b.id == id) ≡ t → block_of (blocks_without id bs) k ≡ block_of bs k → block_of (cond t bs (b ∷ blocks_without id bs)) k ≡ cond (b.id == k) (Some b) (block_of bs k)
    go true is rest = sym (ap (λ (u : Bool). cond u (Some b) (block_of bs k)) (ne_eqb b.id k (λ e. ne (sym e ∙ eqb-true b.id id is))))
    go false is rest = ap (λ (r : Option Block). cond (b.id == k) (Some b) r) rest

-- the items that are left
cut_zip : {X : Type 0} (R : X → List (List ℕ) → Type 0) (items : List X) (bs : List Block) (id : ℕ) → AllZip (λ (x : X) (b : Block). R x b.lines) items bs
    → AllZip (λ (x : X) (b : Block). R x b.lines) (remove items (position_or_len (is_id id) (ids_of bs))) (blocks_without id bs)
cut_zip R [] [] id h = h
cut_zip R [] (b ∷ bs) id h = absurd h
cut_zip {X} R (l ∷ items) [] id h = absurd h
cut_zip {X} R (l ∷ items) (b ∷ bs) id h = go (b.id == id) (cut_zip R items bs id h.1)
  where
    go : (t : Bool) → AllZip (λ (x : X) (y : Block). R x y.lines) (remove items (position_or_len (is_id id) (ids_of bs))) (blocks_without id bs)
        → AllZip (λ (x : X) (y : Block). R x y.lines) (remove (l ∷ items) (cond (not t) (1 + position_or_len (is_id id) (ids_of bs)) 0)) (cond t bs (b ∷ blocks_without id bs))
    go true rest = h.1
    go false rest = simp one-add (h.0, rest)

pub cut_free : (d : Document) (entries : List Entry) (id seen : ℕ) → refusal_of d entries (Cut id seen) ≡ None → (refused_name d entries id ≡ None) × (refused_stamp d entries id seen ≡ None) × (refused_entries entries ≡ None)
cut_free d entries id seen h =
    let a = or_else_none (refused_name d entries id) (refusal_or_else (refused_stamp d entries id seen) (refused_entries entries)) h in
    let b = or_else_none (refused_stamp d entries id seen) (refused_entries entries) a.1 in
    (a.0, b.0, b.1)

cut_states : (d : Document) (es : List Entry) (states : List BlockState) (id seen session : ℕ) → AreDistinct (ids_of d.blocks) → id < length states
    → ((k : ℕ) → k < d.drawn → slice_get states k ≡ Some (block_state_of d es k))
    → (k : ℕ) → k < d.drawn → slice_get (set states id (CutBy (length es + 1))) k ≡ Some (block_state_of (after d (length es + 1) (edit.Cut id seen)) (es ++ record { session = session; edit = edit.Cut id seen } ∷ []) k)
cut_states d es states id seen session distinct fits all k drawn = go (k == id) refl
  where
    go : (t : Bool) → (k == id) ≡ t → slice_get (set states id (CutBy (length es + 1))) k ≡ Some (block_state_of (after d (length es + 1) (edit.Cut id seen)) (es ++ record { session = session; edit = edit.Cut id seen } ∷ []) k)
    go true is =
        let same : k ≡ id = eqb-true k id is in
        let number : cut_number (es ++ record { session = session; edit = edit.Cut id seen } ∷ []) id ≡ length es + 1 =
        cut_number_snoc es (record { session = session; edit = edit.Cut id seen }) id ∙ ap (λ (t : Bool). cond t (length es + 1) (cut_number es id)) (eq-eqb id id refl) in
        subst (λ (n : ℕ). slice_get (set states id (CutBy (length es + 1))) n ≡ Some (block_state_of (after d (length es + 1) (edit.Cut id seen)) (es ++ record { session = session; edit = edit.Cut id seen } ∷ []) n)) (sym same)
        (set_there states id (CutBy (length es + 1)) fits
        ∙ (ap (λ (n : ℕ). Some (CutBy n)) (sym number)
        ∙ ap (λ (o : Option Block). Some (option_map_or (λ x. There x.stamp) o (CutBy (cut_number (es ++ record { session = session; edit = edit.Cut id seen } ∷ []) id)))) (sym (cut_block d.blocks id distinct))))
    go false is =
        let ne : k ≢ id = eqb-false k id is in
        let number : cut_number (es ++ record { session = session; edit = edit.Cut id seen } ∷ []) k ≡ cut_number es k =
        cut_number_snoc es (record { session = session; edit = edit.Cut id seen }) k ∙ ap (λ (t : Bool). cond t (length es + 1) (cut_number es k)) (ne_eqb id k (λ e. ne (sym e))) in
        set_other states id (CutBy (length es + 1)) k ne
        ∙ (all k drawn
        ∙ (ap (λ (o : Option Block). Some (option_map_or (λ x. There x.stamp) o (CutBy (cut_number es k)))) (sym (cut_other d.blocks id k ne))
        ∙ ap (λ (n : ℕ). Some (option_map_or (λ x. There x.stamp) (block_of (blocks_without id d.blocks) k) (CutBy n))) (sym number)))

pub cut_stands : (o : Opening) (es : List Entry) (states : List BlockState) (ids : List ℕ) (had session id seen at lines : ℕ)
    → OutlineStands o es states ids had → MayCome o es (edit.Cut id seen) → position (is_id id) ids ≡ Some at
    → lines ≡ length (body (after (document_of o es) (length es + 1) (edit.Cut id seen)))
    → OutlineStands o (es ++ record { session = session; edit = edit.Cut id seen } ∷ []) (set states id (CutBy (length es + 1))) (remove ids at) lines
cut_stands o es states ids had session id seen at lines s comes place lines_is =
    let e : Entry = record { session = session; edit = edit.Cut id seen } in
    let d : Document = document_of o es in
    let i : ℕ = length es + 1 in
    let next : document_of o (es ++ e ∷ []) ≡ after d i (edit.Cut id seen) = doc_snoc o es e in
    let b = stamped_there d.blocks id seen comes.fits in
    let drawn = there_drawn d.blocks d.drawn id b.0 s.lawful.has_ids.drawn b.1 in
    let long : length (es ++ e ∷ []) ≡ length es + 1 = length-append es (e ∷ []) in
    let at_is : at ≡ position_or_len (is_id id) (ids_of d.blocks) = (place_is ids id at place).0 ∙ ap (position_or_len (is_id id)) s.order in
    record {
      lawful = record {
        has_ids = subst HasIds (sym next) (record {
          differ = cut_distinct d.blocks id s.lawful.has_ids.differ;
          drawn = cut_each_id (λ k. k < d.drawn) d.blocks id s.lawful.has_ids.drawn;
        });
        fits = subst (λ (x : Document). BookFits x (es ++ e ∷ [])) (sym next) (record {
          entries_fit = omega (arith, long, comes.room);
          blocks_fit = comes.blocks;
          lines_fit = comes.lines;
          ids_fit = omega (arith, long, s.lawful.fits.ids_fit);
        });
        texts = subst (λ (x : Document). Each (HasText o (es ++ e ∷ [])) x.blocks) (sym next) (cut_each (HasText o (es ++ e ∷ [])) d.blocks id (texts_before o es e d.blocks s.lawful.texts));
        short = short_after o es e s.lawful.short (λ k. tt);
        setting = subst (λ (x : Document). IsLawfulSetting (setting_of o x)) (sym next) s.lawful.setting;
      };
      drawn = length-set states id (CutBy i) ∙ (s.drawn ∙ ap (λ (x : Document). x.drawn) (sym next));
      states_are = subst (λ (x : Document). (k : ℕ) → k < x.drawn → slice_get (set states id (CutBy i)) k ≡ Some (block_state_of x (es ++ e ∷ []) k)) (sym next)
          (cut_states d es states id seen session s.lawful.has_ids.differ (omega (arith, drawn, s.drawn)) s.states_are);
      order = ap (λ (n : ℕ). remove ids n) at_is ∙ (ap (λ (l : List ℕ). remove l (position_or_len (is_id id) (ids_of d.blocks))) s.order ∙ (sym (cut_ids d.blocks id) ∙ ap (λ (x : Document). ids_of x.blocks) (sym next)));
      lines = lines_is ∙ ap (λ (x : Document). length (body x)) (sym next);
    }

-- and each item is made of the lines of its block
pub cut_items : {X : Type 0} (R : Setting → X → List (List ℕ) → Type 0) (o : Opening) (es : List Entry) (items : List X) (session id seen at : ℕ)
    → AreBlockwise R o (document_of o es) items → position (is_id id) (ids_of (document_of o es).blocks) ≡ Some at
    → AreBlockwise R o (document_of o (es ++ record { session = session; edit = edit.Cut id seen } ∷ [])) (remove items at)
cut_items {X} R o es items session id seen at are place =
    let d : Document = document_of o es in
    subst (λ (x : Document). AreBlockwise R o x (remove items at)) (sym (doc_snoc o es (record { session = session; edit = edit.Cut id seen })))
    (subst (λ (n : ℕ). AllZip (λ (x : X) (y : Block). R (setting_of o d) x y.lines) (remove items n) (blocks_without id d.blocks)) (sym (place_is (ids_of d.blocks) id at place).0)
    (cut_zip (R (setting_of o d)) items d.blocks id are))
