-- What an add does to what the book keeps.
use Rattle.std.proofs.Common.{◌≡◌, ◌≢◌, ℕ, suc, ◌+◌, ◌<◌, ◌≤◌, Bool, true, false, cond, not, eq-eqb, ne_eqb, ◌==◌, List, [], ◌∷◌, ◌++◌, length, find, Option, Some, None, IfSome, IsSome, sym, subst, ap, ◌∙◌, refl, length-append, one-add, add-one, arith}
use Rattle.std.specs.Prelude.{insert}
use Rattle.std.specs.List.{AllZip, position_or_len, slice_get}
use Rattle.std.specs.Option.{option_map_or}
use Rattle.std.proofs.lemmas.Bool.{eqb-true, eqb-false}
use Rattle.knit_base.specs.declared.setting.Setting.{Setting}
use Rattle.edit_journal.specs.declared.edit.Anchor.{Anchor}
use Rattle.edit_journal.specs.declared.edit.Anchor.TheVariants.{Start, After}
use Rattle.edit_journal.specs.declared.edit.Edit.TheVariants as edit
use Rattle.edit_journal.specs.declared.edit.Entry.{Entry}
use Rattle.edit_journal.specs.declared.opening.Opening.{Opening}
use Rattle.edit_journal.specs.Entries.{text_for}
use Rattle.edit_journal.specs.Documents.{Block, Document, HasAnchor, block_of, with_after, blocks_with_new, after, document_of, body, lines_in}
use Rattle.edit_book.specs.declared.block_state.BlockState.{BlockState}
use Rattle.edit_book.specs.declared.block_state.BlockState.TheVariants.{There, CutBy}
use Rattle.edit_book.specs.Books.{AreBlockwise, AreDistinct, Each, ids_of, block_state_of, HasIds, HasText, BookFits, IsLawfulSetting, OutlineStands}
use Rattle.edit_book.specs.Outlines.{MayCome}
use Rattle.edit_book.specs.Orders.{is_id, anchor_position}
use Rattle.edit_book.specs.Replies.{Add, cut_number, refusal_or_else, refused_anchor, refused_head, refused_entries, refused_blocks, refused_lines, refusal_of}
use Rattle.edit_book.specs.Verdicts.{setting_of}
use Rattle.edit_book.specs.declared.reply.Reply.{Reply}
use Rattle.edit_book.proofs.Puts.{cut_number_snoc, doc_snoc, got_before, got_last, ids_count, named_there, place_there, or_else_none, short_after, text_last, texts_before}

after_ids : (bs : List Block) (id : ℕ) (new : Block) → (b : Block) × (block_of bs id ≡ Some b) → ids_of (with_after id new bs) ≡ insert (ids_of bs) (position_or_len (is_id id) (ids_of bs) + 1) new.id
after_ids [] id new there = absurd (cc (there.1))
after_ids (x ∷ bs) id new there = go (x.id == id) (λ h. after_ids bs id new (there.0, h)) there.1
  where
    go : (t : Bool) → (block_of bs id ≡ Some there.0 → ids_of (with_after id new bs) ≡ insert (ids_of bs) (position_or_len (is_id id) (ids_of bs) + 1) new.id)
        → cond t (Some x) (block_of bs id) ≡ Some there.0
        → ids_of (cond t (x ∷ new ∷ bs) (x ∷ with_after id new bs)) ≡ insert (x.id ∷ ids_of bs) (cond (not t) (1 + position_or_len (is_id id) (ids_of bs)) 0 + 1) new.id
    go true ih h = refl
    go false ih h = simp (one-add, add-one) (ap (λ (l : List ℕ). x.id ∷ l) (simp (one-add, add-one) at (ih h)))

add_ids : (anchor : Anchor) (bs : List Block) (new : Block) → ((id : ℕ) → anchor ≡ After id → (b : Block) × (block_of bs id ≡ Some b)) → ids_of (blocks_with_new anchor new bs) ≡ insert (ids_of bs) (anchor_position anchor (ids_of bs)) new.id
add_ids Start bs new there = refl
add_ids (After id) bs new there = after_ids bs id new (there id refl)

after_each : (P : Block → Type 0) (bs : List Block) (id : ℕ) (new : Block) → P new → Each P bs → Each P (with_after id new bs)
after_each P [] id new p h = tt
after_each P (b ∷ bs) id new p h = go (b.id == id) (after_each P bs id new p h.1)
  where
    go : (t : Bool) → Each P (with_after id new bs) → Each P (cond t (b ∷ new ∷ bs) (b ∷ with_after id new bs))
    go true rest = (h.0, (p, h.1))
    go false rest = (h.0, rest)

add_each : (P : Block → Type 0) (anchor : Anchor) (bs : List Block) (new : Block) → P new → Each P bs → Each P (blocks_with_new anchor new bs)
add_each P Start bs new p h = (p, h)
add_each P (After id) bs new p h = after_each P bs id new p h

after_each_id : (P : ℕ → Type 0) (bs : List Block) (id : ℕ) (new : Block) → P new.id → Each P (ids_of bs) → Each P (ids_of (with_after id new bs))
after_each_id P [] id new p h = tt
after_each_id P (b ∷ bs) id new p h = go (b.id == id) (after_each_id P bs id new p h.1)
  where
    go : (t : Bool) → Each P (ids_of (with_after id new bs)) → Each P (ids_of (cond t (b ∷ new ∷ bs) (b ∷ with_after id new bs)))
    go true rest = (h.0, (p, h.1))
    go false rest = (h.0, rest)

add_each_id : (P : ℕ → Type 0) (anchor : Anchor) (bs : List Block) (new : Block) → P new.id → Each P (ids_of bs) → Each P (ids_of (blocks_with_new anchor new bs))
add_each_id P Start bs new p h = (p, h)
add_each_id P (After id) bs new p h = after_each_id P bs id new p h

-- one more id is drawn
more_drawn : (ids : List ℕ) (drawn : ℕ) → Each (λ k. k < drawn) ids → Each (λ k. k < drawn + 1) ids
more_drawn [] drawn h = tt
more_drawn (x ∷ xs) drawn h = (omega (arith, h.0), more_drawn xs drawn h.1)

-- an id that wasn't drawn is none of these
fresh : (ids : List ℕ) (drawn : ℕ) → Each (λ k. k < drawn) ids → find (λ y. y == drawn) ids ≡ None
fresh [] drawn h = refl
fresh (x ∷ xs) drawn h = go (x == drawn) refl (fresh xs drawn h.1)
  where
    go : (t : Bool) → (x == drawn) ≡ t → find (λ y. y == drawn) xs ≡ None → cond t (Some x) (find (λ y. y == drawn) xs) ≡ None
    go true is rest = absurd (omega (arith, eqb-true x drawn is, h.0))
    go false is rest = rest

after_find : (bs : List Block) (id k : ℕ) (new : Block) → new.id ≢ k → find (λ y. y == k) (ids_of bs) ≡ None → find (λ y. y == k) (ids_of (with_after id new bs)) ≡ None
after_find [] id k new ne h = h
after_find (b ∷ bs) id k new ne h = go (b.id == k) refl (b.id == id) (after_find bs id k new ne) h
  where
    go : (u : Bool) → (b.id == k) ≡ u → (t : Bool) → (find (λ y. y == k) (ids_of bs) ≡ None → find (λ y. y == k) (ids_of (with_after id new bs)) ≡ None)
        → cond u (Some b.id) (find (λ y. y == k) (ids_of bs)) ≡ None → find (λ y. y == k) (ids_of (cond t (b ∷ new ∷ bs) (b ∷ with_after id new bs))) ≡ None
    go true is t ih h = absurd (cc)
    go false is true ih h = ap (λ (u : Bool). cond u (Some b.id) (cond (new.id == k) (Some new.id) (find (λ y. y == k) (ids_of bs)))) is ∙ (ap (λ (u : Bool). cond u (Some new.id) (find (λ y. y == k) (ids_of bs))) (ne_eqb new.id k ne) ∙ h)
    go false is false ih h = ap (λ (u : Bool). cond u (Some b.id) (find (λ y. y == k) (ids_of (with_after id new bs)))) is ∙ ih h

after_distinct : (bs : List Block) (id drawn : ℕ) (new : Block) → new.id ≡ drawn → Each (λ k. k < drawn) (ids_of bs) → AreDistinct (ids_of bs) → AreDistinct (ids_of (with_after id new bs))
after_distinct [] id drawn new is below h = tt
after_distinct (b ∷ bs) id drawn new is below h =
    let ne : new.id ≢ b.id = λ e. absurd (omega (arith, below.0, is, e)) in
    go (b.id == id) (after_distinct bs id drawn new is below.1 h.1) (after_find bs id b.id new ne h.0)
    (ap (λ (u : Bool). cond u (Some new.id) (find (λ y. y == b.id) (ids_of bs))) (ne_eqb new.id b.id ne) ∙ h.0)
    (subst (λ (k : ℕ). find (λ y. y == k) (ids_of bs) ≡ None) (sym is) (fresh (ids_of bs) drawn below.1))
  where
    go : (t : Bool) → AreDistinct (ids_of (with_after id new bs)) → find (λ y. y == b.id) (ids_of (with_after id new bs)) ≡ None
        → find (λ y. y == b.id) (new.id ∷ ids_of bs) ≡ None → find (λ y. y == new.id) (ids_of bs) ≡ None → AreDistinct (ids_of (cond t (b ∷ new ∷ bs) (b ∷ with_after id new bs)))
    go true rest none apart own = (apart, (own, h.1))
    go false rest none apart own = (none, rest)

add_distinct : (anchor : Anchor) (bs : List Block) (drawn : ℕ) (new : Block) → new.id ≡ drawn → Each (λ k. k < drawn) (ids_of bs) → AreDistinct (ids_of bs) → AreDistinct (ids_of (blocks_with_new anchor new bs))
add_distinct Start bs drawn new is below h = (subst (λ (k : ℕ). find (λ y. y == k) (ids_of bs) ≡ None) (sym is) (fresh (ids_of bs) drawn below), h)
add_distinct (After id) bs drawn new is below h = after_distinct bs id drawn new is below h

-- the new block, and the others
after_other : (bs : List Block) (id k : ℕ) (new : Block) → k ≢ new.id → block_of (with_after id new bs) k ≡ block_of bs k
after_other [] id k new ne = refl
after_other (b ∷ bs) id k new ne = go (b.id == id) (after_other bs id k new ne)
  where
    go : (t : Bool) → block_of (with_after id new bs) k ≡ block_of bs k → block_of (cond t (b ∷ new ∷ bs) (b ∷ with_after id new bs)) k ≡ cond (b.id == k) (Some b) (block_of bs k)
    go true rest = ap (λ (u : Bool). cond (b.id == k) (Some b) (cond u (Some new) (block_of bs k))) (ne_eqb new.id k (λ e. ne (sym e)))
    go false rest = ap (λ (r : Option Block). cond (b.id == k) (Some b) r) rest

add_other : (anchor : Anchor) (bs : List Block) (k : ℕ) (new : Block) → k ≢ new.id → block_of (blocks_with_new anchor new bs) k ≡ block_of bs k
add_other Start bs k new ne = ap (λ (u : Bool). cond u (Some new) (block_of bs k)) (ne_eqb new.id k (λ e. ne (sym e)))
add_other (After id) bs k new ne = after_other bs id k new ne

after_new : (bs : List Block) (id : ℕ) (new : Block) → Each (λ k. k < new.id) (ids_of bs) → (b : Block) × (block_of bs id ≡ Some b) → block_of (with_after id new bs) new.id ≡ Some new
after_new [] id new below there = absurd (cc (there.1))
after_new (x ∷ bs) id new below there = go (x.id == id) (λ h. after_new bs id new below.1 (there.0, h)) (ne_eqb x.id new.id (λ e. absurd (omega (arith, e, below.0)))) there.1
  where
    go : (t : Bool) → (block_of bs id ≡ Some there.0 → block_of (with_after id new bs) new.id ≡ Some new) → (x.id == new.id) ≡ false
        → cond t (Some x) (block_of bs id) ≡ Some there.0 → block_of (cond t (x ∷ new ∷ bs) (x ∷ with_after id new bs)) new.id ≡ Some new
    go true ih apart h = ap (λ (u : Bool). cond u (Some x) (cond (new.id == new.id) (Some new) (block_of bs new.id))) apart ∙ ap (λ (u : Bool). cond u (Some new) (block_of bs new.id)) (eq-eqb new.id new.id refl)
    go false ih apart h = ap (λ (u : Bool). cond u (Some x) (block_of (with_after id new bs) new.id)) apart ∙ ih h

add_new : (anchor : Anchor) (bs : List Block) (new : Block) → Each (λ k. k < new.id) (ids_of bs) → ((id : ℕ) → anchor ≡ After id → (b : Block) × (block_of bs id ≡ Some b)) → block_of (blocks_with_new anchor new bs) new.id ≡ Some new
add_new Start bs new below there = ap (λ (u : Bool). cond u (Some new) (block_of bs new.id)) (eq-eqb new.id new.id refl)
add_new (After id) bs new below there = after_new bs id new below (there id refl)

after_zip : {X : Type 0} (R : X → List (List ℕ) → Type 0) (items : List X) (bs : List Block) (id : ℕ) (item : X) (new : Block) → R item new.lines → (b : Block) × (block_of bs id ≡ Some b)
    → AllZip (λ (x : X) (y : Block). R x y.lines) items bs → AllZip (λ (x : X) (y : Block). R x y.lines) (insert items (position_or_len (is_id id) (ids_of bs) + 1) item) (with_after id new bs)
after_zip R [] [] id item new p there h = absurd (cc (there.1))
after_zip R [] (b ∷ bs) id item new p there h = absurd h
after_zip R (l ∷ items) [] id item new p there h = absurd h
after_zip {X} R (l ∷ items) (b ∷ bs) id item new p there h = go (b.id == id) (λ e. after_zip R items bs id item new p (there.0, e) h.1) there.1
  where
    go : (t : Bool) → (block_of bs id ≡ Some there.0 → AllZip (λ (x : X) (y : Block). R x y.lines) (insert items (position_or_len (is_id id) (ids_of bs) + 1) item) (with_after id new bs))
        → cond t (Some b) (block_of bs id) ≡ Some there.0
        → AllZip (λ (x : X) (y : Block). R x y.lines) (insert (l ∷ items) (cond (not t) (1 + position_or_len (is_id id) (ids_of bs)) 0 + 1) item) (cond t (b ∷ new ∷ bs) (b ∷ with_after id new bs))
    go true ih e = (h.0, (p, h.1))
    go false ih e = simp (one-add, add-one) (h.0, simp (one-add, add-one) at (ih e))

add_zip : {X : Type 0} (R : X → List (List ℕ) → Type 0) (anchor : Anchor) (items : List X) (bs : List Block) (item : X) (new : Block) → R item new.lines → ((id : ℕ) → anchor ≡ After id → (b : Block) × (block_of bs id ≡ Some b))
    → AllZip (λ (x : X) (y : Block). R x y.lines) items bs → AllZip (λ (x : X) (y : Block). R x y.lines) (insert items (anchor_position anchor (ids_of bs)) item) (blocks_with_new anchor new bs)
add_zip R Start items bs item new p there h = (p, h)
add_zip R (After id) items bs item new p there h = after_zip R items bs id item new p (there id refl) h

pub add_count : (anchor : Anchor) (bs : List Block) (new : Block) → length (blocks_with_new anchor new bs) ≤ length bs + 1
add_count Start bs new = omega arith
add_count (After id) bs new = count bs
  where
    count : (xs : List Block) → length (with_after id new xs) ≤ length xs + 1
    count [] = omega arith
    count (b ∷ xs) = go (b.id == id) (count xs)
      where
        go : (t : Bool) → length (with_after id new xs) ≤ length xs + 1 → length (cond t (b ∷ new ∷ xs) (b ∷ with_after id new xs)) ≤ suc (length xs) + 1
        go true ih = omega arith
        go false ih = omega (arith, ih)

after_longer : (bs : List Block) (id : ℕ) (new : Block) → (b : Block) × (block_of bs id ≡ Some b) → length (with_after id new bs) ≡ length bs + 1
after_longer [] id new there = absurd (cc (there.1))
after_longer (x ∷ bs) id new there = go (x.id == id) (λ h. after_longer bs id new (there.0, h)) there.1
  where
    go : (t : Bool) → (block_of bs id ≡ Some there.0 → length (with_after id new bs) ≡ length bs + 1) → cond t (Some x) (block_of bs id) ≡ Some there.0 → length (cond t (x ∷ new ∷ bs) (x ∷ with_after id new bs)) ≡ suc (length bs) + 1
    go true ih h = omega arith
    go false ih h = omega (arith, ih h)

after_lines : (bs : List Block) (id : ℕ) (new : Block) → (b : Block) × (block_of bs id ≡ Some b) → length (lines_in (with_after id new bs)) ≡ length (lines_in bs) + length new.lines
after_lines [] id new there = absurd (cc (there.1))
after_lines (x ∷ bs) id new there = go (x.id == id) (λ h. after_lines bs id new (there.0, h)) there.1
  where
    go : (t : Bool) → (block_of bs id ≡ Some there.0 → length (lines_in (with_after id new bs)) ≡ length (lines_in bs) + length new.lines)
        → cond t (Some x) (block_of bs id) ≡ Some there.0 → length (lines_in (cond t (x ∷ new ∷ bs) (x ∷ with_after id new bs))) ≡ length (x.lines ++ lines_in bs) + length new.lines
    go true ih h = omega (arith, length-append x.lines (new.lines ++ lines_in bs), length-append new.lines (lines_in bs), length-append x.lines (lines_in bs))
    go false ih h = omega (arith, ih h, length-append x.lines (lines_in bs), length-append x.lines (lines_in (with_after id new bs)))

-- an anchor that nothing refuses is there
pub has_anchor : (d : Document) (es : List Entry) (anchor : Anchor) → refused_anchor d es anchor ≡ None → HasAnchor d anchor
has_anchor d es Start free = tt
has_anchor d es (After k) free = let b = named_there d es k free in subst (λ (o : Option Block). IsSome o) (sym b.1) refl

pub anchor_there : (d : Document) (anchor : Anchor) → HasAnchor d anchor → (id : ℕ) → anchor ≡ After id → (b : Block) × (block_of d.blocks id ≡ Some b)
anchor_there d Start has id is = absurd (cc)
anchor_there d (After k) has id is = go (block_of d.blocks k) refl has
  where
    same : k ≡ id
    same = cc

    go : (o : Option Block) → block_of d.blocks k ≡ o → IsSome o → (b : Block) × (block_of d.blocks id ≡ Some b)
    go None there has = absurd (cc)
    go (Some b) there has = (b, ap (block_of d.blocks) (sym same) ∙ there)

pub add_longer : (d : Document) (anchor : Anchor) (new : Block) → HasAnchor d anchor → length (blocks_with_new anchor new d.blocks) ≡ length d.blocks + 1
add_longer d Start new has = omega arith
add_longer d (After k) new has = after_longer d.blocks k new (anchor_there d (After k) has k refl)

pub lines_more : (d : Document) (anchor : Anchor) (i id : ℕ) (text : List (List ℕ)) → HasAnchor d anchor → length (body (after d i (edit.Add anchor id text))) ≡ length (body d) + length text
lines_more d Start i id text has = omega (arith, length-append text (lines_in d.blocks))
lines_more d (After k) i id text has = after_lines d.blocks k (record { id = id; stamp = i; lines = text }) (anchor_there d (After k) has k refl)

pub lines_added : (d : Document) (es : List Entry) (anchor : Anchor) (i : ℕ) (text : List (List ℕ)) → refused_anchor d es anchor ≡ None → length (body (after d i (edit.Add anchor d.drawn text))) ≡ length (body d) + length text
lines_added d es anchor i text free = lines_more d anchor i d.drawn text (has_anchor d es anchor free)

pub ruleset added = (lines_added)

-- what it says that nothing refuses an add
pub record IsFreeAdd (d : Document) (es : List Entry) (anchor : Anchor) (head : ℕ) (text : List (List ℕ)) : Type 0 where
  pub anchored : refused_anchor d es anchor ≡ None
  pub headed : refused_head d es head ≡ None
  pub entries : refused_entries es ≡ None
  pub blocks : refused_blocks d es ≡ None
  pub lines : refused_lines d es (edit.Add anchor d.drawn text) ≡ None

pub add_free : (d : Document) (es : List Entry) (anchor : Anchor) (head : ℕ) (text : List (List ℕ)) → refusal_of d es (Add anchor head text) ≡ None → IsFreeAdd d es anchor head text
add_free d es anchor head text h =
    let lines : Option Reply = refused_lines d es (edit.Add anchor d.drawn text) in
    let a = or_else_none (refused_anchor d es anchor) (refusal_or_else (refused_head d es head) (refusal_or_else (refused_entries es) (refusal_or_else (refused_blocks d es) lines))) h in
    let b = or_else_none (refused_head d es head) (refusal_or_else (refused_entries es) (refusal_or_else (refused_blocks d es) lines)) a.1 in
    let c = or_else_none (refused_entries es) (refusal_or_else (refused_blocks d es) lines) b.1 in
    let e = or_else_none (refused_blocks d es) lines c.1 in
    record { anchored = a.0; headed = b.0; entries = c.0; blocks = e.0; lines = e.1 }

-- the place lies within the list or at its end
pub place_within : (d : Document) (anchor : Anchor) → HasAnchor d anchor → anchor_position anchor (ids_of d.blocks) ≤ length d.blocks
place_within d Start has = omega arith
place_within d (After id) has = let b = anchor_there d (After id) has id refl in omega (arith, place_there d.blocks id b.0 b.1, ids_count d.blocks)

add_states : (d : Document) (es : List Entry) (states : List BlockState) (anchor : Anchor) (session : ℕ) (text : List (List ℕ)) → length states ≡ d.drawn → Each (λ k. k < d.drawn) (ids_of d.blocks) → HasAnchor d anchor
    → ((k : ℕ) → k < d.drawn → slice_get states k ≡ Some (block_state_of d es k))
    → (k : ℕ) → k < d.drawn + 1 → slice_get (states ++ There (length es + 1) ∷ []) k ≡ Some (block_state_of (after d (length es + 1) (edit.Add anchor d.drawn text)) (es ++ record { session = session; edit = edit.Add anchor d.drawn text } ∷ []) k)
add_states d es states anchor session text many below has all k lt = go (k == d.drawn) refl
  where
    go : (t : Bool) → (k == d.drawn) ≡ t → slice_get (states ++ There (length es + 1) ∷ []) k ≡ Some (block_state_of (after d (length es + 1) (edit.Add anchor d.drawn text)) (es ++ record { session = session; edit = edit.Add anchor d.drawn text } ∷ []) k)
    go true is =
        let same : k ≡ d.drawn = eqb-true k d.drawn is in
        subst (λ (n : ℕ). slice_get (states ++ There (length es + 1) ∷ []) n ≡ Some (block_state_of (after d (length es + 1) (edit.Add anchor d.drawn text)) (es ++ record { session = session; edit = edit.Add anchor d.drawn text } ∷ []) n)) (sym same)
        (ap (slice_get (states ++ There (length es + 1) ∷ [])) (sym many) ∙ (got_last states (There (length es + 1))
        ∙ ap (λ (o : Option Block). Some (option_map_or (λ x. There x.stamp) o (CutBy (cut_number (es ++ record { session = session; edit = edit.Add anchor d.drawn text } ∷ []) d.drawn))))
        (sym (add_new anchor d.blocks (record { id = d.drawn; stamp = length es + 1; lines = text }) below (anchor_there d anchor has)))))
    go false is =
        let ne : k ≢ d.drawn = eqb-false k d.drawn is in
        got_before states (There (length es + 1)) (block_state_of d es k) k (all k (omega (arith, lt, ne)))
        ∙ (ap (λ (o : Option Block). Some (option_map_or (λ x. There x.stamp) o (CutBy (cut_number es k)))) (sym (add_other anchor d.blocks k (record { id = d.drawn; stamp = length es + 1; lines = text }) ne))
        ∙ ap (λ (n : ℕ). Some (option_map_or (λ x. There x.stamp) (block_of (blocks_with_new anchor (record { id = d.drawn; stamp = length es + 1; lines = text }) d.blocks) k) (CutBy n))) (sym (cut_number_snoc es (record { session = session; edit = edit.Add anchor d.drawn text }) k)))

add_short : (anchor : Anchor) (id session k : ℕ) (text : List (List ℕ)) → length text ≤ 4096 → IfSome (text_for k (record { session = session; edit = edit.Add anchor id text })) (λ x. length x ≤ 4096)
add_short anchor id session k text h = go (id == k)
  where
    go : (t : Bool) → IfSome (cond t (Some text) None) (λ x. length x ≤ 4096)
    go true = h
    go false = tt

pub add_stands : (o : Opening) (es : List Entry) (states : List BlockState) (ids : List ℕ) (had session : ℕ) (anchor : Anchor) (lines : ℕ) (text : List (List ℕ))
    → OutlineStands o es states ids had → MayCome o es (edit.Add anchor (document_of o es).drawn text)
    → lines ≡ length (body (after (document_of o es) (length es + 1) (edit.Add anchor (document_of o es).drawn text))) → length text ≤ 4096
    → OutlineStands o (es ++ record { session = session; edit = edit.Add anchor (document_of o es).drawn text } ∷ []) (states ++ There (length es + 1) ∷ [])
    (insert ids (anchor_position anchor (ids_of (document_of o es).blocks)) (document_of o es).drawn) lines
add_stands o es states ids had session anchor lines text s comes lines_is short =
    let d : Document = document_of o es in
    let e : Entry = record { session = session; edit = edit.Add anchor d.drawn text } in
    let i : ℕ = length es + 1 in
    let new : Block = record { id = d.drawn; stamp = i; lines = text } in
    let at : ℕ = anchor_position anchor (ids_of d.blocks) in
    let next : document_of o (es ++ e ∷ []) ≡ after d i (edit.Add anchor d.drawn text) = doc_snoc o es e in
    let there = anchor_there d anchor comes.fits.1 in
    let long : length (es ++ e ∷ []) ≡ length es + 1 = length-append es (e ∷ []) in
    record {
      lawful = record {
        has_ids = subst HasIds (sym next) (record {
          differ = add_distinct anchor d.blocks d.drawn new refl s.lawful.has_ids.drawn s.lawful.has_ids.differ;
          drawn = add_each_id (λ k. k < d.drawn + 1) anchor d.blocks new (omega arith) (more_drawn (ids_of d.blocks) d.drawn s.lawful.has_ids.drawn);
        });
        fits = subst (λ (x : Document). BookFits x (es ++ e ∷ [])) (sym next) (record {
          entries_fit = omega (arith, long, comes.room);
          blocks_fit = comes.blocks;
          lines_fit = comes.lines;
          ids_fit = omega (arith, long, s.lawful.fits.ids_fit);
        });
        texts = subst (λ (x : Document). Each (HasText o (es ++ e ∷ [])) x.blocks) (sym next)
            (add_each (HasText o (es ++ e ∷ [])) anchor d.blocks new (text_last o es e d.drawn ∙ ap (λ (t : Bool). cond t (Some text) None) (eq-eqb d.drawn d.drawn refl)) (texts_before o es e d.blocks s.lawful.texts));
        short = short_after o es e s.lawful.short (λ k. add_short anchor d.drawn session k text short);
        setting = subst (λ (x : Document). IsLawfulSetting (setting_of o x)) (sym next) s.lawful.setting;
      };
      drawn = length-append states (There i ∷ []) ∙ (ap (λ (n : ℕ). n + 1) s.drawn ∙ ap (λ (x : Document). x.drawn) (sym next));
      states_are = subst (λ (x : Document). (k : ℕ) → k < x.drawn → slice_get (states ++ There i ∷ []) k ≡ Some (block_state_of x (es ++ e ∷ []) k)) (sym next)
          (add_states d es states anchor session text s.drawn s.lawful.has_ids.drawn comes.fits.1 s.states_are);
      order = ap (λ (l : List ℕ). insert l at d.drawn) s.order ∙ (sym (add_ids anchor d.blocks new there) ∙ ap (λ (x : Document). ids_of x.blocks) (sym next));
      lines = lines_is ∙ ap (λ (x : Document). length (body x)) (sym next);
    }

-- and each item is made of the lines of its block
pub add_items : {X : Type 0} (R : Setting → X → List (List ℕ) → Type 0) (o : Opening) (es : List Entry) (items : List X) (session id : ℕ) (anchor : Anchor) (text : List (List ℕ)) (item : X)
    → AreBlockwise R o (document_of o es) items → HasAnchor (document_of o es) anchor → R (setting_of o (document_of o es)) item text
    → AreBlockwise R o (document_of o (es ++ record { session = session; edit = edit.Add anchor id text } ∷ [])) (insert items (anchor_position anchor (ids_of (document_of o es).blocks)) item)
add_items R o es items session id anchor text item are has item_is =
    let d : Document = document_of o es in
    let new : Block = record { id = id; stamp = length es + 1; lines = text } in
    subst (λ (x : Document). AreBlockwise R o x (insert items (anchor_position anchor (ids_of d.blocks)) item)) (sym (doc_snoc o es (record { session = session; edit = edit.Add anchor id text })))
    (add_zip (R (setting_of o d)) anchor items d.blocks item new item_is (anchor_there d anchor has) are)
