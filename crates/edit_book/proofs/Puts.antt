-- What a put does to what the book keeps.
use Rattle.std.proofs.Common.{◌≡◌, ◌≢◌, ℕ, zero, suc, ◌+◌, ◌<◌, ◌≤◌, Bool, true, false, cond, not, nat_lt, nat_le, eq-eqb, ne_eqb, lt-ltb, ◌==◌, List, [], ◌∷◌, ◌++◌, length, set, position, Option, Some, None, IfSome, option_and_then, option_map, sym, subst, ap, ◌∙◌, refl, length-append, length-set, one-add, add-one, arith}
use Rattle.std.specs.List.{AllZip, position_or_len, slice_get}
use Rattle.std.specs.Option.{option_map_or}
use Rattle.std.proofs.lemmas.Bool.{eqb-true, eqb-false, leb-false, leb-true, ltb-true}
use Rattle.knit_base.specs.declared.setting.Setting.{Setting}
use Rattle.edit_journal.specs.declared.edit.Edit.TheVariants as edit
use Rattle.edit_journal.specs.declared.edit.Entry.{Entry}
use Rattle.edit_journal.specs.declared.opening.Opening.{Opening}
use Rattle.edit_journal.specs.Entries.{text_for}
use Rattle.edit_journal.specs.Documents.{Block, Document, block_of, stamp_at, with_text, after, after_all, document_of, body, document_opened, text_at}
use Rattle.edit_journal.proofs.Known.{text_longer}
use Rattle.edit_book.specs.declared.block_state.BlockState.{BlockState}
use Rattle.edit_book.specs.declared.block_state.BlockState.TheVariants.{There, CutBy}
use Rattle.edit_book.specs.declared.reply.Reply.{Reply}
use Rattle.edit_book.specs.declared.reply.Reply.TheVariants.{Gone, NoBlock, Full}
use Rattle.edit_book.specs.declared.reply.Which.{Which}
use Rattle.edit_book.specs.Books.{AreBlockwise, Each, AreDistinct, ids_of, block_state_of, HasIds, HasText, HasShortTexts, BookFits, IsLawfulSetting, OutlineStands}
use Rattle.edit_book.specs.Outlines.{MayCome}
use Rattle.edit_book.specs.Orders.{is_id}
use Rattle.edit_book.specs.Replies.{Put, refusal_or_else, cuts_block, cut_from, cut_number, refused_name, refused_stamp, refused_head, refused_over, refused_entries, refused_lines, refusal_of}
use Rattle.edit_book.specs.Verdicts.{setting_of}
use Rattle.edit_book.proofs.Blocks.{undrawn_block_absent}

-- one more entry
after_all_snoc : (d : Document) (i : ℕ) (es : List Entry) (e : Entry) → after_all d i (es ++ e ∷ []) ≡ after (after_all d i es) (i + length es) e.edit
after_all_snoc d i [] e = ap (λ (k : ℕ). after d k e.edit) (omega arith)
after_all_snoc d i (x ∷ es) e = after_all_snoc (after d i x.edit) (i + 1) es e ∙ ap (λ (k : ℕ). after (after_all (after d i x.edit) (i + 1) es) k e.edit) (omega arith)

pub doc_snoc : (opening : Opening) (es : List Entry) (e : Entry) → document_of opening (es ++ e ∷ []) ≡ after (document_of opening es) (length es + 1) e.edit
doc_snoc opening es e = after_all_snoc (document_opened opening) 1 es e ∙ ap (λ (k : ℕ). after (document_of opening es) k e.edit) (omega arith)

cut_from_snoc : (i found : ℕ) (es : List Entry) (e : Entry) (id : ℕ) → cut_from i found (es ++ e ∷ []) id ≡ cond (cuts_block e.edit id) (i + length es) (cut_from i found es id)
cut_from_snoc i found [] e id = ap (λ (k : ℕ). cond (cuts_block e.edit id) k found) (omega arith)
cut_from_snoc i found (x ∷ es) e id =
    cut_from_snoc (i + 1) (cond (cuts_block x.edit id) i found) es e id
    ∙ ap (λ (k : ℕ). cond (cuts_block e.edit id) k (cut_from (i + 1) (cond (cuts_block x.edit id) i found) es id)) (omega arith)

pub cut_number_snoc : (es : List Entry) (e : Entry) (id : ℕ) → cut_number (es ++ e ∷ []) id ≡ cond (cuts_block e.edit id) (length es + 1) (cut_number es id)
cut_number_snoc es e id = cut_from_snoc 1 0 es e id ∙ ap (λ (k : ℕ). cond (cuts_block e.edit id) k (cut_number es id)) (omega arith)

-- what was there stays there, and the last is last
pub got_before : {X : Type 0} (xs : List X) (x y : X) (i : ℕ) → slice_get xs i ≡ Some y → slice_get (xs ++ x ∷ []) i ≡ Some y
got_before [] x y i h = absurd (cc)
got_before (z ∷ xs) x y zero h = h
got_before (z ∷ xs) x y (suc i) h = got_before xs x y i h

pub got_last : {X : Type 0} (xs : List X) (x : X) → slice_get (xs ++ x ∷ []) (length xs) ≡ Some x
got_last [] x = refl
got_last (y ∷ xs) x = got_last xs x

-- an item of the longer list is one of the shorter or the last
got_cases : {X : Type 0} (xs : List X) (x : X) (P : Option X → Type 0) → P (Some x) → P None → ((i : ℕ) → P (slice_get xs i)) → (i : ℕ) → P (slice_get (xs ++ x ∷ []) i)
got_cases [] x P last none all zero = last
got_cases [] x P last none all (suc i) = none
got_cases (y ∷ xs) x P last none all zero = all zero
got_cases (y ∷ xs) x P last none all (suc i) = got_cases xs x P last none (λ j. all (suc j)) i

pub texts_before : (o : Opening) (es : List Entry) (e : Entry) (bs : List Block) → Each (HasText o es) bs → Each (HasText o (es ++ e ∷ [])) bs
texts_before o es e [] h = tt
texts_before o es e (b ∷ bs) h = (text_longer o es (e ∷ []) b.id b.stamp b.lines h.0, texts_before o es e bs h.1)

pub short_after : (o : Opening) (es : List Entry) (e : Entry) → HasShortTexts o es → ((id : ℕ) → IfSome (text_for id e) (λ text. length text ≤ 4096)) → HasShortTexts o (es ++ e ∷ [])
short_after o es e short last id zero = short id zero
short_after o es e short last id (suc i) = got_cases es e (λ (g : Option Entry). IfSome (option_and_then (text_for id) g) (λ text. length text ≤ 4096)) (last id) tt (λ j. short id (suc j)) i

-- a put changes no id
pub put_ids : (bs : List Block) (id i : ℕ) (text : List (List ℕ)) → ids_of (with_text id i text bs) ≡ ids_of bs
put_ids [] id i text = refl
put_ids (b ∷ bs) id i text = go (b.id == id) refl (put_ids bs id i text)
  where
    go : (t : Bool) → (b.id == id) ≡ t → ids_of (with_text id i text bs) ≡ ids_of bs → ids_of (cond t (record { id = id; stamp = i; lines = text } ∷ bs) (b ∷ with_text id i text bs)) ≡ b.id ∷ ids_of bs
    go true is rest = ap (λ (k : ℕ). k ∷ ids_of bs) (sym (eqb-true b.id id is))
    go false is rest = ap (λ (l : List ℕ). b.id ∷ l) rest

pub ids_count : (bs : List Block) → length (ids_of bs) ≡ length bs
ids_count [] = refl
ids_count (b ∷ bs) = ap suc (ids_count bs)

pub put_count : (bs : List Block) (id i : ℕ) (text : List (List ℕ)) → length (with_text id i text bs) ≡ length bs
put_count bs id i text = sym (ids_count (with_text id i text bs)) ∙ (ap length (put_ids bs id i text) ∙ ids_count bs)

-- the block that was put, and the others
pub put_block : (bs : List Block) (id i : ℕ) (text : List (List ℕ)) (b : Block) → block_of bs id ≡ Some b → block_of (with_text id i text bs) id ≡ Some (record { id = id; stamp = i; lines = text })
put_block [] id i text b h = absurd (cc)
put_block (x ∷ bs) id i text b h = go (x.id == id) refl (put_block bs id i text b) h
  where
    go : (t : Bool) → (x.id == id) ≡ t → (block_of bs id ≡ Some b → block_of (with_text id i text bs) id ≡ Some (record { id = id; stamp = i; lines = text }))
        → cond t (Some x) (block_of bs id) ≡ Some b → block_of (cond t (record { id = id; stamp = i; lines = text } ∷ bs) (x ∷ with_text id i text bs)) id ≡ Some (record { id = id; stamp = i; lines = text })
    go true is rest h = ap (λ (t : Bool). cond t (Some (record { id = id; stamp = i; lines = text })) (block_of bs id)) (eq-eqb id id refl)
    go false is rest h = ap (λ (t : Bool). cond t (Some x) (block_of (with_text id i text bs) id)) is ∙ rest h

pub put_other : (bs : List Block) (id i : ℕ) (text : List (List ℕ)) (k : ℕ) → k ≢ id → block_of (with_text id i text bs) k ≡ block_of bs k
put_other [] id i text k ne = refl
put_other (x ∷ bs) id i text k ne = go (x.id == id) refl (put_other bs id i text k ne)
  where
    go : (t : Bool) → (x.id == id) ≡ t → block_of (with_text id i text bs) k ≡ block_of bs k → block_of (cond t (record { id = id; stamp = i; lines = text } ∷ bs) (x ∷ with_text id i text bs)) k ≡ cond (x.id == k) (Some x) (block_of bs k)
    go true is rest =
        ap (λ (t : Bool). cond t (Some (record { id = id; stamp = i; lines = text })) (block_of bs k)) (ne_eqb id k (λ e. ne (sym e)))
        ∙ sym (ap (λ (t : Bool). cond t (Some x) (block_of bs k)) (ne_eqb x.id k (λ e. ne (sym e ∙ eqb-true x.id id is))))
    go false is rest = ap (λ (r : Option Block). cond (x.id == k) (Some x) r) rest

-- an item after a write
pub set_there : {X : Type 0} (xs : List X) (i : ℕ) (x : X) → i < length xs → slice_get (set xs i x) i ≡ Some x
set_there [] i x h = absurd (omega arith)
set_there (y ∷ xs) zero x h = refl
set_there (y ∷ xs) (suc i) x h = set_there xs i x (omega arith)

pub set_other : {X : Type 0} (xs : List X) (i : ℕ) (x : X) (k : ℕ) → k ≢ i → slice_get (set xs i x) k ≡ slice_get xs k
set_other [] i x k ne = refl
set_other (y ∷ xs) zero x zero ne = absurd (ne refl)
set_other (y ∷ xs) zero x (suc k) ne = refl
set_other (y ∷ xs) (suc i) x zero ne = refl
set_other (y ∷ xs) (suc i) x (suc k) ne = set_other xs i x k (λ e. ne (ap suc e))

-- the item of the block that was put
put_zip : {X : Type 0} (R : X → List (List ℕ) → Type 0) (items : List X) (bs : List Block) (id i : ℕ) (text : List (List ℕ)) (item : X) → R item text
    → AllZip (λ (x : X) (b : Block). R x b.lines) items bs → AllZip (λ (x : X) (b : Block). R x b.lines) (set items (position_or_len (is_id id) (ids_of bs)) item) (with_text id i text bs)
put_zip R [] [] id i text item new h = h
put_zip R [] (b ∷ bs) id i text item new h = absurd h
put_zip R (x ∷ items) [] id i text item new h = absurd h
put_zip {X} R (x ∷ items) (b ∷ bs) id i text item new h = go (b.id == id) (put_zip R items bs id i text item new h.1)
  where
    go : (t : Bool) → AllZip (λ (x : X) (y : Block). R x y.lines) (set items (position_or_len (is_id id) (ids_of bs)) item) (with_text id i text bs)
        → AllZip (λ (x : X) (y : Block). R x y.lines) (set (x ∷ items) (cond (not t) (1 + position_or_len (is_id id) (ids_of bs)) 0) item) (cond t (record { id = id; stamp = i; lines = text } ∷ bs) (b ∷ with_text id i text bs))
    go true rest = (new, h.1)
    go false rest = simp one-add (h.0, rest)

pub or_else_none : {A : Type 0} (a b : Option A) → refusal_or_else a b ≡ None → (a ≡ None) × (b ≡ None)
or_else_none None b h = (refl, h)
or_else_none (Some a) b h = absurd (cc)

-- what it says that nothing refuses a put
pub record IsFreePut (d : Document) (entries : List Entry) (id seen head : ℕ) (text : List (List ℕ)) : Type 0 where
  pub named : refused_name d entries id ≡ None
  pub stamped : refused_stamp d entries id seen ≡ None
  pub headed : refused_head d entries head ≡ None
  pub room : refused_entries entries ≡ None
  pub lines : refused_lines d entries (edit.Put id seen text) ≡ None

pub put_free : (d : Document) (entries : List Entry) (id seen head : ℕ) (text : List (List ℕ)) → refusal_of d entries (Put id seen head text) ≡ None → IsFreePut d entries id seen head text
put_free d entries id seen head text h =
    let lines : Option Reply = refused_lines d entries (edit.Put id seen text) in
    let a = or_else_none (refused_name d entries id) (refusal_or_else (refused_stamp d entries id seen) (refusal_or_else (refused_head d entries head) (refusal_or_else (refused_entries entries) lines))) h in
    let b = or_else_none (refused_stamp d entries id seen) (refusal_or_else (refused_head d entries head) (refusal_or_else (refused_entries entries) lines)) a.1 in
    let c = or_else_none (refused_head d entries head) (refusal_or_else (refused_entries entries) lines) b.1 in
    let e = or_else_none (refused_entries entries) lines c.1 in
    record { named = a.0; stamped = b.0; headed = c.0; room = e.0; lines = e.1 }

pub count_within_limit : (v limit count : ℕ) (what : Which) → refused_over v what limit count ≡ None → count ≤ limit
count_within_limit v limit count what h = go (nat_le count limit) refl h
  where
    go : (t : Bool) → nat_le count limit ≡ t → cond t None (Some (Full v what limit)) ≡ None → count ≤ limit
    go true is h = leb-true count limit is
    go false is h = absurd (cc)

-- a block that nothing refuses is there, and was drawn
pub named_there : (d : Document) (entries : List Entry) (id : ℕ) → refused_name d entries id ≡ None → (b : Block) × (block_of d.blocks id ≡ Some b) × (id < d.drawn)
named_there d entries id h = go (nat_lt id d.drawn) refl (block_of d.blocks id) refl h
  where
    go : (t : Bool) → nat_lt id d.drawn ≡ t → (o : Option Block) → block_of d.blocks id ≡ o
        → cond t (option_map_or (λ b. None) o (Some (Gone (length entries) id (cut_number entries id)))) (Some (NoBlock (length entries) id d.drawn)) ≡ None → (b : Block) × (block_of d.blocks id ≡ Some b) × (id < d.drawn)
    go true t (Some b) is h = (b, is, ltb-true id d.drawn t)
    go true t None is h = absurd (cc)
    go false t o is h = absurd (cc)

-- the place that is found is the first
pub first_place : {X : Type 0} (p : X → Bool) (xs : List X) (at : ℕ) → position p xs ≡ Some at → (at ≡ position_or_len p xs) × (at < length xs)
first_place p xs at h = go (nat_lt (position_or_len p xs) (length xs)) refl h
  where
    go : (t : Bool) → nat_lt (position_or_len p xs) (length xs) ≡ t → cond t (Some (position_or_len p xs)) None ≡ Some at → (at ≡ position_or_len p xs) × (at < length xs)
    go true is h = let e : position_or_len p xs ≡ at = cc in (sym e, omega (arith, e, ltb-true (position_or_len p xs) (length xs) is))
    go false is h = absurd (cc)

pub place_is : (xs : List ℕ) (id at : ℕ) → position (is_id id) xs ≡ Some at → (at ≡ position_or_len (is_id id) xs) × (at < length xs)
place_is xs id at h = first_place (is_id id) xs at h

-- a block that is there has a place
pub place_there : (bs : List Block) (id : ℕ) (b : Block) → block_of bs id ≡ Some b → position_or_len (is_id id) (ids_of bs) < length (ids_of bs)
place_there [] id b h = absurd (cc)
place_there (x ∷ bs) id b h = go (x.id == id) (place_there bs id b) h
  where
    go : (t : Bool) → (block_of bs id ≡ Some b → position_or_len (is_id id) (ids_of bs) < length (ids_of bs))
        → cond t (Some x) (block_of bs id) ≡ Some b → cond (not t) (1 + position_or_len (is_id id) (ids_of bs)) 0 < suc (length (ids_of bs))
    go true rest h = omega arith
    go false rest h = omega (arith, rest h)

pub has_place : (bs : List Block) (id : ℕ) (b : Block) (ids : List ℕ) → block_of bs id ≡ Some b → ids ≡ ids_of bs → position (is_id id) ids ≡ None → ⊥
has_place bs id b ids there is none = go (lt-ltb (position_or_len (is_id id) (ids_of bs)) (length (ids_of bs)) (place_there bs id b there)) (ap (position (is_id id)) (sym is) ∙ none)
  where
    go : nat_lt (position_or_len (is_id id) (ids_of bs)) (length (ids_of bs)) ≡ true → position (is_id id) (ids_of bs) ≡ None → ⊥
    go t h = let e : Some (position_or_len (is_id id) (ids_of bs)) ≡ None = ap (λ (x : Bool). cond x (Some (position_or_len (is_id id) (ids_of bs))) None) (sym t) ∙ h in cc

pub put_each : (P : Block → Type 0) (bs : List Block) (id i : ℕ) (text : List (List ℕ)) → P (record { id = id; stamp = i; lines = text }) → Each P bs → Each P (with_text id i text bs)
put_each P [] id i text new h = tt
put_each P (b ∷ bs) id i text new h = go (b.id == id) (put_each P bs id i text new h.1)
  where
    go : (t : Bool) → Each P (with_text id i text bs) → Each P (cond t (record { id = id; stamp = i; lines = text } ∷ bs) (b ∷ with_text id i text bs))
    go true rest = (new, h.1)
    go false rest = (h.0, rest)

-- the text of the last entry
pub text_last : (o : Opening) (es : List Entry) (e : Entry) (id : ℕ) → text_at o (es ++ e ∷ []) id (length es + 1) ≡ text_for id e
text_last o es e id = rw add-one (ap (option_and_then (text_for id)) (got_last es e))

own_text : (id seen session : ℕ) (text : List (List ℕ)) → text_for id (record { session = session; edit = edit.Put id seen text }) ≡ Some text
own_text id seen session text = ap (λ (t : Bool). cond t (Some text) None) (eq-eqb id id refl)

put_short : (id seen session k : ℕ) (text : List (List ℕ)) → length text ≤ 4096 → IfSome (text_for k (record { session = session; edit = edit.Put id seen text })) (λ x. length x ≤ 4096)
put_short id seen session k text h = go (id == k)
  where
    go : (t : Bool) → IfSome (cond t (Some text) None) (λ x. length x ≤ 4096)
    go true = h
    go false = tt

-- the states after a put
put_states : (d : Document) (es : List Entry) (states : List BlockState) (id seen session i : ℕ) (text : List (List ℕ)) (b : Block) → block_of d.blocks id ≡ Some b → id < length states
    → ((k : ℕ) → k < d.drawn → slice_get states k ≡ Some (block_state_of d es k))
    → (k : ℕ) → k < d.drawn → slice_get (set states id (There i)) k ≡ Some (block_state_of (after d i (edit.Put id seen text)) (es ++ record { session = session; edit = edit.Put id seen text } ∷ []) k)
put_states d es states id seen session i text b there fits all k drawn = go (k == id) refl
  where
    go : (t : Bool) → (k == id) ≡ t → slice_get (set states id (There i)) k ≡ Some (block_state_of (after d i (edit.Put id seen text)) (es ++ record { session = session; edit = edit.Put id seen text } ∷ []) k)
    go true is =
        let same : k ≡ id = eqb-true k id is in
        subst (λ (n : ℕ). slice_get (set states id (There i)) n ≡ Some (block_state_of (after d i (edit.Put id seen text)) (es ++ record { session = session; edit = edit.Put id seen text } ∷ []) n)) (sym same)
        (set_there states id (There i) fits ∙ ap (λ (o : Option Block). Some (option_map_or (λ x. There x.stamp) o (CutBy (cut_number (es ++ record { session = session; edit = edit.Put id seen text } ∷ []) id)))) (sym (put_block d.blocks id i text b there)))
    go false is =
        let ne : k ≢ id = eqb-false k id is in
        set_other states id (There i) k ne
        ∙ (all k drawn
        ∙ (ap (λ (o : Option Block). Some (option_map_or (λ x. There x.stamp) o (CutBy (cut_number es k)))) (sym (put_other d.blocks id i text k ne))
        ∙ ap (λ (n : ℕ). Some (option_map_or (λ x. There x.stamp) (block_of (with_text id i text d.blocks) k) (CutBy n))) (sym (cut_number_snoc es (record { session = session; edit = edit.Put id seen text }) k))))

-- a stamp is that of a block that is there
pub stamped_there : (bs : List Block) (id stamp : ℕ) → stamp_at bs id ≡ Some stamp → (b : Block) × (block_of bs id ≡ Some b) × (b.stamp ≡ stamp)
stamped_there bs id stamp is = go (block_of bs id) refl is
  where
    go : (o : Option Block) → block_of bs id ≡ o → option_map (λ b. b.stamp) o ≡ Some stamp → (b : Block) × (block_of bs id ≡ Some b) × (b.stamp ≡ stamp)
    go None there is = absurd (cc)
    go (Some b) there is = let same : b.stamp ≡ stamp = cc in (b, there, same)

-- a block that is there was drawn
pub there_drawn : (bs : List Block) (drawn id : ℕ) (b : Block) → Each (λ i. i < drawn) (ids_of bs) → block_of bs id ≡ Some b → id < drawn
there_drawn bs drawn id b below there = go (nat_le drawn id) refl
  where
    go : (t : Bool) → nat_le drawn id ≡ t → id < drawn
    go true is = let none : block_of bs id ≡ None = undrawn_block_absent bs drawn id below (leb-true drawn id is) in absurd (cc)
    go false is = leb-false drawn id is

pub put_stands : (o : Opening) (es : List Entry) (states : List BlockState) (ids : List ℕ) (had session id seen lines : ℕ) (text : List (List ℕ))
    → OutlineStands o es states ids had → MayCome o es (edit.Put id seen text)
    → lines ≡ length (body (after (document_of o es) (length es + 1) (edit.Put id seen text))) → length text ≤ 4096
    → OutlineStands o (es ++ record { session = session; edit = edit.Put id seen text } ∷ []) (set states id (There (length es + 1))) ids lines
put_stands o es states ids had session id seen lines text s comes lines_is short =
    let e : Entry = record { session = session; edit = edit.Put id seen text } in
    let d : Document = document_of o es in
    let i : ℕ = length es + 1 in
    let next : document_of o (es ++ e ∷ []) ≡ after d i (edit.Put id seen text) = doc_snoc o es e in
    let b = stamped_there d.blocks id seen comes.fits in
    let drawn = there_drawn d.blocks d.drawn id b.0 s.lawful.has_ids.drawn b.1 in
    let long : length (es ++ e ∷ []) ≡ length es + 1 = length-append es (e ∷ []) in
    let same_ids = put_ids d.blocks id i text in
    record {
      lawful = record {
        has_ids = subst HasIds (sym next) (record {
          differ = subst AreDistinct (sym same_ids) s.lawful.has_ids.differ;
          drawn = subst (Each (λ k. k < d.drawn)) (sym same_ids) s.lawful.has_ids.drawn;
        });
        fits = subst (λ (x : Document). BookFits x (es ++ e ∷ [])) (sym next) (record {
          entries_fit = omega (arith, long, comes.room);
          blocks_fit = comes.blocks;
          lines_fit = comes.lines;
          ids_fit = omega (arith, long, s.lawful.fits.ids_fit);
        });
        texts = subst (λ (x : Document). Each (HasText o (es ++ e ∷ [])) x.blocks) (sym next)
            (put_each (HasText o (es ++ e ∷ [])) d.blocks id i text (text_last o es e id ∙ own_text id seen session text) (texts_before o es e d.blocks s.lawful.texts));
        short = short_after o es e s.lawful.short (λ k. put_short id seen session k text short);
        setting = subst (λ (x : Document). IsLawfulSetting (setting_of o x)) (sym next) s.lawful.setting;
      };
      drawn = length-set states id (There i) ∙ (s.drawn ∙ ap (λ (x : Document). x.drawn) (sym next));
      states_are = subst (λ (x : Document). (k : ℕ) → k < x.drawn → slice_get (set states id (There i)) k ≡ Some (block_state_of x (es ++ e ∷ []) k)) (sym next)
          (put_states d es states id seen session i text b.0 b.1 (omega (arith, drawn, s.drawn)) s.states_are);
      order = s.order ∙ (sym same_ids ∙ ap (λ (x : Document). ids_of x.blocks) (sym next));
      lines = lines_is ∙ ap (λ (x : Document). length (body x)) (sym next);
    }

-- and each item is made of the lines of its block
pub put_items : {X : Type 0} (R : Setting → X → List (List ℕ) → Type 0) (o : Opening) (es : List Entry) (items : List X) (session id seen at : ℕ) (text : List (List ℕ)) (item : X)
    → AreBlockwise R o (document_of o es) items → position (is_id id) (ids_of (document_of o es).blocks) ≡ Some at → R (setting_of o (document_of o es)) item text
    → AreBlockwise R o (document_of o (es ++ record { session = session; edit = edit.Put id seen text } ∷ [])) (set items at item)
put_items {X} R o es items session id seen at text item are place item_is =
    let e : Entry = record { session = session; edit = edit.Put id seen text } in
    let d : Document = document_of o es in
    let i : ℕ = length es + 1 in
    subst (λ (x : Document). AreBlockwise R o x (set items at item)) (sym (doc_snoc o es e))
    (subst (λ (n : ℕ). AllZip (λ (x : X) (y : Block). R (setting_of o d) x y.lines) (set items n item) (with_text id i text d.blocks)) (sym (place_is (ids_of d.blocks) id at place).0)
    (put_zip (R (setting_of o d)) items d.blocks id i text item item_is are))
