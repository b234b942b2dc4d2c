-- The undo of a journal's last entry takes the body back.
use Rattle.std.proofs.Common.{◌≡◌, ℕ, ◌+◌, ◌≤◌, Bool, true, false, cond, eq-eqb, ne_eqb, ◌==◌, List, [], ◌∷◌, ◌++◌, length, Option, Some, None, option_map, option_and_then, sym, ap, ◌∙◌, refl, subst, arith}
use Rattle.std.proofs.lemmas.Bool.{eqb-true}
use Rattle.edit_journal.specs.declared.edit.Anchor.{Anchor}
use Rattle.edit_journal.specs.declared.edit.Anchor.TheVariants.{Start, After}
use Rattle.edit_journal.specs.declared.edit.Edit.{Edit}
use Rattle.edit_journal.specs.declared.edit.Edit.TheVariants as edit
use Rattle.edit_journal.specs.declared.edit.Entry.{Entry}
use Rattle.edit_journal.specs.declared.opening.Opening.{Opening}
use Rattle.edit_journal.specs.Documents.{AreTextsKnown, Block, Document, EditFits, after, after_all, block_of, body, document_of, lines_in, document_opened, opened_from, text_at, with_after, blocks_with_new, with_text, blocks_without}
use Rattle.edit_journal.proofs.Known.{all_known, text_longer}
use Rattle.edit_book.specs.Replies.{Request, Put, Cut, accepted_block, edit_of, entry_of}
use Rattle.edit_book.specs.declared.reply.Reply.{Reply}
use Rattle.edit_book.proofs.Puts.{doc_snoc}
use Rattle.edit_groups.specs.Answers.{IsUndo, edits_in, nothing, undone, request_undoing}
use Rattle.edit_groups.specs.Chunks.{Undoable}
use Rattle.edit_groups.specs.Laws.{AreFitting}
use Rattle.edit_groups.specs.declared.reply.GroupReply.{GroupReply}

-- a block of which all is known has the text that the entry with its stamp gave it
known_at : (o : Opening) (es : List Entry) (bs : List Block) (id : ℕ) (b : Block) → AreTextsKnown o es bs → block_of bs id ≡ Some b → text_at o es id b.stamp ≡ Some b.lines
known_at o es [] id b known is = absurd (cc)
known_at o es (x ∷ bs) id b known is = go (x.id == id) refl (known_at o es bs id b known.1) is
  where
    go : (t : Bool) → (x.id == id) ≡ t → (block_of bs id ≡ Some b → text_at o es id b.stamp ≡ Some b.lines) → cond t (Some x) (block_of bs id) ≡ Some b → text_at o es id b.stamp ≡ Some b.lines
    go true at rest is =
        let same : x ≡ b = cc in
        subst (λ (p : ℕ × Block). text_at o es p.0 p.1.stamp ≡ Some p.1.lines) (λ i. (eqb-true x.id id at i, same i)) known.0
    go false at rest is = rest is

-- the text that a put replaced, put back
put_back : (bs : List Block) (id i j : ℕ) (text : List (List ℕ)) (b : Block) → block_of bs id ≡ Some b → lines_in (with_text id j b.lines (with_text id i text bs)) ≡ lines_in bs
put_back [] id i j text b is = refl
put_back (x ∷ bs) id i j text b is = go (x.id == id) refl (put_back bs id i j text b) is
  where
    go : (t : Bool) → (x.id == id) ≡ t → (block_of bs id ≡ Some b → lines_in (with_text id j b.lines (with_text id i text bs)) ≡ lines_in bs) → cond t (Some x) (block_of bs id) ≡ Some b
        → lines_in (with_text id j b.lines (cond t (record { id = id; stamp = i; lines = text } ∷ bs) (x ∷ with_text id i text bs))) ≡ x.lines ++ lines_in bs
    go true at rest is =
        let same : b ≡ x = cc in
        ap (λ (t : Bool). lines_in (cond t (record { id = id; stamp = j; lines = b.lines } ∷ bs) (record { id = id; stamp = i; lines = text } ∷ with_text id j b.lines bs))) (eq-eqb id id refl)
        ∙ ap (λ (y : Block). y.lines ++ lines_in bs) same
    go false at rest is =
        ap (λ (t : Bool). lines_in (cond t (record { id = id; stamp = j; lines = b.lines } ∷ with_text id i text bs) (x ∷ with_text id j b.lines (with_text id i text bs)))) at
        ∙ ap (λ (l : List (List ℕ)). x.lines ++ l) (rest is)

-- no block has this id
none_in : (x : Block) (bs : List Block) (id : ℕ) → block_of (x ∷ bs) id ≡ None → ((x.id == id) ≡ false) × (block_of bs id ≡ None)
none_in x bs id none = go (x.id == id) refl none
  where
    go : (t : Bool) → (x.id == id) ≡ t → cond t (Some x) (block_of bs id) ≡ None → ((x.id == id) ≡ false) × (block_of bs id ≡ None)
    go true is none = absurd (cc)
    go false is none = (is, none)

none_more : (x : Block) (bs : List Block) (id : ℕ) → (x.id == id) ≡ false → block_of bs id ≡ None → block_of (x ∷ bs) id ≡ None
none_more x bs id isnt none = ap (λ (t : Bool). cond t (Some x) (block_of bs id)) isnt ∙ none

put_none : (k i : ℕ) (text : List (List ℕ)) (bs : List Block) (id : ℕ) → block_of bs id ≡ None → block_of (with_text k i text bs) id ≡ None
put_none k i text [] id none = refl
put_none k i text (x ∷ bs) id none = let both = none_in x bs id none in go (x.id == k) refl both (put_none k i text bs id both.1)
  where
    go : (t : Bool) → (x.id == k) ≡ t → ((x.id == id) ≡ false) × (block_of bs id ≡ None) → block_of (with_text k i text bs) id ≡ None → block_of (cond t (record { id = k; stamp = i; lines = text } ∷ bs) (x ∷ with_text k i text bs)) id ≡ None
    go true is both rest = none_more (record { id = k; stamp = i; lines = text }) bs id (subst (λ (n : ℕ). (n == id) ≡ false) (eqb-true x.id k is) both.0) both.1
    go false is both rest = none_more x (with_text k i text bs) id both.0 rest

cut_none : (k : ℕ) (bs : List Block) (id : ℕ) → block_of bs id ≡ None → block_of (blocks_without k bs) id ≡ None
cut_none k [] id none = refl
cut_none k (x ∷ bs) id none = let both = none_in x bs id none in go (x.id == k) both (cut_none k bs id both.1)
  where
    go : (t : Bool) → ((x.id == id) ≡ false) × (block_of bs id ≡ None) → block_of (blocks_without k bs) id ≡ None → block_of (cond t bs (x ∷ blocks_without k bs)) id ≡ None
    go true both rest = both.1
    go false both rest = none_more x (blocks_without k bs) id both.0 rest

after_none : (k : ℕ) (new : Block) (bs : List Block) (id : ℕ) → (new.id == id) ≡ false → block_of bs id ≡ None → block_of (with_after k new bs) id ≡ None
after_none k new [] id isnt none = refl
after_none k new (x ∷ bs) id isnt none = let both = none_in x bs id none in go (x.id == k) both (after_none k new bs id isnt both.1)
  where
    go : (t : Bool) → ((x.id == id) ≡ false) × (block_of bs id ≡ None) → block_of (with_after k new bs) id ≡ None → block_of (cond t (x ∷ new ∷ bs) (x ∷ with_after k new bs)) id ≡ None
    go true both rest = none_more x (new ∷ bs) id both.0 (none_more new bs id isnt both.1)
    go false both rest = none_more x (with_after k new bs) id both.0 rest

new_none : (anchor : Anchor) (new : Block) (bs : List Block) (id : ℕ) → (new.id == id) ≡ false → block_of bs id ≡ None → block_of (blocks_with_new anchor new bs) id ≡ None
new_none Start new bs id isnt none = none_more new bs id isnt none
new_none (After k) new bs id isnt none = after_none k new bs id isnt none

opened_none : (first : ℕ) (texts : List (List (List ℕ))) (id : ℕ) → first + length texts ≤ id → block_of (opened_from first texts) id ≡ None
opened_none first [] id past = refl
opened_none first (t ∷ ts) id past = none_more (record { id = first; stamp = 0; lines = t }) (opened_from (first + 1) ts) id (ne_eqb first id (λ is. omega (arith, is, past))) (opened_none (first + 1) ts id (omega (arith, past)))

-- a block that an add made, cut again
behind : (id : ℕ) (new : Block) (bs : List Block) → block_of bs new.id ≡ None → blocks_without new.id (with_after id new bs) ≡ bs
behind id new [] none = refl
behind id new (x ∷ bs) none = let both = none_in x bs new.id none in go (x.id == id) both (behind id new bs both.1)
  where
    go : (t : Bool) → ((x.id == new.id) ≡ false) × (block_of bs new.id ≡ None) → blocks_without new.id (with_after id new bs) ≡ bs → blocks_without new.id (cond t (x ∷ new ∷ bs) (x ∷ with_after id new bs)) ≡ x ∷ bs
    go true both rest =
        ap (λ (t : Bool). cond t (new ∷ bs) (x ∷ blocks_without new.id (new ∷ bs))) both.0
        ∙ ap (λ (t : Bool). x ∷ cond t bs (new ∷ blocks_without new.id bs)) (eq-eqb new.id new.id refl)
    go false both rest =
        ap (λ (t : Bool). cond t (with_after id new bs) (x ∷ blocks_without new.id (with_after id new bs))) both.0
        ∙ ap (λ (l : List Block). x ∷ l) rest

add_back : (anchor : Anchor) (new : Block) (bs : List Block) → block_of bs new.id ≡ None → blocks_without new.id (blocks_with_new anchor new bs) ≡ bs
add_back Start new bs none = ap (λ (t : Bool). cond t bs (new ∷ blocks_without new.id bs)) (eq-eqb new.id new.id refl)
add_back (After id) new bs none = behind id new bs none

-- no block has an id that wasn't drawn yet
abbrev IsFresh : Document → Type 0
IsFresh d = (id : ℕ) → d.drawn ≤ id → block_of d.blocks id ≡ None

fresh_after : (d : Document) (i : ℕ) (e : Edit) → EditFits d e → IsFresh d → IsFresh (after d i e)
fresh_after d i (edit.Put k seen text) fits fresh id past = put_none k i text d.blocks id (fresh id past)
fresh_after d i (edit.Add anchor k text) fits fresh id past = new_none anchor (record { id = k; stamp = i; lines = text }) d.blocks id (ne_eqb k id (λ is. omega (arith, is, fits.0, past))) (fresh id (omega (arith, past)))
fresh_after d i (edit.Cut k seen) fits fresh id past = cut_none k d.blocks id (fresh id past)
fresh_after d i (edit.Head seen names) fits fresh id past = fresh id past

fresh_all : (d : Document) (i : ℕ) (es : List Entry) → AreFitting d i es → IsFresh d → IsFresh (after_all d i es)
fresh_all d i [] fitting fresh = fresh
fresh_all d i (e ∷ es) fitting fresh = fresh_all (after d i e.edit) (i + 1) es fitting.1 (fresh_after d i e.edit fitting.0 fresh)

fitting_last : (d : Document) (i : ℕ) (es : List Entry) (e : Entry) → AreFitting d i (es ++ e ∷ []) → AreFitting d i es × EditFits (after_all d i es) e.edit
fitting_last d i [] e f = (tt, f.0)
fitting_last d i (x ∷ es) e f = let rest = fitting_last (after d i x.edit) (i + 1) es e f.1 in ((f.0, rest.0), rest.1)

-- the edit of an accepted request
record IsEditOf (request : Request) (e : Edit) : Type 0 where
  block : ℕ
  is : edit_of request block ≡ Some e

accepted_edit : (session : ℕ) (request : Request) (told : Reply) (e : Edit) → edits_in (entry_of session request told) ≡ e ∷ [] → IsEditOf request e
accepted_edit session request told e one = go (accepted_block told) one
  where
    at : (block : ℕ) (found : Option Edit) → edit_of request block ≡ found → edits_in (option_map (λ (x : Edit). record { session = session; edit = x }) found) ≡ e ∷ [] → IsEditOf request e
    at block None is one = absurd (cc)
    at block (Some x) is one = let same : x ≡ e = cc in record { block = block; is = is ∙ ap Some same }

    go : (found : Option ℕ) → edits_in (option_map (λ (x : Edit). record { session = session; edit = x }) (option_and_then (edit_of request) found)) ≡ e ∷ [] → IsEditOf request e
    go None one = absurd (cc)
    go (Some block) one = at block (edit_of request block) refl one

module _ (o : Opening) (before : List Entry) (last : Entry) (fitting : AreFitting (document_opened o) 1 (before ++ last ∷ [])) where
  abbrev journal : List Entry
  journal = before ++ last ∷ []

  abbrev number : ℕ
  number = length before + 1

  abbrev d : Document
  d = document_of o before

  fits : EditFits d last.edit
  fits = (fitting_last (document_opened o) 1 before last fitting).1

  fresh : IsFresh d
  fresh = fresh_all (document_opened o) 1 before (fitting_last (document_opened o) 1 before last fitting).0 (λ id past. opened_none 0 o.texts id (omega (arith, past)))

  -- the document behind the undo
  behind_undo : (undo : Edit) → document_of o (journal ++ record { session = last.session; edit = undo } ∷ []) ≡ after (after d number last.edit) (length journal + 1) undo
  behind_undo undo = doc_snoc o journal (record { session = last.session; edit = undo }) ∙ ap (λ (x : Document). after x (length journal + 1) undo) (doc_snoc o before last)

  put_undone : (i block seen : ℕ) (text : List (List ℕ)) (request : Request) (undo : Edit) → EditFits d (edit.Put block seen text) → request_undoing o journal number (edit.Put block seen text) ≡ Some request → IsEditOf request undo
      → body (after (after d number (edit.Put block seen text)) i undo) ≡ body d
  put_undone i block seen text request undo fits un is = stamped (block_of d.blocks block) refl fits
    where
      put : (b : Block) → block_of d.blocks block ≡ Some b → (old : Option (List (List ℕ))) → old ≡ Some b.lines → option_map (Put block number (document_of o journal).header.stamp) old ≡ Some request → body (after (after d number (edit.Put block seen text)) i undo) ≡ body d
      put b there None had un = absurd (cc)
      put b there (Some old) had un =
          let same : Put block number (document_of o journal).header.stamp old ≡ request = cc in
          let undo_is : Some undo ≡ Some (edit.Put block number old) = sym is.is ∙ ap (λ (r : Request). edit_of r is.block) (sym same) in
          let undo_put : undo ≡ edit.Put block number old = cc in
          let lines_are : old ≡ b.lines = cc in
          ap (λ (e : Edit). body (after (after d number (edit.Put block seen text)) i e)) undo_put
          ∙ (ap (λ (l : List (List ℕ)). lines_in (with_text block i l (with_text block number text d.blocks))) lines_are ∙ put_back d.blocks block number i text b there)

      stamped : (found : Option Block) → block_of d.blocks block ≡ found → option_map (λ (b : Block). b.stamp) found ≡ Some seen → body (after (after d number (edit.Put block seen text)) i undo) ≡ body d
      stamped None there stamp = absurd (cc)
      stamped (Some b) there stamp =
          let stamp_is : b.stamp ≡ seen = cc in
          let had : text_at o before block seen ≡ Some b.lines = subst (λ (n : ℕ). text_at o before block n ≡ Some b.lines) stamp_is (known_at o before d.blocks block b (all_known o before).blocks there) in
          put b there (text_at o journal block seen) (text_longer o before (last ∷ []) block seen b.lines had) un

  add_undone : (i block : ℕ) (anchor : Anchor) (text : List (List ℕ)) (request : Request) (undo : Edit) → EditFits d (edit.Add anchor block text) → request_undoing o journal number (edit.Add anchor block text) ≡ Some request → IsEditOf request undo
      → body (after (after d number (edit.Add anchor block text)) i undo) ≡ body d
  add_undone i block anchor text request undo fits un is =
      let same : Cut block number ≡ request = cc in
      let undo_is : Some undo ≡ Some (edit.Cut block number) = sym is.is ∙ ap (λ (r : Request). edit_of r is.block) (sym same) in
      let undo_cut : undo ≡ edit.Cut block number = cc in
      ap (λ (e : Edit). body (after (after d number (edit.Add anchor block text)) i e)) undo_cut
      ∙ ap lines_in (add_back anchor (record { id = block; stamp = number; lines = text }) d.blocks (fresh block (omega (arith, fits.0))))

  undone_back : (i : ℕ) (e : Edit) (request : Request) (undo : Edit) → EditFits d e → request_undoing o journal number e ≡ Some request → IsEditOf request undo → body (after (after d number e) i undo) ≡ body d
  undone_back i (edit.Put block seen text) request undo fits un is = put_undone i block seen text request undo fits un is
  undone_back i (edit.Add anchor block text) request undo fits un is = add_undone i block anchor text request undo fits un is
  undone_back i (edit.Cut block seen) request undo fits un is = absurd (cc)
  undone_back i (edit.Head seen names) request undo fits un is = absurd (cc)

  undo_back : (found : Option Undoable) (r : GroupReply) (edits : List Edit) (undo : Edit) → IsUndo o last.session journal found r edits → found ≡ Some (record { number = number; edit = last.edit }) → edits ≡ undo ∷ []
      → body (document_of o (journal ++ record { session = last.session; edit = undo } ∷ [])) ≡ body d
  undo_back found r edits undo nothing is one = absurd (cc)
  undo_back found r edits undo (undone l request _ _ un done) is one =
      let last_is : l ≡ record { number = number; edit = last.edit } = cc in
      let asks : request_undoing o journal number last.edit ≡ Some request = subst (λ (u : Undoable). request_undoing o journal u.number u.edit ≡ Some request) last_is un in
      ap body (behind_undo undo)
      ∙ undone_back (length journal + 1) last.edit request undo fits asks (accepted_edit last.session request done.told undo (sym done.edits_are ∙ one))

pub goes_back : (o : Opening) (before : List Entry) (last : Entry) (r : GroupReply) (undo : Edit) → AreFitting (document_opened o) 1 (before ++ last ∷ []) → IsUndo o last.session (before ++ last ∷ []) (Some (record { number = length before + 1; edit = last.edit })) r (undo ∷ [])
    → body (document_of o ((before ++ last ∷ []) ++ record { session = last.session; edit = undo } ∷ [])) ≡ body (document_of o before)
goes_back o before last r undo fitting is = undo_back o before last fitting (Some (record { number = length before + 1; edit = last.edit })) r (undo ∷ []) undo is refl refl
