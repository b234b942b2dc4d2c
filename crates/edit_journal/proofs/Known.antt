-- Each block of a document, and its header, has what the entry with its stamp gave it, whatever the journal; and what an entry gave stays given.
use Rattle.std.proofs.Common.{◌≡◌, ℕ, zero, suc, ◌+◌, Bool, true, false, cond, ◌==◌, eq-eqb, List, [], ◌∷◌, ◌++◌, length, slice_get, Option, Some, None, option_and_then, sym, ap, ◌∙◌, refl, subst, append_assoc, append-nil, length-append, arith}
use Rattle.edit_journal.specs.declared.edit.Edit.{Edit}
use Rattle.edit_journal.specs.declared.edit.Edit.TheVariants as edit
use Rattle.edit_journal.specs.declared.edit.Anchor.{Anchor}
use Rattle.edit_journal.specs.declared.edit.Anchor.TheVariants.{Start, After}
use Rattle.edit_journal.specs.declared.edit.Entry.{Entry}
use Rattle.edit_journal.specs.declared.opening.Opening.{Opening}
use Rattle.edit_journal.specs.Entries.{text_for, names_for}
use Rattle.edit_journal.specs.Documents.{Block, Document, AreTextsKnown, opened_from, with_text, with_after, blocks_with_new, blocks_without, after, after_all, document_of, document_opened, names_given, text_at}

-- what is there stays there, and the last is last
got_longer : {X : Type 0} (xs ys : List X) (y : X) (i : ℕ) → slice_get xs i ≡ Some y → slice_get (xs ++ ys) i ≡ Some y
got_longer [] ys y i h = absurd (cc)
got_longer (z ∷ xs) ys y zero h = h
got_longer (z ∷ xs) ys y (suc i) h = got_longer xs ys y i h

got_last : {X : Type 0} (xs : List X) (x : X) → slice_get (xs ++ x ∷ []) (length xs) ≡ Some x
got_last [] x = refl
got_last (y ∷ xs) x = got_last xs x

longer : {A : Type 0} (f : Entry → Option A) (es more : List Entry) (i : ℕ) (a : A) → option_and_then f (slice_get es i) ≡ Some a → option_and_then f (slice_get (es ++ more) i) ≡ Some a
longer f es more i a h = go (slice_get es i) refl h
  where
    go : (g : Option Entry) → slice_get es i ≡ g → option_and_then f g ≡ Some a → option_and_then f (slice_get (es ++ more) i) ≡ Some a
    go None is h = absurd (cc)
    go (Some x) is h = ap (option_and_then f) (got_longer es more x i is) ∙ h

pub text_longer : (o : Opening) (es more : List Entry) (id stamp : ℕ) (text : List (List ℕ)) → text_at o es id stamp ≡ Some text → text_at o (es ++ more) id stamp ≡ Some text
text_longer o es more id zero text h = h
text_longer o es more id (suc i) text h = longer (text_for id) es more i text h

pub names_longer : (o : Opening) (es more : List Entry) (stamp : ℕ) (names : List (List ℕ)) → names_given o es stamp ≡ Some names → names_given o (es ++ more) stamp ≡ Some names
names_longer o es more zero names h = h
names_longer o es more (suc i) names h = longer names_for es more i names h

-- what the newest entry gave
text_newest : (o : Opening) (es : List Entry) (e : Entry) (id i : ℕ) (text : List (List ℕ)) → i ≡ length es + 1 → text_for id e ≡ Some text → text_at o (es ++ e ∷ []) id i ≡ Some text
text_newest o es e id zero text at gives = absurd (omega arith)
text_newest o es e id (suc k) text at gives =
    let place : k ≡ length es = omega arith in
    ap (λ (n : ℕ). option_and_then (text_for id) (slice_get (es ++ e ∷ []) n)) place ∙ (ap (option_and_then (text_for id)) (got_last es e) ∙ gives)

pub names_newest : (o : Opening) (es : List Entry) (e : Entry) (i : ℕ) (names : List (List ℕ)) → i ≡ length es + 1 → names_for e ≡ Some names → names_given o (es ++ e ∷ []) i ≡ Some names
names_newest o es e zero names at gives = absurd (omega arith)
names_newest o es e (suc k) names at gives =
    let place : k ≡ length es = omega arith in
    ap (λ (n : ℕ). option_and_then names_for (slice_get (es ++ e ∷ []) n)) place ∙ (ap (option_and_then names_for) (got_last es e) ∙ gives)

known_longer : (o : Opening) (es more : List Entry) (bs : List Block) → AreTextsKnown o es bs → AreTextsKnown o (es ++ more) bs
known_longer o es more [] known = tt
known_longer o es more (b ∷ bs) known = (text_longer o es more b.id b.stamp b.lines known.0, known_longer o es more bs known.1)

module _ (o : Opening) (es : List Entry) (e : Entry) (i : ℕ) (at : i ≡ length es + 1) where
  abbrev more : List Entry
  more = es ++ e ∷ []

  put_known : (id : ℕ) (text : List (List ℕ)) (bs : List Block) → text_for id e ≡ Some text → AreTextsKnown o es bs → AreTextsKnown o more (with_text id i text bs)
  put_known id text [] gives known = tt
  put_known id text (b ∷ bs) gives known = go (b.id == id) (put_known id text bs gives known.1)
    where
      go : (t : Bool) → AreTextsKnown o more (with_text id i text bs) → AreTextsKnown o more (cond t (record { id = id; stamp = i; lines = text } ∷ bs) (b ∷ with_text id i text bs))
      go true rest = (text_newest o es e id i text at gives, known_longer o es (e ∷ []) bs known.1)
      go false rest = (text_longer o es (e ∷ []) b.id b.stamp b.lines known.0, rest)

  after_known : (id : ℕ) (new : Block) (bs : List Block) → text_at o more new.id new.stamp ≡ Some new.lines → AreTextsKnown o es bs → AreTextsKnown o more (with_after id new bs)
  after_known id new [] is known = tt
  after_known id new (b ∷ bs) is known = go (b.id == id) (after_known id new bs is known.1)
    where
      first : text_at o more b.id b.stamp ≡ Some b.lines
      first = text_longer o es (e ∷ []) b.id b.stamp b.lines known.0

      go : (t : Bool) → AreTextsKnown o more (with_after id new bs) → AreTextsKnown o more (cond t (b ∷ new ∷ bs) (b ∷ with_after id new bs))
      go true rest = (first, (is, known_longer o es (e ∷ []) bs known.1))
      go false rest = (first, rest)

  new_known : (anchor : Anchor) (new : Block) (bs : List Block) → text_at o more new.id new.stamp ≡ Some new.lines → AreTextsKnown o es bs → AreTextsKnown o more (blocks_with_new anchor new bs)
  new_known Start new bs is known = (is, known_longer o es (e ∷ []) bs known)
  new_known (After id) new bs is known = after_known id new bs is known

  cut_known : (id : ℕ) (bs : List Block) → AreTextsKnown o es bs → AreTextsKnown o more (blocks_without id bs)
  cut_known id [] known = tt
  cut_known id (b ∷ bs) known = go (b.id == id) (cut_known id bs known.1)
    where
      go : (t : Bool) → AreTextsKnown o more (blocks_without id bs) → AreTextsKnown o more (cond t bs (b ∷ blocks_without id bs))
      go true rest = known_longer o es (e ∷ []) bs known.1
      go false rest = (text_longer o es (e ∷ []) b.id b.stamp b.lines known.0, rest)

itself : (id : ℕ) (text : List (List ℕ)) → cond (id == id) (Some text) None ≡ Some text
itself id text = ap (λ (t : Bool). cond t (Some text) None) (eq-eqb id id refl)

-- a document of which all is known
pub record IsKnown (o : Opening) (es : List Entry) (d : Document) : Type 0 where
  pub blocks : AreTextsKnown o es d.blocks
  pub header : names_given o es d.header.stamp ≡ Some d.header.names

-- one more entry
known_after : (o : Opening) (es : List Entry) (d : Document) (i session : ℕ) (e : Edit) → i ≡ length es + 1 → IsKnown o es d → IsKnown o (es ++ record { session = session; edit = e } ∷ []) (after d i e)
known_after o es d i session (edit.Put block seen text) at known = let e : Entry = record { session = session; edit = edit.Put block seen text } in record {
  blocks = put_known o es e i at block text d.blocks (itself block text) known.blocks;
  header = names_longer o es (e ∷ []) d.header.stamp d.header.names known.header;
}
known_after o es d i session (edit.Add anchor block text) at known = let e : Entry = record { session = session; edit = edit.Add anchor block text } in record {
  blocks = new_known o es e i at anchor (record { id = block; stamp = i; lines = text }) d.blocks (text_newest o es e block i text at (itself block text)) known.blocks;
  header = names_longer o es (e ∷ []) d.header.stamp d.header.names known.header;
}
known_after o es d i session (edit.Cut block seen) at known = let e : Entry = record { session = session; edit = edit.Cut block seen } in record {
  blocks = cut_known o es e i at block d.blocks known.blocks;
  header = names_longer o es (e ∷ []) d.header.stamp d.header.names known.header;
}
known_after o es d i session (edit.Head seen names) at known = let e : Entry = record { session = session; edit = edit.Head seen names } in record {
  blocks = known_longer o es (e ∷ []) d.blocks known.blocks;
  header = names_newest o es e i names at refl;
}

known_from : (o : Opening) (done es : List Entry) (d : Document) (i : ℕ) → i ≡ length done + 1 → IsKnown o done d → IsKnown o (done ++ es) (after_all d i es)
known_from o done [] d i at known = subst (λ (l : List Entry). IsKnown o l d) (sym (append-nil done)) known
known_from o done (e ∷ es) d i at known =
    subst (λ (l : List Entry). IsKnown o l (after_all (after d i e.edit) (i + 1) es)) (append_assoc done (e ∷ []) es)
    (known_from o (done ++ e ∷ []) es (after d i e.edit) (i + 1) (omega (arith, length-append done (e ∷ []))) (known_after o done d i e.session e.edit at known))

-- the texts of the opening, the first of which has this id
opened_known : (o : Opening) (front texts : List (List (List ℕ))) → o.texts ≡ front ++ texts → AreTextsKnown o [] (opened_from (length front) texts)
opened_known o front [] is = tt
opened_known o front (text ∷ texts) is = (
  ap (λ (l : List (List (List ℕ))). slice_get l (length front)) is ∙ got_at front text texts,
  subst (λ (n : ℕ). AreTextsKnown o [] (opened_from n texts)) (length-append front (text ∷ []))
      (opened_known o (front ++ text ∷ []) texts (is ∙ sym (append_assoc front (text ∷ []) texts))),
)
  where
    got_at : {X : Type 0} (xs : List X) (x : X) (ys : List X) → slice_get (xs ++ x ∷ ys) (length xs) ≡ Some x
    got_at [] x ys = refl
    got_at (y ∷ xs) x ys = got_at xs x ys

-- all is known of the document of a journal, whatever its entries
pub all_known : (o : Opening) (es : List Entry) → IsKnown o es (document_of o es)
all_known o es = known_from o [] es (document_opened o) 1 (omega arith) (record { blocks = opened_known o [] o.texts refl; header = refl })
