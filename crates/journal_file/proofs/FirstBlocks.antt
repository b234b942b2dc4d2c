-- The blocks with which a document begins, one after the other.
use Rattle.std.proofs.Common.{◌≡◌, ℕ, zero, suc, ◌+◌, ◌<◌, ◌≤◌, List, [], ◌∷◌, ◌++◌, length, drop, Some, None, refl, ap, subst, sym, ◌∙◌, arith, length-append, append-nil, append_assoc}
use Rattle.std.specs.List.{slice_get}
use Rattle.edit_journal.specs.declared.edit.BlockAt.{BlockAt}
use Rattle.edit_journal.specs.declared.edit.Edit.{Edit}
use Rattle.edit_journal.specs.declared.edit.Edit.TheVariants.{Put, Add, Cut, Head}
use Rattle.edit_journal.specs.declared.edit.Entry.{Entry}
use Rattle.edit_journal.specs.declared.opening.Opening.{Opening}
use Rattle.edit_journal.specs.Documents.{Document, after, after_all, document_of, document_opened}
use Rattle.journal_file.specs.SavedParts.{numbered_from}

-- these are the first of them, and the others stand behind
abbrev pub AreFirst : List (List (List ℕ)) → List BlockAt → Type 0
AreFirst texts blocks = blocks ++ numbered_from (length blocks) (drop (length blocks) texts) ≡ numbered_from 0 texts

-- where an item stands, the rest begins with it
rest_some : {X : Type 0} (xs : List X) (n : ℕ) (x : X) → slice_get xs n ≡ Some x → drop n xs ≡ x ∷ drop (n + 1) xs
rest_some [] n x is = absurd (cc)
rest_some (y ∷ xs) zero x is = let same : y ≡ x = cc in ap (λ z. z ∷ xs) same
rest_some (y ∷ xs) (suc n) x is = let next : suc n + 1 ≡ suc (n + 1) = omega arith in rest_some xs n x is ∙ ap (λ (k : ℕ). x ∷ drop k (y ∷ xs)) (sym next)

rest_none : {X : Type 0} (xs : List X) (n : ℕ) → slice_get xs n ≡ None → drop n xs ≡ []
rest_none [] zero is = refl
rest_none [] (suc n) is = refl
rest_none (y ∷ xs) zero is = absurd (cc)
rest_none (y ∷ xs) (suc n) is = rest_none xs n is

-- one more
pub first_more : (texts : List (List (List ℕ))) (blocks : List BlockAt) (text : List (List ℕ)) → slice_get texts (length blocks) ≡ Some text
    → AreFirst texts blocks → AreFirst texts (blocks ++ record { block = length blocks; stamp = 0; text = text } ∷ [])
first_more texts blocks text is are =
    let n : ℕ = length blocks in
    let next : BlockAt = record { block = n; stamp = 0; text = text } in
    let longer : length (blocks ++ next ∷ []) ≡ n + 1 = length-append blocks (next ∷ []) in
    subst (λ (k : ℕ). (blocks ++ next ∷ []) ++ numbered_from k (drop k texts) ≡ numbered_from 0 texts) (sym longer)
    (append_assoc blocks (next ∷ []) (numbered_from (n + 1) (drop (n + 1) texts))
    ∙ (ap (λ (rest : List (List (List ℕ))). blocks ++ numbered_from n rest) (sym (rest_some texts n text is)) ∙ are))

-- all of them
pub first_all : (texts : List (List (List ℕ))) (blocks : List BlockAt) → slice_get texts (length blocks) ≡ None → AreFirst texts blocks → blocks ≡ numbered_from 0 texts
first_all texts blocks none are =
    sym (append-nil blocks) ∙ (ap (λ (rest : List (List (List ℕ))). blocks ++ numbered_from (length blocks) rest) (sym (rest_none texts (length blocks) none)) ∙ are)

pub first_none : (texts : List (List (List ℕ))) → AreFirst texts []
first_none texts = refl

-- a place that has an item lies within the list
place_in : {X : Type 0} (xs : List X) (n : ℕ) (x : X) → slice_get xs n ≡ Some x → n < length xs
place_in [] n x is = absurd (cc)
place_in (y ∷ xs) zero x is = omega arith
place_in (y ∷ xs) (suc n) x is = omega (arith, place_in xs n x is)

pub first_place : (texts : List (List (List ℕ))) (n : ℕ) (text : List (List ℕ)) → slice_get texts n ≡ Some text → n < length texts
first_place texts n text is = place_in texts n text is

-- each entry leaves at least as many ids drawn
drawn_grows : (d : Document) (i : ℕ) (es : List Entry) → d.drawn ≤ (after_all d i es).drawn
drawn_grows d i [] = omega arith
drawn_grows d i (e ∷ es) = omega (arith, one e.edit, drawn_grows (after d i e.edit) (i + 1) es)
  where
    one : (edit : Edit) → d.drawn ≤ (after d i edit).drawn
    one (Put block seen text) = omega arith
    one (Add anchor block text) = omega arith
    one (Cut block seen) = omega arith
    one (Head seen names) = omega arith

pub first_drawn : (opening : Opening) (es : List Entry) → length opening.texts ≤ (document_of opening es).drawn
first_drawn opening es = drawn_grows (document_opened opening) 1 es
