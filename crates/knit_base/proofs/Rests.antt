-- The texts of the items of a list, written one by one from some place on.
use Rattle.std.proofs.Common.{◌≡◌, ◌∙◌, ℕ, zero, suc, ◌+◌, ◌<◌, ◌≤◌, None, Some, List, [], ◌∷◌, ◌++◌, length, drop, flat_map, slice_get, ap, sym, arith, append_assoc, append-nil}
use Rattle.std.proofs.lemmas.List.{drop_more, drop_all}
use Rattle.std.proofs.lemmas.Option.{slice_get_within, get_or_from_slice_get, none-some}

-- the list from a place on begins with the item there
pub rest-at : {A : Type 0} (xs : List A) (i : ℕ) (x : A) → slice_get xs i ≡ Some x → drop i xs ≡ x ∷ drop (i + 1) xs
rest-at xs i x is = drop_more xs i x (slice_get_within xs i x is) ∙ ap (λ y. y ∷ drop (i + 1) xs) (get_or_from_slice_get xs i x x is)

-- nothing stands behind the end of a list
rest-past : {A : Type 0} (xs : List A) (i : ℕ) → slice_get xs i ≡ None → drop (i + 1) xs ≡ drop i xs
rest-past [] i none = drop_all (i + 1) [] (omega arith) ∙ sym (drop_all i [] (omega arith))
rest-past (x ∷ xs) zero none = absurd (none-some x (sym none))
rest-past (x ∷ xs) (suc i) none =
    let next : suc i + 1 ≡ suc (i + 1) = omega arith in
    ap (λ n. drop n (x ∷ xs)) next ∙ rest-past xs i none

-- an item's text was written
pub written-one : {A : Type 0} (text : A → List ℕ) (xs : List A) (i : ℕ) (x : A) (start end : List ℕ) → slice_get xs i ≡ Some x → end ≡ start ++ text x
    → end ++ flat_map text (drop (i + 1) xs) ≡ start ++ flat_map text (drop i xs)
written-one text xs i x start end is written =
    ap (λ t. t ++ flat_map text (drop (i + 1) xs)) written
    ∙ append_assoc start (text x) (flat_map text (drop (i + 1) xs))
    ∙ ap (λ rest. start ++ flat_map text rest) (sym (rest-at xs i x is))

-- nothing was written
pub written-none : {A : Type 0} (text : A → List ℕ) (xs : List A) (i : ℕ) (start : List ℕ) → slice_get xs i ≡ None
    → start ++ flat_map text (drop (i + 1) xs) ≡ start ++ flat_map text (drop i xs)
written-none text xs i start none = ap (λ rest. start ++ flat_map text rest) (rest-past xs i none)

-- all was written
pub written-all : {A : Type 0} (text : A → List ℕ) (xs : List A) (i : ℕ) (whole end : List ℕ) → length xs ≤ i → end ++ flat_map text (drop i xs) ≡ whole → end ≡ whole
written-all text xs i whole end past is = sym (append-nil end) ∙ ap (λ rest. end ++ flat_map text rest) (sym (drop_all i xs past)) ∙ is

-- an item's text was written behind its number
pub numbered-one : {A : Type 0} (rest : ℕ → List A → List ℕ) (text : ℕ → A → List ℕ) → ((n : ℕ) (x : A) (xs : List A) → rest n (x ∷ xs) ≡ text n x ++ rest (n + 1) xs)
    → (xs : List A) (i n : ℕ) (x : A) (start end : List ℕ) → slice_get xs i ≡ Some x → end ≡ start ++ text n x
    → end ++ rest (n + 1) (drop (i + 1) xs) ≡ start ++ rest n (drop i xs)
numbered-one rest text step xs i n x start end is written =
    ap (λ t. t ++ rest (n + 1) (drop (i + 1) xs)) written
    ∙ append_assoc start (text n x) (rest (n + 1) (drop (i + 1) xs))
    ∙ ap (λ t. start ++ t) (sym (step n x (drop (i + 1) xs)))
    ∙ ap (λ ys. start ++ rest n ys) (sym (rest-at xs i x is))

-- all numbered texts were written
pub numbered-all : {A : Type 0} (rest : ℕ → List A → List ℕ) → ((n : ℕ) → rest n [] ≡ []) → (xs : List A) (i n : ℕ) (whole end : List ℕ) → length xs ≤ i
    → end ++ rest n (drop i xs) ≡ whole → end ≡ whole
numbered-all rest none xs i n whole end past is = sym (append-nil end) ∙ ap (λ t. end ++ t) (sym (none n) ∙ ap (rest n) (sym (drop_all i xs past))) ∙ is

-- there is an item at each place of a list
pub item-there : {A : Type 0} (xs : List A) (i : ℕ) → i < length xs → slice_get xs i ≡ None → ⊥
item-there [] i below none = omega (arith, below)
item-there (x ∷ xs) zero below none = none-some x (sym none)
item-there (x ∷ xs) (suc i) below none = item-there xs i (omega (arith, below)) none
