-- A part of a list, and the item behind it.
use Rattle.std.proofs.Common.{◌≡◌, ℕ, zero, suc, ◌+◌, ◌-◌, ◌≤◌, Some, List, [], ◌∷◌, ◌++◌, take, drop, ap, ◌∙◌, refl, arith}
use Rattle.std.specs.List.{slice_get, slice_range}

-- what was taken, with one more
take_more : {X : Type 0} (xs : List X) (n : ℕ) (x : X) → slice_get xs n ≡ Some x → take (suc n) xs ≡ take n xs ++ x ∷ []
take_more [] n x h = absurd (cc)
take_more (y ∷ ys) zero x h = let same : y ≡ x = cc in ap (λ z. z ∷ []) same
take_more (y ∷ ys) (suc n) x h = ap (λ zs. y ∷ zs) (take_more ys n x h)

item_behind : {X : Type 0} (xs : List X) (i n : ℕ) → slice_get (drop i xs) n ≡ slice_get xs (i + n)
item_behind [] zero n = refl
item_behind [] (suc i) n = refl
item_behind (x ∷ xs) zero n = let e : n ≡ zero + n = omega arith in ap (λ k. slice_get (x ∷ xs) k) e
item_behind (x ∷ xs) (suc i) n = let e : suc (i + n) ≡ suc i + n = omega arith in item_behind xs i n ∙ ap (λ k. slice_get (x ∷ xs) k) e

-- a part, with the item behind it
pub range_more : {X : Type 0} (xs : List X) (i j : ℕ) (x : X) → i ≤ j → slice_get xs j ≡ Some x → slice_range xs i (j + 1) ≡ slice_range xs i j ++ x ∷ []
range_more xs i j x h is =
    let one_more : j + 1 - i ≡ suc (j - i) = omega arith in
    let place : i + (j - i) ≡ j = omega arith in
    ap (λ n. take n (drop i xs)) one_more
    ∙ take_more (drop i xs) (j - i) x (item_behind xs i (j - i) ∙ (ap (slice_get xs) place ∙ is))
