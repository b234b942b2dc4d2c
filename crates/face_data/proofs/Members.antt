-- Elements of lists, and the sum over a list without repetition that another list holds.
use Rattle.std.proofs.Common.{◌≡◌, ℕ, ◌+◌, ◌≤◌, ◌<◌, Bool, true, false, List, [], ◌∷◌, refl, sym, ap, ◌∙◌, subst, arith, inl, inr, ◌⊎◌, length, map, get_or}
use Rattle.std.specs.Prelude.{if◌then◌else◌}
use Rattle.std.specs.List.{Contains, sum_by}
use Rattle.std.proofs.lemmas.List.{get_or-map, length-map}
use Rattle.std.proofs.lemmas.List.Elements.{Contains-get_or, Contains-push_cases, Contains-append_cases, Contains-append_left, Contains-append_right, Contains-push}
use Rattle.std.proofs.lemmas.List.Sums.{sum_by-cons}
use Rattle.std.proofs.lemmas.Bool.{true≢false}
use Rattle.knit_base.specs.Needle.{same_needle, same_needle-true}
use Rattle.knit_base.specs.declared.needle.Needle.{Needle}
use Rattle.face_data.specs.Sets.{IsDistinct, AreNeedlesWithin}
use Rattle.knit_base.proofs.Needles.{same_needle-same}

-- nothing is in the empty list
pub Contains-none : {X : Type 0} (x : X) → Contains [] x → ⊥
Contains-none x h = let k : h.0 < 0 = h.1 in absurd (omega arith)

-- what is in a list is the first item or in the rest
pub Contains-cons_cases : {X : Type 0} (y : X) (xs : List X) (x : X) → Contains (y ∷ xs) x → (y ≡ x) ⊎ Contains xs x
Contains-cons_cases y xs x h = go (Contains-append_cases (y ∷ []) xs x h)
  where
    alone : Contains [] x ⊎ (y ≡ x) → (y ≡ x) ⊎ Contains xs x
    alone (inl none) = absurd (Contains-none x none)
    alone (inr e) = inl e

    go : Contains (y ∷ []) x ⊎ Contains xs x → (y ≡ x) ⊎ Contains xs x
    go (inl h) = alone (Contains-push_cases [] y x h)
    go (inr h) = inr h

-- the first item
pub Contains-head : {X : Type 0} (y : X) (xs : List X) → Contains (y ∷ xs) y
Contains-head y xs = Contains-append_left (y ∷ []) xs y (Contains-push [] y)

-- an item of the rest
pub Contains-tail : {X : Type 0} (y : X) (xs : List X) (x : X) → Contains xs x → Contains (y ∷ xs) x
Contains-tail y xs x h = Contains-append_right (y ∷ []) xs x h

-- an item of the list, mapped
pub contains_mapped : {X Y : Type 0} (f : X → Y) (xs : List X) (k : ℕ) (d : X) → k < length xs → Contains (map f xs) (f (get_or xs k d))
contains_mapped f xs k d within =
    let size = length-map xs f in
    subst (Contains (map f xs)) (get_or-map f xs k d (f d) within) (Contains-get_or (map f xs) k (f d) (omega (arith, size, within)))

-- the list without the first place of n
abbrev pub without_first_needle : Needle → List Needle → List Needle
without_first_needle n [] = []
without_first_needle n (m ∷ ms) = if same_needle m n then ms else m ∷ without_first_needle n ms

sum_dropped_cases : (f : Needle → ℕ) (n m : Needle) (ms : List Needle) (b : Bool) → same_needle m n ≡ b →
    (Contains ms n → f n + sum_by f (without_first_needle n ms) ≡ sum_by f ms) → Contains (m ∷ ms) n →
    f n + sum_by f (if b then ms else m ∷ without_first_needle n ms) ≡ f m + sum_by f ms
sum_dropped_cases f n m ms true e ih h = ap (λ k. f k + sum_by f ms) (sym (same_needle-true m n e))
sum_dropped_cases f n m ms false e ih h = go (Contains-cons_cases m ms n h)
  where
    go : (m ≡ n) ⊎ Contains ms n → f n + sum_by f (m ∷ without_first_needle n ms) ≡ f m + sum_by f ms
    go (inl same) = absurd (true≢false (sym (same_needle-same m n same) ∙ e))
    go (inr later) = omega (arith, ih later, sum_by-cons f m (without_first_needle n ms))

-- the sum without a needle, and that needle
pub sum_dropped : (f : Needle → ℕ) (n : Needle) (ms : List Needle) → Contains ms n → f n + sum_by f (without_first_needle n ms) ≡ sum_by f ms
sum_dropped f n [] h = absurd (Contains-none n h)
sum_dropped f n (m ∷ ms) h =
    sum_dropped_cases f n m ms (same_needle m n) refl (sum_dropped f n ms) h ∙ sym (sum_by-cons f m ms)

dropped_keeps_cases : (n m q : Needle) (ms : List Needle) (b : Bool) → same_needle m n ≡ b → (n ≡ q → ⊥) →
    (Contains ms q → Contains (without_first_needle n ms) q) → Contains (m ∷ ms) q → Contains (if b then ms else m ∷ without_first_needle n ms) q
dropped_keeps_cases n m q ms true e other ih h = go (Contains-cons_cases m ms q h)
  where
    go : (m ≡ q) ⊎ Contains ms q → Contains ms q
    go (inl same) = absurd (other (sym (same_needle-true m n e) ∙ same))
    go (inr later) = later
dropped_keeps_cases n m q ms false e other ih h = go (Contains-cons_cases m ms q h)
  where
    go : (m ≡ q) ⊎ Contains ms q → Contains (m ∷ without_first_needle n ms) q
    go (inl same) = subst (Contains (m ∷ without_first_needle n ms)) same (Contains-head m (without_first_needle n ms))
    go (inr later) = Contains-tail m (without_first_needle n ms) q (ih later)

-- other needles stay
pub dropped_keeps : (n q : Needle) (ms : List Needle) → (n ≡ q → ⊥) → Contains ms q → Contains (without_first_needle n ms) q
dropped_keeps n q [] other h = absurd (Contains-none q h)
dropped_keeps n q (m ∷ ms) other h = dropped_keeps_cases n m q ms (same_needle m n) refl other (dropped_keeps n q ms other) h

-- a sum over needles that stand once each in a longer list is no greater
pub sum_within : (f : Needle → ℕ) (xs ys : List Needle) → IsDistinct xs → AreNeedlesWithin xs ys → sum_by f xs ≤ sum_by f ys
sum_within f [] ys d w = omega arith
sum_within f (x ∷ xs) ys d w =
    let rest = sum_within f xs (without_first_needle x ys) d.1
    (λ q h. dropped_keeps x q ys (λ e. d.0 (subst (Contains xs) (sym e) h)) (w q (Contains-tail x xs q h))) in
    omega (arith, rest, sum_dropped f x ys (w x (Contains-head x xs)), sum_by-cons f x xs)
