-- Leaves that are put at the numbers from 0 on.
use Rattle.std.proofs.Common.{◌≡◌, ℕ, zero, suc, ◌+◌, ◌<◌, List, [], ◌∷◌, length, drop, Option, Some, refl, sym, ◌∙◌, ap, subst, arith}
use Rattle.std.specs.List.{slice_get}
use Rattle.tree_shape.specs.Building.{numbers_from}
use Rattle.tree_shape.specs.Changes.{numbers_below}
use Rattle.tree_shape.specs.Values.{AreThere, values_of_numbers, joined_on}
use Rattle.tree_shape.proofs.Halves.{below_from}

-- what is first of the rest stands at that place
pub record IsRest {X : Type 0} (xs : List X) (n : ℕ) (x : X) (rest : List X) : Type 0 where
  pub here : slice_get xs n ≡ Some x
  pub later : drop (n + 1) xs ≡ rest
  pub place : n < length xs

pub rest_of : {X : Type 0} (xs : List X) (n : ℕ) (x : X) (rest : List X) → drop n xs ≡ x ∷ rest → IsRest xs n x rest
rest_of [] zero x rest e = cc (e)
rest_of [] (suc n) x rest e = cc (e)
rest_of (y ∷ ys) zero x rest e =
    let here : y ≡ x = cc (e) in
    let later : ys ≡ rest = cc (e) in
    record { here = ap (λ z. Some z) here; later = later; place = omega arith }
rest_of (y ∷ ys) (suc n) x rest e =
    let r = rest_of ys n x rest e in
    let next : suc n + 1 ≡ suc (n + 1) = omega arith in
    record { here = r.here; later = ap (λ k. drop k (y ∷ ys)) next ∙ r.later; place = omega (arith, r.place) }

module _ {V : Type 0} (leaf_at : ℕ → Option V) where
  -- leaves at numbers that follow one another are there, and are these
  pub record AreLeaves (ns : List ℕ) (xs : List V) : Type 0 where
    pub there : AreThere leaf_at ns
    pub values : values_of_numbers leaf_at ns ≡ xs

  leaves_from : (first : ℕ) (xs : List V) → ((k : ℕ) → k < length xs → leaf_at (first + k) ≡ slice_get xs k) → AreLeaves (numbers_from first (length xs)) xs
  leaves_from first [] each = record { there = tt; values = refl }
  leaves_from first (x ∷ xs) each =
      let same : first ≡ first + 0 = omega arith in
      let here : leaf_at first ≡ Some x = ap leaf_at same ∙ each 0 (omega arith) in
      let rest = leaves_from (suc first) xs (λ k h. let next : suc first + k ≡ first + suc k = omega arith in ap leaf_at next ∙ each (suc k) (omega (arith, h))) in
      record { there = ((x, here), rest.there); values = ap (λ o. joined_on o (values_of_numbers leaf_at (numbers_from (suc first) (length xs)))) here ∙ ap (λ vs. x ∷ vs) rest.values }

  pub leaves_below : (many : ℕ) (xs : List V) → many ≡ length xs → ((k : ℕ) → k < length xs → leaf_at k ≡ slice_get xs k) → AreLeaves (numbers_below many) xs
  leaves_below many xs is each =
      subst (λ ns. AreLeaves ns xs) (below_from (length xs) ∙ ap numbers_below (sym is)) (leaves_from 0 xs (λ k h. let same : 0 + k ≡ k = omega arith in ap leaf_at same ∙ each k h))
