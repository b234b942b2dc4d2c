-- No two needles have one place, so there are few needles.
use Rattle.std.proofs.Common.{◌≡◌, ℕ, ◌+◌, ◌*◌, ◌^◌, ◌<◌, ◌≤◌, true, false, List, [], ◌∷◌, length, map, eqb, refl, sym, ap, subst, inl, inr, arith}
use Rattle.std.specs.List.{AllByRecursion, Contains, list_any}
use Rattle.std.specs.List as distinct
use Rattle.std.proofs.lemmas.Bool.{eqb-true, false≢true, ne_eqb, or_cases}
use Rattle.std.proofs.lemmas.List.{length-map}
use Rattle.std.proofs.lemmas.Map.Steps.{length-le_from_distinct_below}
use Rattle.std.specs.Prelude.{ℤ, pos, negsuc}
use Rattle.knit_base.specs.declared.needle.Bed.{Bed}
use Rattle.knit_base.specs.declared.needle.Bed.TheVariants.{Front, FrontSlider, Back, BackSlider}
use Rattle.knit_base.specs.declared.needle.Needle.{Needle}
use Rattle.knit_base.specs.Needle.{bed_place}
use Rattle.face_data.specs.Sets.{IsDistinct}
use Rattle.face_data.specs.Spots.{IsNumbered, number_place, spot_of}
use Rattle.face_data.proofs.Members.{Contains-head, Contains-tail}

number_from_place : (i j : ℤ) → number_place i ≡ number_place j → i ≡ j
number_from_place (pos a) (pos b) e = let h : a ≡ b = omega arith in ap pos h
number_from_place (pos a) (negsuc b) e = absurd (omega arith)
number_from_place (negsuc a) (pos b) e = absurd (omega arith)
number_from_place (negsuc a) (negsuc b) e = let h : a ≡ b = omega arith in ap negsuc h

bed_from_place : (x y : Bed) → bed_place x ≡ bed_place y → x ≡ y
bed_from_place Front Front e = refl
bed_from_place Front FrontSlider e = absurd (omega arith)
bed_from_place Front Back e = absurd (omega arith)
bed_from_place Front BackSlider e = absurd (omega arith)
bed_from_place FrontSlider Front e = absurd (omega arith)
bed_from_place FrontSlider FrontSlider e = refl
bed_from_place FrontSlider Back e = absurd (omega arith)
bed_from_place FrontSlider BackSlider e = absurd (omega arith)
bed_from_place Back Front e = absurd (omega arith)
bed_from_place Back FrontSlider e = absurd (omega arith)
bed_from_place Back Back e = refl
bed_from_place Back BackSlider e = absurd (omega arith)
bed_from_place BackSlider Front e = absurd (omega arith)
bed_from_place BackSlider FrontSlider e = absurd (omega arith)
bed_from_place BackSlider Back e = absurd (omega arith)
bed_from_place BackSlider BackSlider e = refl

-- there are four beds
pub bed_place_small : (x : Bed) → bed_place x < 4
bed_place_small Front = omega arith
bed_place_small FrontSlider = omega arith
bed_place_small Back = omega arith
bed_place_small BackSlider = omega arith

parts_from_spot : (x y : Bed) (i j : ℤ) → 4 * number_place i + bed_place x ≡ 4 * number_place j + bed_place y → ◌≡◌ {A = Needle} (record { bed = x; at = i }) (record { bed = y; at = j })
parts_from_spot x y i j e =
    let p = bed_place_small x in
    let q = bed_place_small y in
    let number : i ≡ j = number_from_place i j (omega arith) in
    let bed : x ≡ y = bed_from_place x y (omega arith) in
    λ k. record { bed = bed k; at = number k }

-- two needles have two places
pub spot_of-injective : (n m : Needle) → spot_of n ≡ spot_of m → n ≡ m
unfolding spot_of
spot_of-injective n m e = parts_from_spot n.bed m.bed n.at m.at e

-- its place is small
spot_small : (n : Needle) → IsNumbered n → spot_of n < 2 ^ 18
unfolding spot_of
spot_small n small = let bed = bed_place_small n.bed in omega arith

apart_from : (n : Needle) (ms : List Needle) → (Contains ms n → ⊥) → AllByRecursion (λ y. eqb (spot_of n) y ≡ false) (map spot_of ms)
apart_from n [] none = tt
apart_from n (m ∷ ms) none = (
  ne_eqb (spot_of n) (spot_of m) (λ same. none (subst (Contains (m ∷ ms)) (sym (spot_of-injective n m same)) (Contains-head m ms))),
  apart_from n ms (λ there. none (Contains-tail m ms n there)),
)

apart_spots : (ns : List Needle) → IsDistinct ns → distinct.IsDistinct eqb (map spot_of ns)
unfolding distinct.IsDistinct
apart_spots [] each = tt
apart_spots (n ∷ ns) each = (apart_from n ns each.0, apart_spots ns each.1)

small_spots : (ns : List Needle) → ((n : Needle) → Contains ns n → IsNumbered n) → (q : ℕ) → list_any (eqb q) (map spot_of ns) ≡ true → q < 2 ^ 18
small_spots [] numbered q there = absurd (false≢true there)
small_spots (n ∷ ns) numbered q there = elim (or_cases (eqb q (spot_of n)) (list_any (eqb q) (map spot_of ns)) there) [
  | inl here ↦ omega (arith, eqb-true q (spot_of n) here, spot_small n (numbered n (Contains-head n ns)))
  | inr later ↦ small_spots ns (λ m more. numbered m (Contains-tail n ns m more)) q later
]

-- There are no more needles of 16 bits than four beds have.
pub few_needles : (ns : List Needle) → IsDistinct ns → ((n : Needle) → Contains ns n → IsNumbered n) → length ns ≤ 2 ^ 18
few_needles ns each numbered =
    omega (arith, length-le_from_distinct_below (map spot_of ns) (2 ^ 18) (apart_spots ns each) (small_spots ns numbered), length-map ns spot_of)
