-- How many needles can rise on the beds of a machine.
use Rattle.std.proofs.Common.{◌≡◌, ◌≤◌, List, [], ◌∷◌, length, subst, arith}
use Rattle.std.specs.Prelude.{ℤ, pos, ◌+ℤ◌, ◌-ℤ◌, ◌≤ℤ◌, ◌<ℤ◌}
use Rattle.std.specs.List.{Contains}
use Rattle.std.proofs.lemmas.Int.{ints}
use Rattle.std.specs.Cmp.{int_ranks}
use Rattle.std.specs.Ordering.{int_cmp, MatchOrdering}
use Rattle.std.specs.declared.cmp.Ordering.TheVariants.{Less}
use Rattle.knit_base.specs.Needle.{needle_cmp}
use Rattle.knit_base.specs.declared.needle.Bed.{Bed}
use Rattle.knit_base.specs.declared.needle.Bed.TheVariants.{Front, FrontSlider, Back, BackSlider}
use Rattle.knit_base.specs.declared.needle.Needle.{Needle}
use Rattle.tally_tree.specs.Leaves.{IsOnSomeBed, needle_limit}
use Rattle.tally_tree.specs.Needles.{AreNeedlesRising}
use Rattle.tally_tree.specs.Merging.{Contains-head, Contains-tail}

-- where a bed begins in a row of all needles
abbrev bed_start : Bed → ℤ
bed_start Front = pos 0
bed_start FrontSlider = pos 8193
bed_start Back = pos 16386
bed_start BackSlider = pos 24579

-- the place in that row of a needle on this bed
abbrev row_place : Bed → ℤ → ℤ
row_place bed at = bed_start bed +ℤ (at +ℤ pos 4096)

-- the place of a needle in the row
unfoldable place_in_row : Needle → ℤ
place_in_row n = row_place n.bed n.at

-- what the order of numbers says
number_below : (i j : ℤ) → int_cmp i j ≡ Less → i <ℤ j
number_below i j e = subst (λ o. MatchOrdering o (i <ℤ j) (i ≡ j) (j <ℤ i)) e (int_ranks i j)

-- the same of the parts of two needles
parts_rise : (x y : Bed) (i j : ℤ) → needle_cmp (record { bed = x; at = i }) (record { bed = y; at = j }) ≡ Less → i ≤ℤ pos 4096 → (pos 0 -ℤ pos 4096) ≤ℤ j → row_place x i <ℤ row_place y j
parts_rise Front Front i j e a b = let below = number_below i j e in omega (arith, ints, below)
parts_rise Front FrontSlider i j e a b = omega (arith, ints, a, b)
parts_rise Front Back i j e a b = omega (arith, ints, a, b)
parts_rise Front BackSlider i j e a b = omega (arith, ints, a, b)
parts_rise FrontSlider Front i j e a b = cc
parts_rise FrontSlider FrontSlider i j e a b = let below = number_below i j e in omega (arith, ints, below)
parts_rise FrontSlider Back i j e a b = omega (arith, ints, a, b)
parts_rise FrontSlider BackSlider i j e a b = omega (arith, ints, a, b)
parts_rise Back Front i j e a b = cc
parts_rise Back FrontSlider i j e a b = cc
parts_rise Back Back i j e a b = let below = number_below i j e in omega (arith, ints, below)
parts_rise Back BackSlider i j e a b = omega (arith, ints, a, b)
parts_rise BackSlider Front i j e a b = cc
parts_rise BackSlider FrontSlider i j e a b = cc
parts_rise BackSlider Back i j e a b = cc
parts_rise BackSlider BackSlider i j e a b = let below = number_below i j e in omega (arith, ints, below)

-- a greater needle has a later place
place_rises : (n m : Needle) → needle_cmp n m ≡ Less → IsOnSomeBed n → IsOnSomeBed m → place_in_row n <ℤ place_in_row m
unfolding place_in_row
place_rises n m e a b = parts_rise n.bed m.bed n.at m.at e a.below b.above

-- the same of the parts of a needle
part_within : (x : Bed) (i : ℤ) → (pos 0 -ℤ pos 4096) ≤ℤ i → i ≤ℤ pos 4096 → (pos 0 ≤ℤ row_place x i) × (row_place x i <ℤ pos 32772)
part_within Front i a b = (omega (arith, ints, a, b), omega (arith, ints, a, b))
part_within FrontSlider i a b = (omega (arith, ints, a, b), omega (arith, ints, a, b))
part_within Back i a b = (omega (arith, ints, a, b), omega (arith, ints, a, b))
part_within BackSlider i a b = (omega (arith, ints, a, b), omega (arith, ints, a, b))

-- each needle has a place in the row
place_within : (n : Needle) → IsOnSomeBed n → (pos 0 ≤ℤ place_in_row n) × (place_in_row n <ℤ pos 32772)
unfolding place_in_row
place_within n a = part_within n.bed n.at a.above a.below

-- so many needles have a place from that of the first
few_from : (n : Needle) (ns : List Needle) → AreNeedlesRising (n ∷ ns) → ((k : Needle) → Contains (n ∷ ns) k → IsOnSomeBed k) → (place_in_row n +ℤ pos (length (n ∷ ns))) ≤ℤ pos 32772
few_from n [] r on = let within = place_within n (on n (Contains-head n [])) in omega (arith, ints, within.1)
few_from n (m ∷ ms) r on =
    let here = on n (Contains-head n (m ∷ ms)) in
    let next = on m (Contains-tail n (m ∷ ms) m (Contains-head m ms)) in
    let rest = few_from m ms r.1 (λ k h. on k (Contains-tail n (m ∷ ms) k h)) in
    let later = place_rises n m r.0 here next in
    omega (arith, ints, rest, later)

-- rising needles on the beds of some machine are no more than there are
pub few_rising : (ns : List Needle) → AreNeedlesRising ns → ((k : Needle) → Contains ns k → IsOnSomeBed k) → length ns ≤ needle_limit
few_rising [] r on = omega arith
few_rising (n ∷ ns) r on =
    let most = few_from n ns r on in
    let within = place_within n (on n (Contains-head n ns)) in
    omega (arith, ints, most, within.0)
