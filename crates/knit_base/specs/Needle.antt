-- The order of needles, the slider beside a hook, and the needles that face each other.
use Rattle.std.specs.Prelude.{◌≡◌, ℕ, ℤ, pos, ◌*ℤ◌, ◌-ℤ◌, Bool, true, false, refl, if◌then◌else◌}
use Rattle.std.specs.FinMap.{int_cmp-IsAntisymmetric}
use Rattle.std.proofs.lemmas.Bool.{false≢true}
use Rattle.std.proofs.lemmas.Cmp.{nat_cmp_total, int_cmp_total, on_total, then_total}
use Rattle.std.specs.declared.cmp.Ordering.{Ordering}
use Rattle.std.specs.declared.cmp.Ordering.TheVariants.{Less, Equal, Greater}
use Rattle.std.specs.Cmp.{IsTotalOrder}
use Rattle.std.specs.Ordering.{nat_cmp, int_cmp, ordering_then, is_eq}
use Rattle.knit_base.specs.declared.needle.Bed.{Bed}
use Rattle.knit_base.specs.declared.needle.Bed.TheVariants.{Front, FrontSlider, Back, BackSlider}
use Rattle.knit_base.specs.declared.needle.Needle.{Needle}

abbrev pub bed_place : Bed → ℕ
bed_place Front = 0
bed_place FrontSlider = 1
bed_place Back = 2
bed_place BackSlider = 3

-- the order of needles: by bed, and then by number
abbrev pub needle_cmp : Needle → Needle → Ordering
needle_cmp a b = ordering_then (nat_cmp (bed_place a.bed) (bed_place b.bed)) (int_cmp a.at b.at)

abbrev pub same_needle : Needle → Needle → Bool
same_needle a b = is_eq (needle_cmp a b)

pub needle_cmp_total : IsTotalOrder needle_cmp
needle_cmp_total = then_total (on_total (λ (n : Needle). bed_place n.bed) nat_cmp_total) (on_total (λ (n : Needle). n.at) int_cmp_total)

equal_from_test : (o : Ordering) → is_eq o ≡ true → o ≡ Equal
equal_from_test Less e = absurd (false≢true e)
equal_from_test Equal e = refl
equal_from_test Greater e = absurd (false≢true e)

-- the slider of a needle's side and number
abbrev pub slider_bed : Bed → Bed
slider_bed Front = FrontSlider
slider_bed FrontSlider = FrontSlider
slider_bed Back = BackSlider
slider_bed BackSlider = BackSlider

abbrev pub own_slider : Needle → Needle
own_slider n = record { bed = slider_bed n.bed; at = n.at }

abbrev pub is_front : Bed → Bool
is_front Front = true
is_front FrontSlider = true
is_front Back = false
is_front BackSlider = false

abbrev pub is_slider : Bed → Bool
is_slider Front = false
is_slider FrontSlider = true
is_slider Back = false
is_slider BackSlider = true

-- The rack, in quarters of a needle, at which two needles of different sides face each other: the front needle's number less the
-- back needle's. From the knitout specification.
abbrev pub rack_facing : Needle → Needle → ℤ
rack_facing n n2 = if is_front n.bed then pos 4 *ℤ (n.at -ℤ n2.at) else pos 4 *ℤ (n2.at -ℤ n.at)

same_number : (i j : ℤ) → is_eq (int_cmp i j) ≡ true → i ≡ j
same_number i j e = int_cmp-IsAntisymmetric i j (equal_from_test (int_cmp i j) e)

same_parts : (x y : Bed) (i j : ℤ) → same_needle (record { bed = x; at = i }) (record { bed = y; at = j }) ≡ true → ◌≡◌ {A = Needle} (record { bed = x; at = i }) (record { bed = y; at = j })
same_parts Front Front i j e = λ k. record { bed = Front; at = same_number i j e k }
same_parts Front FrontSlider i j e = absurd (false≢true e)
same_parts Front Back i j e = absurd (false≢true e)
same_parts Front BackSlider i j e = absurd (false≢true e)
same_parts FrontSlider Front i j e = absurd (false≢true e)
same_parts FrontSlider FrontSlider i j e = λ k. record { bed = FrontSlider; at = same_number i j e k }
same_parts FrontSlider Back i j e = absurd (false≢true e)
same_parts FrontSlider BackSlider i j e = absurd (false≢true e)
same_parts Back Front i j e = absurd (false≢true e)
same_parts Back FrontSlider i j e = absurd (false≢true e)
same_parts Back Back i j e = λ k. record { bed = Back; at = same_number i j e k }
same_parts Back BackSlider i j e = absurd (false≢true e)
same_parts BackSlider Front i j e = absurd (false≢true e)
same_parts BackSlider FrontSlider i j e = absurd (false≢true e)
same_parts BackSlider Back i j e = absurd (false≢true e)
same_parts BackSlider BackSlider i j e = λ k. record { bed = BackSlider; at = same_number i j e k }

-- needles that tie are one needle
pub same_needle-true : (a b : Needle) → same_needle a b ≡ true → a ≡ b
same_needle-true a b e = same_parts a.bed b.bed a.at b.at e
