-- When two needles are one, and the sides of sliders.
use Rattle.std.proofs.Common.{◌≡◌, ◌≢◌, true, false, refl, sym, ap, ◌∙◌, subst}
use Rattle.std.proofs.lemmas.Bool.{true≢false}
use Rattle.std.specs.Bool.{Decides}
use Rattle.std.specs.Ordering.{ordering_reverse, is_eq}
use Rattle.std.specs.declared.cmp.Ordering.{Ordering}
use Rattle.std.specs.declared.cmp.Ordering.TheVariants.{Less, Equal, Greater}
use Rattle.knit_base.specs.declared.needle.Bed.{Bed}
use Rattle.knit_base.specs.declared.needle.Bed.TheVariants.{Front, FrontSlider, Back, BackSlider}
use Rattle.knit_base.specs.declared.needle.Needle.{Needle}
use Rattle.knit_base.specs.Needle.{needle_cmp, needle_cmp_total, same_needle, same_needle-true, slider_bed, is_front, is_slider}
use Rattle.knit_base.proofs.Places.{by_test}

own_reverse : (o : Ordering) → o ≡ ordering_reverse o → o ≡ Equal
own_reverse Less e = cc
own_reverse Equal e = refl
own_reverse Greater e = cc

-- a needle ties with itself
pub needle_cmp-refl : (n : Needle) → needle_cmp n n ≡ Equal
needle_cmp-refl n = own_reverse (needle_cmp n n) (needle_cmp_total.antisymm n n)

-- needles that tie are one needle
pub needle_cmp-equal : (n m : Needle) → needle_cmp n m ≡ Equal → n ≡ m
needle_cmp-equal n m e = same_needle-true n m (ap is_eq e)

-- a needle is itself
pub same_needle-refl : (n : Needle) → same_needle n n ≡ true
same_needle-refl n = ap is_eq (needle_cmp-refl n)

-- one needle passes the test
pub same_needle-same : (n m : Needle) → n ≡ m → same_needle n m ≡ true
same_needle-same n m e = subst (λ w. same_needle n w ≡ true) e (same_needle-refl n)

-- two needles fail it
pub same_needle-false : (n m : Needle) → n ≢ m → same_needle n m ≡ false
same_needle-false n m apart = by_test (same_needle n m) (λ e. absurd (apart (same_needle-true n m e))) (λ e. e)

-- the test decides whether two needles are one
pub Decides-same_needle : (n m : Needle) → Decides (same_needle n m) (n ≡ m)
Decides-same_needle n m = (same_needle-true n m, same_needle-same n m)

-- the test of needles either way
pub same_needle-comm : (n m : Needle) → same_needle n m ≡ same_needle m n
same_needle-comm n m =
    by_test (same_needle n m)
    (λ e. subst (λ (w : Needle). same_needle n w ≡ same_needle w n) (same_needle-true n m e) refl)
    (λ e. by_test (same_needle m n)
    (λ f. absurd (true≢false (sym (same_needle-same n m (sym (same_needle-true m n f))) ∙ e)))
    (λ f. e ∙ sym f))

-- a needle's own slider is a slider
pub slider_bed-is_slider : (bed : Bed) → is_slider (slider_bed bed) ≡ true
slider_bed-is_slider Front = refl
slider_bed-is_slider FrontSlider = refl
slider_bed-is_slider Back = refl
slider_bed-is_slider BackSlider = refl

-- and of the needle's side
pub slider_bed-is_front : (bed : Bed) → is_front (slider_bed bed) ≡ is_front bed
slider_bed-is_front Front = refl
slider_bed-is_front FrontSlider = refl
slider_bed-is_front Back = refl
slider_bed-is_front BackSlider = refl
