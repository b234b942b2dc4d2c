-- The order by which needles are sorted is that of the bed and then the number, and needles that tie in it are one.
use Rattle.std.proofs.Common.{◌≡◌, ◌+◌, ◌∙◌, true, List, [], ◌∷◌, ℤ, get_or, refl, sym, ap}
use Rattle.std.specs.Bool.{Decides}
use Rattle.std.specs.Cmp.{IsEquivalence}
use Rattle.std.specs.List.{dedup}
use Rattle.std.specs.List.Sorted.{IsSorted, IsStrictlySortedBy}
use Rattle.std.specs.Ordering.{eq_by_cmp, int_cmp, int_eq, is_eq, is_lt}
use Rattle.std.proofs.lemmas.Bool.Decides.{Decides-int_eq, same_from_decides}
use Rattle.std.proofs.lemmas.Cmp.{eq_by_cmp_equiv}
use Rattle.std.proofs.lemmas.List.Kept.{IsStrictlySortedBy-dedup}
use Rattle.knit_base.specs.Needle.{needle_cmp, needle_cmp_total, same_needle-true}
use Rattle.knit_base.specs.declared.needle.Bed.{Bed}
use Rattle.knit_base.specs.declared.needle.Bed.TheVariants.{Front, FrontSlider, Back, BackSlider}
use Rattle.knit_base.specs.declared.needle.Needle.{Needle}
use Rattle.knit_base.specs.contracts.needle.NeedleOrd.TheImpl as ord
use Rattle.knit_base.specs.contracts.needle.NeedlePartialEq.TheImpl as partial_eq
use Rattle.knit_base.proofs.Needles.{Decides-same_needle}
use Rattle.tally_tree.specs.Needles.{AreNeedlesRising}

same_parts : (x y : Bed) (i j : ℤ) → ord.ghosts.cmp (record { bed = x; at = i }) (record { bed = y; at = j }) ≡ needle_cmp (record { bed = x; at = i }) (record { bed = y; at = j })
same_parts Front Front i j = refl
same_parts Front FrontSlider i j = refl
same_parts Front Back i j = refl
same_parts Front BackSlider i j = refl
same_parts FrontSlider Front i j = refl
same_parts FrontSlider FrontSlider i j = refl
same_parts FrontSlider Back i j = refl
same_parts FrontSlider BackSlider i j = refl
same_parts Back Front i j = refl
same_parts Back FrontSlider i j = refl
same_parts Back Back i j = refl
same_parts Back BackSlider i j = refl
same_parts BackSlider Front i j = refl
same_parts BackSlider FrontSlider i j = refl
same_parts BackSlider Back i j = refl
same_parts BackSlider BackSlider i j = refl

same_order : (a b : Needle) → ord.ghosts.cmp a b ≡ needle_cmp a b
same_order a b = same_parts a.bed b.bed a.at b.at

int_ties : (i j : ℤ) → int_eq i j ≡ is_eq (int_cmp i j)
int_ties i j =
    let d : Decides (is_eq (int_cmp i j)) (◌≡◌ {A = Needle} (record { bed = Front; at = i }) (record { bed = Front; at = j })) = Decides-same_needle (record { bed = Front; at = i }) (record { bed = Front; at = j }) in
    same_from_decides (int_eq i j) (is_eq (int_cmp i j)) (Decides-int_eq i j) (λ e. ap (λ (n : Needle). n.at) (d.0 e), λ e. d.1 (λ k. record { bed = Front; at = e k }))

tied_parts : (x y : Bed) (i j : ℤ) → partial_eq.ghosts.eq (record { bed = x; at = i }) (record { bed = y; at = j }) ≡ eq_by_cmp needle_cmp (record { bed = x; at = i }) (record { bed = y; at = j })
tied_parts Front Front i j = int_ties i j
tied_parts Front FrontSlider i j = refl
tied_parts Front Back i j = refl
tied_parts Front BackSlider i j = refl
tied_parts FrontSlider Front i j = refl
tied_parts FrontSlider FrontSlider i j = int_ties i j
tied_parts FrontSlider Back i j = refl
tied_parts FrontSlider BackSlider i j = refl
tied_parts Back Front i j = refl
tied_parts Back FrontSlider i j = refl
tied_parts Back Back i j = int_ties i j
tied_parts Back BackSlider i j = refl
tied_parts BackSlider Front i j = refl
tied_parts BackSlider FrontSlider i j = refl
tied_parts BackSlider Back i j = refl
tied_parts BackSlider BackSlider i j = int_ties i j

-- needles pass the test where they tie in the order
ties : (a b : Needle) → partial_eq.ghosts.eq a b ≡ eq_by_cmp needle_cmp a b
ties a b = tied_parts a.bed b.bed a.at b.at

rising : (ns : List Needle) → IsStrictlySortedBy needle_cmp ns → AreNeedlesRising ns
unfolding IsStrictlySortedBy
rising [] s = tt
rising (n ∷ []) s = (tt, tt)
rising (n ∷ m ∷ ms) s = (s.0.0, rising (m ∷ ms) s.1)

-- sorted needles rise where each is kept once
pub rising_kept : (ns : List Needle) → IsSorted ord.ghosts.cmp ns → AreNeedlesRising (dedup partial_eq.ghosts.eq ns)
rising_kept ns sorted =
    rising _ (IsStrictlySortedBy-dedup needle_cmp_total ties ns (λ k d low high. ap is_lt (sym (same_order (get_or ns (k + 1) d) (get_or ns k d))) ∙ sorted k d low high))

-- the test of needles is an equivalence
pub test_equivalence : IsEquivalence partial_eq.ghosts.eq
test_equivalence =
    let e : IsEquivalence (eq_by_cmp needle_cmp) = eq_by_cmp_equiv needle_cmp_total in
    record {
      refl = λ a. ties a a ∙ e.refl a;
      symm = λ a b. ties a b ∙ e.symm a b ∙ sym (ties b a);
      congr = λ a b d same. ties a d ∙ e.congr a b d (sym (ties a b) ∙ same) ∙ sym (ties b d);
    }

-- needles that pass it are one
pub test_same : (a b : Needle) → partial_eq.ghosts.eq a b ≡ true → a ≡ b
test_same a b e = same_needle-true a b (sym (ties a b) ∙ e)
