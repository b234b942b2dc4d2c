-- Signed numbers in text.
use Rattle.std.proofs.Common.{◌≡◌, ◌⊎◌, inl, inr, ⊎_elim, ℕ, ◌-◌, ◌<◌, ◌≤◌, min, ℤ, pos, ◌-ℤ◌, List, ◌∷◌, ◌++◌, length, take, drop, get_or, ◌^◌, ap, sym, subst, ◌∙◌, refl, arith, w32, Bool, true, false, Option, None, Some, MatchOption, to_z, of_z, length-drop}
use Rattle.std.proofs.lemmas.List.{take_all, drop_more}
use Rattle.std.proofs.lemmas.Bool.{cases_lt}
use Rattle.std.proofs.lemmas.Int.{ints}
use Rattle.knit_base.specs.declared.needle.Bed.{Bed}
use Rattle.knitout_reader.specs.declared.number.TheConstants.{FAR}
use Rattle.knitout_reader.specs.declared.number.NeedleToken.{NeedleToken}
use Rattle.knit_base.specs.declared.needle.Bed.TheVariants.{Front, FrontSlider, Back, BackSlider}
use Rattle.knit_base.specs.Spelling.{bed_word}
use Rattle.knitout_reader.specs.Numbers.{IsDigit, IsNeedle, AreDigits, IsNear, IsSigned, value_of_digits}

-- what a pattern leaves behind the first byte
after_first : (text : List ℕ) → take (length text - 1) (drop 1 text) ≡ drop 1 text
after_first text = take_all (length text - 1) (drop 1 text) (omega (arith, length-drop 1 text))

begins : (text : List ℕ) (byte : ℕ) → 1 ≤ length text → get_or text 0 0 ≡ byte → text ≡ byte ∷ drop 1 text
begins text byte some is = drop_more text 0 0 some ∙ ap (λ b. b ∷ drop 1 text) is

-- a number that is cut off far up is near
pub near_up : (far n number : ℕ) → far < 2 ^ 31 → n ≡ min number far → IsNear far (to_z w32 n) (pos number)
near_up far n number small is =
    ⊎_elim (λ (lt : far < number). inr (inl (omega (arith, ints), omega (arith, ints)))) (λ (le : number ≤ far). inl (omega (arith, ints))) (cases_lt far number)

-- a number that is cut off far down is near
pub near_down : (far n number : ℕ) → far < 2 ^ 31 → n ≡ min number far → IsNear far (to_z w32 (of_z w32 (pos 0 -ℤ to_z w32 n))) (pos 0 -ℤ pos number)
near_down far n number small is =
    ⊎_elim (λ (lt : far < number). inr (inr (omega (arith, ints), omega (arith, ints)))) (λ (le : number ≤ far). inl (omega (arith, ints))) (cases_lt far number)

-- digits without a sign
pub plain_number : (text : List ℕ) (far n : ℕ) → far < 2 ^ 31 → AreDigits text × (n ≡ min (value_of_digits text) far)
    → (z : ℤ) × IsSigned text z × IsNear far (to_z w32 n) z
plain_number text far n small found = (pos (value_of_digits text), (text, found.0, inl (refl, refl)), near_up far n (value_of_digits text) small found.1)

rest_digits : (text : List ℕ) (far n : ℕ) → AreDigits (take (length text - 1) (drop 1 text)) × (n ≡ min (value_of_digits (take (length text - 1) (drop 1 text))) far)
    → AreDigits (drop 1 text) × (n ≡ min (value_of_digits (drop 1 text)) far)
rest_digits text far n found = subst (λ (ds : List ℕ). AreDigits ds × (n ≡ min (value_of_digits ds) far)) (after_first text) found

-- digits behind a `+`
pub plus_number : (text : List ℕ) (far n : ℕ) → far < 2 ^ 31 → 1 ≤ length text → get_or text 0 0 ≡ 43
    → AreDigits (take (length text - 1) (drop 1 text)) × (n ≡ min (value_of_digits (take (length text - 1) (drop 1 text))) far)
    → (z : ℤ) × IsSigned text z × IsNear far (to_z w32 n) z
plus_number text far n small some plus found =
    let digits : AreDigits (drop 1 text) × (n ≡ min (value_of_digits (drop 1 text)) far) = rest_digits text far n found in
    (pos (value_of_digits (drop 1 text)), (drop 1 text, digits.0, inr (inl (begins text 43 some plus, refl))), near_up far n (value_of_digits (drop 1 text)) small digits.1)

-- digits behind a `-`
pub minus_number : (text : List ℕ) (far n : ℕ) → far < 2 ^ 31 → 1 ≤ length text → get_or text 0 0 ≡ 45
    → AreDigits (take (length text - 1) (drop 1 text)) × (n ≡ min (value_of_digits (take (length text - 1) (drop 1 text))) far)
    → (z : ℤ) × IsSigned text z × IsNear far (to_z w32 (of_z w32 (pos 0 -ℤ to_z w32 n))) z
minus_number text far n small some minus found =
    let digits : AreDigits (drop 1 text) × (n ≡ min (value_of_digits (drop 1 text)) far) = rest_digits text far n found in
    (pos 0 -ℤ pos (value_of_digits (drop 1 text)), (drop 1 text, digits.0, inr (inr (begins text 45 some minus, refl))), near_down far n (value_of_digits (drop 1 text)) small digits.1)

-- equal texts have equal first bytes
pub first_byte : (a b : ℕ) (xs ys : List ℕ) → a ∷ xs ≡ b ∷ ys → a ≡ b
first_byte a b xs ys e = ap (λ l. get_or l 0 0) e

-- and equal bytes behind them
pub other_bytes : (a b : ℕ) (xs ys : List ℕ) → a ∷ xs ≡ b ∷ ys → xs ≡ ys
other_bytes a b xs ys e = ap (drop 1) e

-- what begins with an s is no number
pub s_is_no_number : (text : List ℕ) (z : ℤ) → IsSigned (115 ∷ text) z → ⊥
s_is_no_number text z signed =
    let digits : List ℕ = signed.0 in
    let some : 0 < length (115 ∷ text) = omega arith in
    ⊎_elim
    (λ (plain : (115 ∷ text ≡ digits) × (z ≡ pos (value_of_digits digits))).
    let digit : IsDigit 115 = subst (λ (l : List ℕ). 0 < length l → IsDigit (get_or l 0 0)) (sym plain.0) (signed.1.1 0 0) some in
    absurd (omega (arith, digit.1)))
    (λ (signs : ((115 ∷ text ≡ 43 ∷ digits) × (z ≡ pos (value_of_digits digits))) ⊎ ((115 ∷ text ≡ 45 ∷ digits) × (z ≡ pos 0 -ℤ pos (value_of_digits digits)))).
    ⊎_elim
    (λ (plus : (115 ∷ text ≡ 43 ∷ digits) × (z ≡ pos (value_of_digits digits))). absurd (omega (arith, first_byte 115 43 text digits plus.0)))
    (λ (minus : (115 ∷ text ≡ 45 ∷ digits) × (z ≡ pos 0 -ℤ pos (value_of_digits digits))). absurd (omega (arith, first_byte 115 45 text digits minus.0)))
    signs)
    signed.2

-- the first byte is an f or a b, and so they differ
apart : (a b : ℕ) (xs ys : List ℕ) {P : Type 0} → a ∷ xs ≡ b ∷ ys → (a ≡ b → ⊥) → P
apart a b xs ys e differ = absurd (differ (first_byte a b xs ys e))

-- the bed is no slider
abbrev pub is_hook : Bed → Bool
is_hook Front = true
is_hook FrontSlider = false
is_hook Back = true
is_hook BackSlider = false

-- a token names its needle by the longest of the words that it begins with
pub one_bed : (bed other : Bed) (number rest : List ℕ) (z : ℤ) → bed_word bed ++ number ≡ bed_word other ++ rest → IsSigned rest z
    → ((bed ≡ other) × (number ≡ rest)) ⊎ ((is_hook bed ≡ true) × ((tail : List ℕ) × (number ≡ 115 ∷ tail)))
one_bed Front Front number rest z same signed = inl (refl, other_bytes _ _ _ _ same)
one_bed Front FrontSlider number rest z same signed = inr (refl, (rest, other_bytes _ _ _ _ same))
one_bed Front Back number rest z same signed = apart _ _ _ _ same (λ (e : 102 ≡ 98). omega arith)
one_bed Front BackSlider number rest z same signed = apart _ _ _ _ same (λ (e : 102 ≡ 98). omega arith)
one_bed FrontSlider Front number rest z same signed = absurd (s_is_no_number number z (subst (λ r. IsSigned r z) (sym (other_bytes _ _ _ _ same)) signed))
one_bed FrontSlider FrontSlider number rest z same signed = inl (refl, other_bytes _ _ _ _ (other_bytes _ _ _ _ same))
one_bed FrontSlider Back number rest z same signed = apart _ _ _ _ same (λ (e : 102 ≡ 98). omega arith)
one_bed FrontSlider BackSlider number rest z same signed = apart _ _ _ _ same (λ (e : 102 ≡ 98). omega arith)
one_bed Back Front number rest z same signed = apart _ _ _ _ same (λ (e : 98 ≡ 102). omega arith)
one_bed Back FrontSlider number rest z same signed = apart _ _ _ _ same (λ (e : 98 ≡ 102). omega arith)
one_bed Back Back number rest z same signed = inl (refl, other_bytes _ _ _ _ same)
one_bed Back BackSlider number rest z same signed = inr (refl, (rest, other_bytes _ _ _ _ same))
one_bed BackSlider Front number rest z same signed = apart _ _ _ _ same (λ (e : 98 ≡ 102). omega arith)
one_bed BackSlider FrontSlider number rest z same signed = apart _ _ _ _ same (λ (e : 98 ≡ 102). omega arith)
one_bed BackSlider Back number rest z same signed = absurd (s_is_no_number number z (subst (λ r. IsSigned r z) (sym (other_bytes _ _ _ _ same)) signed))
one_bed BackSlider BackSlider number rest z same signed = inl (refl, other_bytes _ _ _ _ (other_bytes _ _ _ _ same))

-- what is found of a needle is the needle that the token spells
abbrev pub Found : List ℕ → Option NeedleToken → Type 0
Found token result = MatchOption result ((bed : Bed) (z : ℤ) → IsNeedle token bed z → ⊥) (λ n. (z : ℤ) × IsNeedle token n.bed z × IsNear FAR n.at z)

-- the token begins with the word of this bed, and with no longer one
pub needle-on_bed : (token number : List ℕ) (bed : Bed) (result : Option NeedleToken) → token ≡ bed_word bed ++ number
    → (is_hook bed ≡ true → (tail : List ℕ) → number ≡ 115 ∷ tail → ⊥)
    → MatchOption result ((z : ℤ) → IsSigned number z → ⊥) (λ n. (n.bed ≡ bed) × ((z : ℤ) × IsSigned number z × IsNear FAR n.at z))
    → Found token result
needle-on_bed token number bed None begins longest none = λ other z named.
    ⊎_elim
    (λ (here : (bed ≡ other) × (number ≡ named.0)). none z (subst (λ r. IsSigned r z) (sym here.1) named.2))
    (λ (longer : (is_hook bed ≡ true) × ((tail : List ℕ) × (number ≡ 115 ∷ tail))). longest longer.0 longer.1.0 longer.1.1)
    (one_bed bed other number named.0 z (sym begins ∙ named.1) named.2)
needle-on_bed token number bed (Some n) begins longest found =
    (found.1.0, (number, begins ∙ ap (λ b. bed_word b ++ number) (sym found.0), found.1.1), found.1.2)
