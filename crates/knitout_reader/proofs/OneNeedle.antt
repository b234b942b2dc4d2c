-- A token spells one number and one needle at most.
use Rattle.std.proofs.Common.{◌≡◌, ◌⊎◌, ⊎_elim, ℕ, ◌≤◌, ℤ, pos, ◌-ℤ◌, List, ◌∷◌, get_or, ap, sym, subst, ◌∙◌, arith}
use Rattle.knit_base.specs.declared.needle.Bed.{Bed}
use Rattle.knitout_reader.specs.Numbers.{IsDigit, AreDigits, IsSigned, IsNeedle, value_of_digits}
use Rattle.knitout_reader.proofs.Signs.{one_bed, s_is_no_number, first_byte, other_bytes}

-- a list of digits begins with a digit
pub digit_first : (digits rest : List ℕ) (byte : ℕ) → AreDigits digits → digits ≡ byte ∷ rest → 48 ≤ byte
digit_first digits rest byte are is = (subst (λ (l : List ℕ). IsDigit (get_or l 0 0)) is (are.1 0 0 are.0)).0

-- a text, its digits and its value: without a sign, and with each of the two
abbrev pub Plain : List ℕ → List ℕ → ℤ → Type 0
Plain text digits z = (text ≡ digits) × (z ≡ pos (value_of_digits digits))

-- a `+` and digits
abbrev pub Plus : List ℕ → List ℕ → ℤ → Type 0
Plus text digits z = (text ≡ 43 ∷ digits) × (z ≡ pos (value_of_digits digits))

-- a `-` and digits
abbrev pub Minus : List ℕ → List ℕ → ℤ → Type 0
Minus text digits z = (text ≡ 45 ∷ digits) × (z ≡ pos 0 -ℤ pos (value_of_digits digits))

one_plain : (text d : List ℕ) (z z' : ℤ) → AreDigits d → Plain text d z → IsSigned text z' → z ≡ z'
one_plain text d z z' are plain other =
    ⊎_elim
    (λ (p : Plain text other.0 z'). plain.1 ∙ ap (λ ds. pos (value_of_digits ds)) (sym plain.0 ∙ p.0) ∙ sym p.1)
    (λ (signs : Plus text other.0 z' ⊎ Minus text other.0 z').
    ⊎_elim
    (λ (p : Plus text other.0 z'). let low : 48 ≤ 43 = digit_first d other.0 43 are (sym plain.0 ∙ p.0) in absurd (omega arith))
    (λ (m : Minus text other.0 z'). let low : 48 ≤ 45 = digit_first d other.0 45 are (sym plain.0 ∙ m.0) in absurd (omega arith))
    signs)
    other.2

-- a text spells one number
pub one_signed : (text : List ℕ) (z z' : ℤ) → IsSigned text z → IsSigned text z' → z ≡ z'
one_signed text z z' one other =
    ⊎_elim
    (λ (p : Plain text one.0 z). one_plain text one.0 z z' one.1 p other)
    (λ (signs : Plus text one.0 z ⊎ Minus text one.0 z).
    ⊎_elim
    (λ (p : Plain text other.0 z'). sym (one_plain text other.0 z' z other.1 p one))
    (λ (others : Plus text other.0 z' ⊎ Minus text other.0 z').
    ⊎_elim
    (λ (p : Plus text one.0 z).
    ⊎_elim
    (λ (q : Plus text other.0 z'). p.1 ∙ ap (λ ds. pos (value_of_digits ds)) (other_bytes _ _ _ _ (sym p.0 ∙ q.0)) ∙ sym q.1)
    (λ (q : Minus text other.0 z'). let same : 43 ≡ 45 = first_byte _ _ _ _ (sym p.0 ∙ q.0) in absurd (omega arith))
    others)
    (λ (p : Minus text one.0 z).
    ⊎_elim
    (λ (q : Plus text other.0 z'). let same : 45 ≡ 43 = first_byte _ _ _ _ (sym p.0 ∙ q.0) in absurd (omega arith))
    (λ (q : Minus text other.0 z'). p.1 ∙ ap (λ ds. pos 0 -ℤ pos (value_of_digits ds)) (other_bytes _ _ _ _ (sym p.0 ∙ q.0)) ∙ sym q.1)
    others)
    signs)
    other.2)
    one.2

-- a token names one bed and one number
pub one_needle : (token : List ℕ) (bed bed' : Bed) (z z' : ℤ) → IsNeedle token bed z → IsNeedle token bed' z' → (bed ≡ bed') × (z ≡ z')
one_needle token bed bed' z z' one other =
    ⊎_elim
    (λ here. (here.0, one_signed one.0 z z' one.2 (subst (λ n. IsSigned n z') (sym here.1) other.2)))
    (λ longer. absurd (s_is_no_number longer.1.0 z (subst (λ n. IsSigned n z) longer.1.1 one.2)))
    (one_bed bed bed' one.0 other.0 z' (sym one.1 ∙ other.1) other.2)
