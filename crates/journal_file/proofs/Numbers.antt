-- A number at the front of a text.
use Rattle.std.proofs.Common.{◌≡◌, ◌∙◌, ℕ, zero, suc, ◌+◌, ◌-◌, ◌*◌, ◌<◌, ◌≤◌, ◌^◌, ◌⊎◌, inl, inr, List, [], ◌∷◌, ◌++◌, length, get_or, fold, All, ap, sym, subst, refl, arith, decimal}
use Rattle.std.proofs.lemmas.List.Elements.{All-cons, All-head, All-tail}
use Rattle.std.proofs.lemmas.Str.Parse.{FoldsDigits, IsDigitsTest, IsNumeralModel, numerals_by_fold}
use Rattle.std.proofs.lemmas.Fmt.{decimal-digits_value, decimal_digit, decimal_nonempty, digits_decimal, digits_value-decimal, first_decimal}
use Rattle.knitout_reader.specs.Numbers.{IsDigit, value_of_digits}
use Rattle.knitout_reader.proofs.Signs.{first_byte, other_bytes}
use Rattle.journal_file.specs.Words.{EndsNumber, BeginsWithNumber}

abbrev number_behind : ℕ → List ℕ → ℕ
number_behind n digits = fold (λ value digit. 10 * value + (digit - 48)) n digits

tests : IsDigitsTest (All IsDigit)
tests = record {
  empty = λ k d below. absurd (omega arith);
  parts = λ c cs all. (All-head IsDigit c cs all, All-tail IsDigit c cs all);
  more = λ c cs is all. All-cons IsDigit c cs is all;
}

folds : FoldsDigits number_behind
folds = record { empty = λ n. refl; more = λ n c cs is. let same : 10 * n + (c - 48) ≡ n * 10 + (c - 48) = omega arith in ap (λ m. number_behind m cs) same }

pub own_numeral_model : IsNumeralModel (All IsDigit) value_of_digits
own_numeral_model = numerals_by_fold (All IsDigit) tests number_behind folds

-- a text begins with one run of digits
pub one_run : (ds es rest more : List ℕ) → All IsDigit ds → All IsDigit es → EndsNumber rest → EndsNumber more → ds ++ rest ≡ es ++ more → (ds ≡ es) × (rest ≡ more)
one_run [] [] rest more a b e f same = (refl, same)
one_run [] (c ∷ es) [] more a b e f same = absurd (omega (arith, ap length same))
one_run [] (c ∷ es) (d ∷ rest) more a b e f same = absurd (e (subst IsDigit (sym (first_byte _ _ _ _ same)) (All-head IsDigit c es b)))
one_run (d ∷ ds) [] rest [] a b e f same = absurd (omega (arith, ap length same))
one_run (d ∷ ds) [] rest (c ∷ more) a b e f same = absurd (f (subst IsDigit (first_byte _ _ _ _ same) (All-head IsDigit d ds a)))
one_run (d ∷ ds) (c ∷ es) rest more a b e f same =
    let rests : (ds ≡ es) × (rest ≡ more) = one_run ds es rest more (All-tail IsDigit d ds a) (All-tail IsDigit c es b) e f (other_bytes _ _ _ _ same) in
    ((λ i. first_byte _ _ _ _ same i ∷ rests.0 i), rests.1)

-- digits without idle zeros are the spelling of their number
pub front-found : (text ds rest : List ℕ) → text ≡ ds ++ rest → All IsDigit ds → EndsNumber rest → 0 < length ds → (get_or ds 0 0 ≡ 48 → length ds ≡ 1) → value_of_digits ds < 2 ^ 32
    → BeginsWithNumber text (value_of_digits ds) rest
front-found text ds rest is digits ends some lead fits =
    let spelt : decimal (value_of_digits ds) ≡ ds = decimal-digits_value own_numeral_model ds digits some lead (omega (arith, fits)) in
    record { spelt = is ∙ ap (λ d. d ++ rest) (sym spelt); fits = fits; ends = ends }

-- a number that a text begins with is that of its digits, which have no idle zeros
pub front-is : (text ds rest : List ℕ) → text ≡ ds ++ rest → All IsDigit ds → EndsNumber rest → (n : ℕ) (more : List ℕ) → BeginsWithNumber text n more
    → (ds ≡ decimal n) × (value_of_digits ds ≡ n) × (rest ≡ more)
front-is text ds rest is digits ends n more front =
    let small : n < 2 ^ 64 = omega (arith, front.fits) in
    let same : (ds ≡ decimal n) × (rest ≡ more) = one_run ds (decimal n) rest more digits (digits_decimal own_numeral_model n small) ends front.ends (sym is ∙ front.spelt) in
    (same.0, ap value_of_digits same.0 ∙ digits_value-decimal own_numeral_model n small, same.1)

idle_decimal : (n : ℕ) → n < 2 ^ 64 → get_or (decimal n) 0 0 ≡ 48 → 1 < length (decimal n) → ⊥
idle_decimal zero small lead long = absurd (omega (arith, long, ap (λ (t : List ℕ). length t) (decimal_digit 0 (omega arith))))
idle_decimal (suc n) small lead long = omega (arith, lead, first_decimal (suc n) (omega arith) small)

-- where there is no digit, or an idle zero, or the number is too great, the text begins with no number
pub none-found : (text ds rest : List ℕ) → text ≡ ds ++ rest → All IsDigit ds → EndsNumber rest → (length ds ≡ 0) ⊎ ((get_or ds 0 0 ≡ 48) × (1 < length ds)) ⊎ (2 ^ 32 ≤ value_of_digits ds)
    → (n : ℕ) (more : List ℕ) → BeginsWithNumber text n more → ⊥
none-found text ds rest is digits ends (inl none) n more front =
    let found = front-is text ds rest is digits ends n more front in
    omega (arith, none, ap length found.0, decimal_nonempty n (omega (arith, front.fits)))
none-found text ds rest is digits ends (inr (inl idle)) n more front =
    let found = front-is text ds rest is digits ends n more front in
    idle_decimal n (omega (arith, front.fits)) (ap (λ (t : List ℕ). get_or t 0 0) (sym found.0) ∙ idle.0) (omega (arith, idle.1, ap length found.0))
none-found text ds rest is digits ends (inr (inr great)) n more front =
    let found = front-is text ds rest is digits ends n more front in
    omega (arith, great, found.1, front.fits)

-- a text begins with one number
pub front_one : (text : List ℕ) (n m : ℕ) (rest more : List ℕ) → BeginsWithNumber text n rest → BeginsWithNumber text m more → (n ≡ m) × (rest ≡ more)
front_one text n m rest more p q =
    let small : n < 2 ^ 64 = omega (arith, p.fits) in
    let w = front-is text (decimal n) rest p.spelt (digits_decimal own_numeral_model n small) p.ends m more q in
    (sym (digits_value-decimal own_numeral_model n small) ∙ w.1, w.2)
