-- A number of at most ten digits is read by `parse`.
use Rattle.std.proofs.Common.{◌≡◌, ◌<◌, ◌≤◌, ◌^◌, ℕ, zero, suc, refl, sym, ap, subst, arith, Bool, true, false, ◌==◌, cond, List, [], ◌∷◌, length, w64, FitsSigned, pos}
use Rattle.std.specs.Prelude.{nat_le}
use Rattle.std.specs.List.{list_all}
use Rattle.std.specs.Char.{digit_value, is_ascii_digit}
use Rattle.std.specs.Str.Parse.{AllDigits, IsNumeral, digits_value, signed_digits_value, without_leading_sign}
use Rattle.std.proofs.lemmas.Str.{digit_value_digit}
use Rattle.std.proofs.lemmas.Int.{fits_signed_from_abs}
use Rattle.std.proofs.lemmas.Int.Digits.{digits_value-lt}
use Rattle.std.proofs.lemmas.Bool.{false≢true}
use Rattle.std.specs.Str.Parse.{starts_with_minus}
use Rattle.std.proofs.Math.IntN.{neg_ℤ}
use Rattle.std.proofs.Math.Nat.{pow-le-pow_right}
use Rattle.std.specs.Prelude.{unsigned_abs}
use Rattle.command_words.specs.Grammar.{Text}
use Rattle.command_words.specs.Numbers.{digits_of, is_number}
use Rattle.knit_base.proofs.Places.{by_test}
use Rattle.command_words.proofs.Rows.{both_hold}

all_digits : (ds : List ℕ) → list_all is_ascii_digit ds ≡ true → AllDigits 10 ds
all_digits [] e = tt
all_digits (d ∷ ds) e =
    let parts = both_hold (is_ascii_digit d) (list_all is_ascii_digit ds) e in
    let low : 48 ≤ d = let p = both_hold (nat_le 48 d) (nat_le d 57) parts.0 in grind (arith, p) in
    let high : d ≤ 57 = let p = both_hold (nat_le 48 d) (nat_le d 57) parts.0 in grind (arith, p) in
    let value = digit_value_digit d (low, high) in
    (omega (arith, value), all_digits ds parts.1)

-- the digits of a number
pub digits_are : (text : Text) → is_number text ≡ true → IsNumeral 10 (digits_of text) × (length (digits_of text) ≤ 10)
digits_are text e =
    let outer = both_hold (nat_le 1 (length (digits_of text))) _ e in
    let inner = both_hold (nat_le (length (digits_of text)) 10) _ outer.1 in
    let some : 0 < length (digits_of text) = let p = outer.0 in grind (arith, p) in
    let few : length (digits_of text) ≤ 10 = let p = inner.0 in grind (arith, p) in
    ((some, all_digits (digits_of text) inner.1), few)

-- they are what stands after a sign
pub digits_same : (text : Text) → is_number text ≡ true → without_leading_sign text ≡ digits_of text
digits_same [] e = absurd (false≢true e)
digits_same (x ∷ xs) e = by_test (x == 45)
    (λ minus. rw minus refl)
    (λ other. by_test (x == 43)
    (λ plus.
    let is : x ≡ 43 = grind (arith, plus) in
    let all : AllDigits 10 (digits_of (x ∷ xs)) = (digits_are (x ∷ xs) e).0.1 in
    let digits : AllDigits 10 (x ∷ xs) = rw other at all in
    let small : digit_value 43 < 10 = subst (λ k. digit_value k < 10) is digits.0 in
    absurd (omega (arith, small)))
    (λ none. rw (other, none) refl))

abs_of : (b : Bool) (n : ℕ) → unsigned_abs (cond b (neg_ℤ (pos n)) (pos n)) ≡ n
abs_of true zero = refl
abs_of true (suc n) = refl
abs_of false n = refl

-- ten digits at most are below 10 ^ 10
pub value_small : (ds : List ℕ) → AllDigits 10 ds → length ds ≤ 10 → digits_value 10 ds < 10 ^ 10
value_small ds all few = omega (arith, digits_value-lt 10 ds all, pow-le-pow_right {n = 10} (omega arith) few)

-- what is a number has a numeral behind its sign, and its value fits 64 bits
pub number_parses : (text : Text) → is_number text ≡ true → IsNumeral 10 (without_leading_sign text) × FitsSigned w64 (signed_digits_value 10 text)
number_parses text e =
    let same = digits_same text e in
    let are = digits_are text e in
    let small = value_small (digits_of text) are.0.1 are.1 in
    (subst (IsNumeral 10) (sym same) are.0, fits_signed_from_abs w64 (signed_digits_value 10 text) (omega (arith, abs_of (starts_with_minus text) (digits_value 10 (without_leading_sign text)), ap (digits_value 10) same, small)))
