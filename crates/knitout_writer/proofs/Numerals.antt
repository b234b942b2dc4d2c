-- What numbers are written as spells them.
use Rattle.std.proofs.Common.{◌≡◌, inl, inr, ℕ, suc, ◌+◌, ◌-◌, ◌*◌, ◌/◌, ◌%◌, ◌^◌, ◌<◌, ◌≤◌, ℤ, pos, negsuc, ◌≤ℤ◌, true, ◌||◌, nat_eq, ◌-ℤ◌, List, [], ◌∷◌, ◌++◌, length, All, ap, sym, ◌∙◌, refl, arith, length-append}
use Rattle.std.specs.Fmt.{decimal, signed_decimal}
use Rattle.std.proofs.lemmas.Fmt.{decimal_by_steps}
use Rattle.std.proofs.lemmas.Int.{ints}
use Rattle.std.proofs.lemmas.List.Sums.{fold-append}
use Rattle.std.proofs.lemmas.List.Elements.{All-nil, All-cons, All-push}
use Rattle.knit_base.specs.declared.needle.Bed.{Bed}
use Rattle.knit_base.specs.Spelling.{needle_text}
use Rattle.knit_base.proofs.Places.{by_test}
use Rattle.knitout_reader.specs.Tokens.{is_blank, is_semicolon}
use Rattle.knitout_writer.proofs.SpacedTokens.{IsWordByte}
use Rattle.std.proofs.lemmas.Bool.{eqb-true}
use Rattle.knitout_reader.specs.Numbers.{IsDigit, IsSigned, IsNeedle, value_of_digits}

-- the digits spell the number
pub record Spell (n : ℕ) (digits : List ℕ) : Type 0 where
  pub some : 0 < length digits
  pub each : All IsDigit digits
  pub value : value_of_digits digits ≡ n

one_digit : (n : ℕ) → n < 10 → Spell n ((48 + n) ∷ [])
one_digit n small = record { some = omega arith; each = All-cons IsDigit (48 + n) [] (omega arith, omega arith) (All-nil IsDigit); value = omega arith }

more_digits : (n : ℕ) (digits : List ℕ) → 10 ≤ n → Spell (n / 10) digits → Spell n (digits ++ (48 + n % 10) ∷ [])
more_digits n digits large front = record {
  some = omega (arith, front.some, length-append digits ((48 + n % 10) ∷ []));
  each = All-push IsDigit digits (48 + n % 10) front.each (omega arith, omega arith);
  value = fold-append (λ v d. 10 * v + (d - 48)) 0 digits ((48 + n % 10) ∷ []) ∙ omega (arith, front.value);
}

-- a number in decimal spells it
pub decimal_spells : (n : ℕ) → n < 2 ^ 64 → Spell n (decimal n)
decimal_spells n small = decimal_by_steps Spell one_digit more_digits n small

-- a number that a bed may have
pub record IsSmall (z : ℤ) : Type 0 where
  pub low : (pos 0 -ℤ pos 4096) ≤ℤ z
  pub high : z ≤ℤ pos 4096

signed_spells : (z : ℤ) → IsSmall z → IsSigned (signed_decimal z) z
signed_spells (pos n) small =
    let spell : Spell n (decimal n) = decimal_spells n (omega (arith, ints, small.high)) in
    (decimal n, (spell.some, spell.each), inl (refl, ap pos (sym spell.value)))
signed_spells (negsuc n) small =
    let spell : Spell (suc n) (decimal (suc n)) = decimal_spells (suc n) (omega (arith, ints, small.low)) in
    let value : negsuc n ≡ pos 0 -ℤ pos (suc n) = omega (arith, ints) in
    (decimal (suc n), (spell.some, spell.each), inr (inr (refl, value ∙ ap (λ m. pos 0 -ℤ pos m) (sym spell.value))))

-- the spelling of a needle is read as that needle
pub needle_spells : (bed : Bed) (z : ℤ) → IsSmall z → IsNeedle (needle_text (record { bed = bed; at = z })) bed z
needle_spells bed z small = (signed_decimal z, refl, signed_spells z small)

no_blank : (byte : ℕ) → IsDigit byte → is_blank byte ≡ true → ⊥
no_blank byte digit is =
    by_test (nat_eq byte 32)
    (λ space. omega (arith, eqb-true byte 32 space, digit))
    (λ other. omega (arith, eqb-true byte 9 (sym (ap (λ b. b || nat_eq byte 9) other) ∙ is), digit))

-- a digit can stand in a word
pub digit_byte : (byte : ℕ) → IsDigit byte → IsWordByte byte
digit_byte byte digit = (
  by_test (is_blank byte) (λ is. absurd (no_blank byte digit is)) (λ isnt. isnt),
  by_test (is_semicolon byte) (λ is. absurd (omega (arith, eqb-true byte 59 is))) (λ isnt. isnt),
)
