-- Numbers of one to three digits in their shortest spelling.
use Rattle.std.proofs.Common.{◌≡◌, ◌≢◌, ℕ, ◌+◌, ◌-◌, ◌*◌, ◌%◌, ◌<◌, ◌≤◌, List, [], ◌∷◌, ◌++◌, ap, sym, ◌∙◌, arith}
use Rattle.std.specs.Fmt.{decimal}
use Rattle.std.proofs.lemmas.Fmt.{decimal_digit, decimal_step}
use Rattle.knitout_reader.specs.Numbers.{IsDigit}
use Rattle.knitout_reader.specs.Shortest.{BeginsWithShortestNumber}

one : (a : ℕ) → IsDigit a → decimal (a - 48) ≡ a ∷ []
one a is = decimal_digit (a - 48) (omega (arith, is)) ∙ ap (λ b. b ∷ []) (omega (arith, is))

more : (n b : ℕ) → 1 ≤ n → n < 1000 → IsDigit b → decimal (10 * n + (b - 48)) ≡ decimal n ++ b ∷ []
more n b some small is =
    decimal_step (10 * n + (b - 48)) (omega arith) (omega (arith, is))
    ∙ ap (λ m. decimal m ++ (48 + (10 * n + (b - 48)) % 10) ∷ []) (omega (arith, is))
    ∙ ap (λ c. decimal n ++ c ∷ []) (omega (arith, is))

-- one digit
pub one_shortest : (text rest : List ℕ) (a : ℕ) → IsDigit a → text ≡ a ∷ rest → BeginsWithShortestNumber text rest
one_shortest text rest a is text_is = record { number = a - 48; small = omega (arith, is); text_is = text_is ∙ ap (λ (l : List ℕ). l ++ rest) (sym (one a is)) }

-- two digits, of which the first is no zero
pub two_shortest : (text ones rest : List ℕ) (a b : ℕ) → IsDigit a → a ≢ 48 → IsDigit b → text ≡ a ∷ ones → ones ≡ b ∷ rest → BeginsWithShortestNumber text rest
two_shortest text ones rest a b is other is_b text_is ones_is = record {
  number = 10 * (a - 48) + (b - 48);
  small = omega (arith, is, is_b);
  text_is = text_is ∙ ap (λ (l : List ℕ). a ∷ l) ones_is
      ∙ ap (λ (l : List ℕ). (l ++ b ∷ []) ++ rest) (sym (one a is))
      ∙ ap (λ (l : List ℕ). l ++ rest) (sym (more (a - 48) b (omega (arith, is)) (omega (arith, is)) is_b));
}

-- three digits, of which the first is no zero
pub three_shortest : (text ones tens rest : List ℕ) (a b c : ℕ) → IsDigit a → a ≢ 48 → IsDigit b → IsDigit c → text ≡ a ∷ ones → ones ≡ b ∷ tens → tens ≡ c ∷ rest
    → BeginsWithShortestNumber text rest
three_shortest text ones tens rest a b c is other is_b is_c text_is ones_is tens_is = record {
  number = 10 * (10 * (a - 48) + (b - 48)) + (c - 48);
  small = omega (arith, is, is_b, is_c);
  text_is = text_is ∙ ap (λ (l : List ℕ). a ∷ l) ones_is ∙ ap (λ (l : List ℕ). a ∷ b ∷ l) tens_is
      ∙ ap (λ (l : List ℕ). ((l ++ b ∷ []) ++ c ∷ []) ++ rest) (sym (one a is))
      ∙ ap (λ (l : List ℕ). (l ++ c ∷ []) ++ rest) (sym (more (a - 48) b (omega (arith, is)) (omega (arith, is)) is_b))
      ∙ ap (λ (l : List ℕ). l ++ rest) (sym (more (10 * (a - 48) + (b - 48)) c (omega (arith, is)) (omega (arith, is, is_b)) is_c));
}
