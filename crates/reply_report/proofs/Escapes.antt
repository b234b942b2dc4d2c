-- What stands in a JSON string for a byte, by its kind.
use Rattle.std.proofs.Common.{◌≡◌, ◌∙◌, ℕ, ◌<◌, ◌≤◌, ◌/◌, ◌%◌, nat_lt, cond, List, [], ◌∷◌, refl, ap, sym, subst, arith}
use Rattle.std.specs.Char.{digit_char}
use Rattle.std.proofs.lemmas.Bool.{ltb-true, ltb-false}
use Rattle.json.specs.Print.{escape_byte, escape_letter}
use Rattle.knit_base.proofs.Places.{by_test}

when-below : (a b : ℕ) (x y : List ℕ) → a < b → cond (nat_lt a b) x y ≡ x
when-below a b x y below = by_test (nat_lt a b) (λ yes. rw yes refl) (λ other. let above : b ≤ a = ltb-false a b other in let none : ⊥ = omega (arith, above, below) in absurd none)

when-above : (a b : ℕ) (x y : List ℕ) → b ≤ a → cond (nat_lt a b) x y ≡ y
when-above a b x y above = by_test (nat_lt a b) (λ yes. let below : a < b = ltb-true a b yes in let none : ⊥ = omega (arith, above, below) in absurd none) (λ other. rw other refl)

abbrev control : ℕ → List ℕ
control byte = 92 ∷ 117 ∷ 48 ∷ 48 ∷ digit_char (byte / 16) ∷ digit_char (byte % 16) ∷ []

-- a byte that has a letter
pub escaped-short : (byte letter : ℕ) → letter ≡ escape_letter byte → 0 < letter → escape_byte byte ≡ 92 ∷ letter ∷ []
unfolding escape_byte
escaped-short byte letter is some =
    when-below 0 (escape_letter byte) (92 ∷ escape_letter byte ∷ []) (cond (nat_lt byte 32) (control byte) (byte ∷ [])) (subst (λ (n : ℕ). 0 < n) is some)
    ∙ ap (λ (n : ℕ). 92 ∷ n ∷ []) (sym is)

no-letter : (byte letter : ℕ) → letter ≡ escape_letter byte → letter ≤ 0 → escape_byte byte ≡ cond (nat_lt byte 32) (control byte) (byte ∷ [])
unfolding escape_byte
no-letter byte letter is none =
    when-above 0 (escape_letter byte) (92 ∷ escape_letter byte ∷ []) (cond (nat_lt byte 32) (control byte) (byte ∷ [])) (subst (λ (n : ℕ). n ≤ 0) is none)

-- a control character that has none
pub escaped-control : (byte letter : ℕ) → letter ≡ escape_letter byte → letter ≤ 0 → byte < 32 → escape_byte byte ≡ 92 ∷ 117 ∷ 48 ∷ 48 ∷ digit_char (byte / 16) ∷ digit_char (byte % 16) ∷ []
escaped-control byte letter is none below = no-letter byte letter is none ∙ when-below byte 32 (control byte) (byte ∷ []) below

-- another byte
pub escaped-plain : (byte letter : ℕ) → letter ≡ escape_letter byte → letter ≤ 0 → 32 ≤ byte → escape_byte byte ≡ byte ∷ []
escaped-plain byte letter is none above = no-letter byte letter is none ∙ when-above byte 32 (control byte) (byte ∷ []) above
