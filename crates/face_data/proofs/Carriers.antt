-- Members of a set of carriers after a union or a difference.
use Rattle.std.proofs.Common.{◌≡◌, ℕ, ◌+◌, ◌<◌, ◌%◌, zero, suc, min, max, not, ◌&&◌, ◌||◌, refl, ap, ◌∙◌, arith}
use Rattle.std.specs.Prelude.{nat_eq, bit_or, bit_and}
use Rattle.std.specs.Int.{bit_at}
use Rattle.std.proofs.lemmas.Nat.Bits.{bit_at_or, bit_at_and, bit_at_xor, bit_at-lt}
use Rattle.knit_base.specs.declared.yarns.CarrierNo.{CarrierNo}
use Rattle.knit_base.specs.Yarns.{contains_carrier, without_set}

either_bit : (x y : ℕ) → x < 2 → y < 2 → nat_eq (max x y) 1 ≡ (nat_eq x 1 || nat_eq y 1)
either_bit zero zero h k = refl
either_bit zero (suc zero) h k = refl
either_bit (suc zero) zero h k = refl
either_bit (suc zero) (suc zero) h k = refl
either_bit (suc (suc x)) y h k = absurd (omega arith)
either_bit zero (suc (suc y)) h k = absurd (omega arith)
either_bit (suc zero) (suc (suc y)) h k = absurd (omega arith)

first_alone : (x y : ℕ) → x < 2 → y < 2 → nat_eq ((x + min x y) % 2) 1 ≡ (nat_eq x 1 && not (nat_eq y 1))
first_alone zero zero h k = refl
first_alone zero (suc zero) h k = refl
first_alone (suc zero) zero h k = refl
first_alone (suc zero) (suc zero) h k = refl
first_alone (suc (suc x)) y h k = absurd (omega arith)
first_alone zero (suc (suc y)) h k = absurd (omega arith)
first_alone (suc zero) (suc (suc y)) h k = absurd (omega arith)

-- the carriers of either set
pub has-bit_or : (x y : ℕ) (c : CarrierNo) → contains_carrier (bit_or x y) c ≡ (contains_carrier x c || contains_carrier y c)
has-bit_or x y c = ap (λ b. nat_eq b 1) (bit_at_or x y c.0) ∙ either_bit (bit_at x c.0) (bit_at y c.0) (bit_at-lt x c.0) (bit_at-lt y c.0)

-- the carriers of the first set that the second one lacks
pub has-without : (x y : ℕ) (c : CarrierNo) → contains_carrier (without_set x y) c ≡ (contains_carrier x c && not (contains_carrier y c))
has-without x y c =
    ap (λ b. nat_eq b 1) (bit_at_xor x (bit_and x y) c.0 ∙ ap (λ m. (bit_at x c.0 + m) % 2) (bit_at_and x y c.0))
    ∙ first_alone (bit_at x c.0) (bit_at y c.0) (bit_at-lt x c.0) (bit_at-lt y c.0)
