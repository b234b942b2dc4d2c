-- The set of some carriers, and their list.
use Rattle.std.proofs.Common.{◌≡◌, ◌<◌, ℕ, ◌^◌, max, Bool, true, false, ◌||◌, List, [], ◌∷◌, refl, sym, ap, ◌∙◌, zero, suc, arith}
use Rattle.std.specs.Prelude.{nat_eq, ◌==◌}
use Rattle.std.specs.Int.{bit_at}
use Rattle.std.specs.List.{list_any}
use Rattle.std.proofs.lemmas.Bool.{eqb-true, eqb-false}
use Rattle.std.proofs.lemmas.Nat.Bits.{bit_at_or, bit_at-lt, bit_at-pow_same, bit_at-pow_other, bit_at-zero}
use Rattle.knit_base.specs.declared.yarns.CarrierNo.{CarrierNo}
use Rattle.knit_base.specs.Yarns.{mask_of, contains_carrier}

either_bit : (a b : ℕ) → a < 2 → b < 2 → nat_eq (max a b) 1 ≡ (nat_eq b 1 || nat_eq a 1)
either_bit zero zero s t = refl
either_bit zero (suc zero) s t = refl
either_bit (suc zero) zero s t = refl
either_bit (suc zero) (suc zero) s t = refl
either_bit (suc (suc a)) b s t = absurd (omega arith)
either_bit zero (suc (suc b)) s t = absurd (omega arith)
either_bit (suc zero) (suc (suc b)) s t = absurd (omega arith)

alone_cases : (c k : ℕ) (b : Bool) → nat_eq c k ≡ b → nat_eq (bit_at (2 ^ c) k) 1 ≡ b
alone_cases c k true same = ap (λ i. nat_eq (bit_at (2 ^ c) i) 1) (sym (eqb-true c k same)) ∙ ap (λ n. nat_eq n 1) (bit_at-pow_same c)
alone_cases c k false other = ap (λ n. nat_eq n 1) (bit_at-pow_other c k (λ same. eqb-false c k other (sym same)))

-- the set of the carriers has those that the list has
pub in_mask : (cs : List CarrierNo) (k : ℕ) → contains_carrier (mask_of cs) (record { 0 = k }) ≡ list_any (λ (carrier : CarrierNo). carrier.0 == k) cs
in_mask [] k = ap (λ n. nat_eq n 1) (bit_at-zero k)
in_mask (c ∷ cs) k =
    ap (λ b. nat_eq b 1) (bit_at_or (mask_of cs) (2 ^ c.0) k)
    ∙ either_bit (bit_at (mask_of cs) k) (bit_at (2 ^ c.0) k) (bit_at-lt (mask_of cs) k) (bit_at-lt (2 ^ c.0) k)
    ∙ ap (λ b. b || nat_eq (bit_at (mask_of cs) k) 1) (alone_cases c.0 k (nat_eq c.0 k) refl)
    ∙ ap (λ b. (c.0 == k) || b) (in_mask cs k)
