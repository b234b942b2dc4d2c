-- The carriers of an effect, counted.
use Rattle.std.proofs.Common.{◌≡◌, ℕ, zero, suc, ◌+◌, ◌/◌, ◌^◌, ◌≤◌, ◌<◌, count_ones, true, false, Option, Some, None, inl, inr, pow-suc, arith}
use Rattle.std.specs.Prelude.{nat_eq}
use Rattle.std.specs.Int.{bit_at}
use Rattle.std.proofs.lemmas.Bool.{eqb-true, eqb-false, cases_Bool}
use Rattle.std.proofs.lemmas.Nat.{ones_le_self}
use Rattle.std.proofs.lemmas.Nat.Bits.{bit_at-suc, bit_at_lowest, bit_at-lt}
use lib.Count.{ones_step}
use Rattle.face_data.specs.declared.face.Ending.{Ending}
use Rattle.face_data.specs.declared.face.Ending.TheVariants.{Through, Broken}
use Rattle.face_data.specs.Goodness.{EndingFits}
use Rattle.face_data.specs.Items.{ending_items, set_items}
use Rattle.face_data.specs.Summaries.{Summary}

-- sets without a common member have together at most as many members as there are places
pub ones_apart : (places x y : ℕ) → x < 2 ^ places → y < 2 ^ places → ((i : ℕ) → bit_at x i + bit_at y i ≤ 1) → count_ones x + count_ones y ≤ places
ones_apart zero x y hx hy apart = omega (arith, ones_le_self x, ones_le_self y)
ones_apart (suc places) x y hx hy apart =
    let rest = ones_apart places (x / 2) (y / 2) (omega (arith, pow-suc 2 places)) (omega (arith, pow-suc 2 places))
    (λ i. omega (arith, apart (suc i), bit_at-suc x i, bit_at-suc y i)) in
    omega (arith, rest, ones_step x, ones_step y, apart 0, bit_at_lowest x, bit_at_lowest y)

apart_at : (x y : ℕ) → x < 2 → y < 2 → (nat_eq x 1 ≡ true → nat_eq y 1 ≡ false) → x + y ≤ 1
apart_at x y hx hy apart = elim (cases_Bool (nat_eq x 1)) [
  | inl is ↦ omega (arith, eqb-true x 1 is, eqb-false y 1 (apart is))
  | inr other ↦ omega (arith, eqb-false x 1 other)
]

-- a change of a value is one item at most
pub set_at_most : {X : Type 0} → (o : Option X) → set_items o ≤ 1
set_at_most None = omega arith
set_at_most (Some x) = omega arith

-- the items of a good summary's ending
pub ending_bound : (carriers : ℕ) (summary : Summary) (ending : Ending) → EndingFits carriers summary ending → ending_items ending ≤ carriers + 2
ending_bound carriers summary (Broken fault) fits = omega arith
ending_bound carriers summary (Through effect) fits =
    let both = ones_apart carriers effect.came effect.went fits.came fits.went (λ i.
    apart_at (bit_at effect.came i) (bit_at effect.went i) (bit_at-lt effect.came i) (bit_at-lt effect.went i) (fits.apart (record { 0 = i }))) in
    omega (arith, both, set_at_most effect.rack, set_at_most effect.hook)
