-- The class of a length.
use Rattle.std.proofs.Common.{◌≡◌, ℕ, ◌+◌, ◌*◌, ◌-◌, ◌<◌, ◌≤◌, ◌^◌, arith, inl, inr, add-one}
use Rattle.std.proofs.lemmas.Bool.{cases_lt}
use Rattle.std.proofs.Math.Pow.{pow_mono}
use Rattle.std.proofs.Math.Nat.{pow-succ'}
use Rattle.span_pool.specs.Class.{IsClassOf}

-- a power above another has the greater exponent
exponent : (a b : ℕ) → 2 ^ a < 2 ^ b → a < b
exponent a b h = elim (cases_lt a b) [
  | inl w ↦ w
  | inr w ↦ let up : 2 ^ b ≤ 2 ^ a = pow_mono w in absurd (omega arith)
]

doubled : (n : ℕ) → 2 ^ (n + 1) ≡ 2 * 2 ^ n
doubled n = rw add-one (pow-succ' 2 n)

-- the class of a length that lies just above a power of two and not above the next
pub class_above : (len power : ℕ) → 2 ^ power ≤ len - 1 → len - 1 < 2 * 2 ^ power → 1 < len → IsClassOf len (power + 1)
class_above len power low high more = record {
  fits = omega (arith, doubled power);
  least = λ other h. let above : power < other = exponent power other (omega arith) in omega arith;
}

-- a length has one class
pub class_is : (len a b : ℕ) → IsClassOf len a → IsClassOf len b → a ≡ b
class_is len a b p q = omega (arith, p.least b q.fits, q.least a p.fits)
