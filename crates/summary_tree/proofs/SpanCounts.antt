-- Spans counted by class, when one is taken and another given back.
use Rattle.std.proofs.Common.{◌≡◌, ℕ, ◌+◌, ◌≤◌, arith, ap, inl, inr}
use Rattle.std.specs.Prelude.{◌==◌, cond}
use Rattle.std.proofs.lemmas.Bool.Decides.{eqb_tells}
use Rattle.span_pool.specs.Pool.{OneFewer, OneMore}

pub one_more_counted : (f g : ℕ → ℕ) (given class : ℕ) → OneMore f g given → g class ≡ f class + cond (class == given) 1 0
one_more_counted f g given class m = elim (eqb_tells class given) [
  | inl w ↦ omega (arith, m.here, ap {B = ℕ} (λ t. cond t 1 0) w.0, ap f w.1, ap g w.1)
  | inr w ↦ omega (arith, m.others class w.1, ap {B = ℕ} (λ t. cond t 1 0) w.0)
]

pub one_fewer_counted : (f g : ℕ → ℕ) (taken class : ℕ) → OneFewer f g taken → g class + cond (class == taken) 1 0 ≡ f class
one_fewer_counted f g taken class m = elim (eqb_tells class taken) [
  | inl w ↦ omega (arith, m.here, ap {B = ℕ} (λ t. cond t 1 0) w.0, ap f w.1, ap g w.1)
  | inr w ↦ omega (arith, m.others class w.1, ap {B = ℕ} (λ t. cond t 1 0) w.0)
]

-- no class has fewer where one has one more
pub no_fewer : (f g : ℕ → ℕ) (given class : ℕ) → OneMore f g given → f class ≤ g class
no_fewer f g given class m = omega (arith, one_more_counted f g given class m)
