-- What lists in spans of a pool take of it.
use Rattle.std.specs.Prelude.{◌≡◌, ◌≢◌, ℕ, ◌+◌, ◌≤◌, ◌==◌, cond}
use Rattle.span_pool.specs.Class.{IsClassOf}

-- there is one more of the class `given`, and one fewer of the class `taken`
abbrev pub Exchanged : (ℕ → ℕ) → (ℕ → ℕ) → ℕ → ℕ → Type 0
Exchanged old new given taken = (class : ℕ) → new class + cond (class == taken) 1 0 ≡ old class + cond (class == given) 1 0

-- a list of this length took at most one span, of its class
pub record TookSpan (old new : ℕ → ℕ) (len : ℕ) : Type 0 where
  pub of_class : (class : ℕ) → IsClassOf len class → old class ≤ new class + 1
  pub of_others : (class other : ℕ) → IsClassOf len class → other ≢ class → old other ≤ new other
