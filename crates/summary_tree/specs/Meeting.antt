-- When there are spans for what is to come, one after the other.
use Rattle.std.specs.Prelude.{ℕ, ◌-◌, ◌≤◌, ◌^◌, ◌==◌, ◌||◌, Bool, nat_lt, count_by, List}
use Rattle.std.specs.List.{All}

-- a list of this length needs a span of at least this class
abbrev pub reaches : ℕ → ℕ → Bool
reaches class len = (class == 0) || nat_lt (2 ^ (class - 1)) len

-- no length is too long for a span, and each class has a spare span for each length that may need one of it or of a higher one
pub record IsMet {X : Type 0} (spare : ℕ → ℕ) (len : X → ℕ) (rooms : List X) : Type 0 where
  pub low : All (λ r. len r ≤ 2 ^ 62) rooms
  pub enough : (class : ℕ) → class ≤ 62 → count_by (λ r. reaches class (len r)) rooms ≤ spare class
