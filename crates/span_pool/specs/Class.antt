-- Classes of room.
use Rattle.std.specs.Prelude.{ℕ, ◌≤◌, ◌^◌}

-- the least class whose room is at least this length
pub record IsClassOf (len class : ℕ) : Type 0 where
  pub fits : len ≤ 2 ^ class
  pub least : (other : ℕ) → len ≤ 2 ^ other → class ≤ other
