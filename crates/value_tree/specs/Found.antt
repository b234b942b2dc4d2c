-- The place of an offset among values that each count so many.
use Rattle.std.specs.Prelude.{ℕ, ◌+◌, ◌-◌, nat_lt, cond, List, [], ◌∷◌, Option, Some, None}

-- so many places further on
abbrev pub place_further : ℕ → Option (ℕ × ℕ) → Option (ℕ × ℕ)
place_further n None = None
place_further n (Some p) = Some (n + p.0, p.1)

module _ {V : Type 0} (count : V → ℕ) where
  -- all that they count
  abbrev pub total_count : List V → ℕ
  total_count [] = 0
  total_count (v ∷ vs) = count v + total_count vs

  -- the place of the value that has the offset, and the offset within it
  abbrev pub found_in : List V → ℕ → Option (ℕ × ℕ)
  found_in [] offset = None
  found_in (v ∷ vs) offset = cond (nat_lt offset (count v)) (Some (0, offset)) (place_further 1 (found_in vs (offset - count v)))
