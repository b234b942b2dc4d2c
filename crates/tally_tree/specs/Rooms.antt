-- The memory in which tallies are joined.
use Rattle.std.specs.Prelude.{◌≡◌, ℕ, ◌≤◌, max, List, [], ◌∷◌, length, All, vec_capacity}
use Rattle.tally_tree.specs.declared.tally.Tally.{Tally}

-- the greatest of the rooms
abbrev pub most_of : List ℕ → ℕ
most_of [] = 0
most_of (room ∷ rooms) = max room (most_of rooms)

-- an empty tally with a place for each carrier that there can be, and for so many needles
pub record IsSpare (room : ℕ) (tally : Tally) : Type 0 where
  pub no_numbers : tally.with.items ≡ []
  pub no_needles : tally.needles.items ≡ []
  pub carriers : 64 ≤ vec_capacity tally.with
  pub needles : room ≤ vec_capacity tally.needles

-- what contracts see of the empty tallies: how many there are, and for how many needles each has room
pub record SparesView : Type 0 where
  pub many : ℕ
  pub room : ℕ

-- there is an empty tally for each of these rooms
pub record AreTalliesReserved (spares : SparesView) (rooms : List ℕ) : Type 0 where
  pub enough : length rooms ≤ spares.many
  pub large : All (λ room. room ≤ spares.room) rooms
