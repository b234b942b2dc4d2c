-- A whole input and a whole report.
use Rattle.std.specs.Prelude.{◌≡◌, ℕ, ◌<◌, ◌≤◌, List, ◌++◌, length, take}
use Rattle.std.specs.declared.option.Option.{Option}
use Rattle.std.specs.Io.KnownBytes.{Appends, Consumes, IsAtEnd}

-- at most so many bytes were read
abbrev pub GaveAtMost : ℕ → Option (List ℕ) → Option (List ℕ) → Type 0
GaveAtMost limit old new = (bytes : List ℕ) × (length bytes ≤ limit) × Consumes old new bytes

-- what was read stands behind what there was
abbrev pub HasMore : Option (List ℕ) → Option (List ℕ) → List ℕ → List ℕ → Type 0
HasMore old new before after = (bytes : List ℕ) × Consumes old new bytes × (after ≡ before ++ bytes)

-- a front of the text was taken
abbrev pub TookFront : Option (List ℕ) → Option (List ℕ) → List ℕ → Type 0
TookFront old new text = (n : ℕ) × (n ≤ length text) × Appends old new (take n text)

-- a read of n bytes into a piece of that room: they went to the end, and are none only where none is left
pub record GavePiece (old new : Option (List ℕ)) (before after : List ℕ) (room n : ℕ) : Type 0 where
  pub given : List ℕ
  pub count : length given ≡ n
  pub within : n ≤ room
  pub consumed : Consumes old new given
  pub appended : after ≡ before ++ given
  pub end : n ≡ 0 → 0 < room → IsAtEnd new
