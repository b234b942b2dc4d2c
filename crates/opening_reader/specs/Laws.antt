-- Lines that have an opening in front.
use Rattle.std.specs.Prelude.{◌≡◌, ℕ, List, ◌++◌}
use Rattle.opening_reader.specs.Openings.{AreOpeningLines}
use Rattle.opening_reader.specs.declared.opening.OpeningKind.{OpeningKind}

-- two openings with which the same lines begin are one, and so are their kinds and their texts
abbrev pub OneOpening : Type 0
OneOpening = (lines more text others rest other : List (List ℕ)) (a b : OpeningKind) → AreOpeningLines lines a text → AreOpeningLines others b other
    → lines ++ more ≡ others ++ rest → (lines ≡ others) × (a ≡ b) × (text ≡ other)
