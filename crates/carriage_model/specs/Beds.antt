-- The loops on the needles as the program keeps them.
use Rattle.std.specs.Prelude.{◌≡◌, ℕ, ℤ, List, [], ◌∷◌}
use Rattle.knit_base.specs.declared.needle.Needle.{Needle}
use Rattle.carriage_model.specs.declared.beds.Beds.{Beds}
use Rattle.carriage_model.specs.Places.{Spans, stack_in}

-- the beds have a needle with this number
abbrev pub IsOn : Beds → ℤ → Type 0
IsOn beds at = Spans beds.low beds.width at

-- the beds have needles with the numbers of these
abbrev pub AreOn : Beds → List Needle → Type 0
AreOn beds [] = Unit {0}
AreOn beds (n ∷ ns) = IsOn beds n.at × AreOn beds ns

-- the loops that the beds keep for a needle, none for one that they don't have
abbrev pub loops_at : Beds → Needle → List ℕ
loops_at beds n = stack_in beds.low beds.width beds.stacks.items n

-- the beds have the same needles
pub record SameBeds (old new : Beds) : Type 0 where
  pub low : new.low ≡ old.low
  pub width : new.width ≡ old.width

-- the beds have the same needles, and these now hold these loops
pub record BedsHold (old new : Beds) (stacks : Needle → List ℕ) : Type 0 where
  pub same : SameBeds old new
  pub stacks_are : (n : Needle) → loops_at new n ≡ stacks n

-- the beds have the same needles, and these hold what they held
abbrev pub HoldsAsBefore : Beds → Beds → Type 0
HoldsAsBefore old new = BedsHold old new (loops_at old)
