-- The last needles of carriers, where lines change them.
use Rattle.std.specs.Prelude.{ℕ, ℤ, ◌<◌, nat_lt, List, [], ◌∷◌, Option, None, Some, fold, unwrap_or, if◌then◌else◌}
use Rattle.knit_base.specs.declared.yarns.CarrierNo.{CarrierNo}
use Rattle.carriage_model.specs.State.{is_near, same_carrier}
use Rattle.face_data.specs.declared.bearing.Bearing.{Bearing}
use Rattle.face_data.specs.declared.bearing.Bearing.TheVariants.{Silent}
use Rattle.face_data.specs.declared.face.Last.{Last}
use Rattle.face_data.specs.Bearings.{same_or_not}

-- what the lines make of the carrier's last needle, where they change it
abbrev pub last_at : List Last → CarrierNo → Option (Option ℤ)
last_at [] c = None
last_at (l ∷ ls) c = if same_carrier l.carrier c then Some l.at else last_at ls c

-- the last needles after the lines; a carrier that they don't name has what it had
abbrev pub lasts_after : List Last → (CarrierNo → Option ℤ) → CarrierNo → Option ℤ
lasts_after lasts old c = unwrap_or (last_at lasts c) (old c)

-- the carriers with one last needle more, in their order; one that is there gets the new last needle
abbrev pub put_last : List Last → Last → List Last
put_last [] l = l ∷ []
put_last (h ∷ hs) l =
    if same_carrier l.carrier h.carrier then l ∷ hs else (if nat_lt l.carrier.0 h.carrier.0 then l ∷ h ∷ hs else h ∷ put_last hs l)

-- what lines and those behind them change; where both change a last needle, the second list counts
abbrev pub lasts_of_both : List Last → List Last → List Last
lasts_of_both first second = fold put_last first second

-- all carriers come after the one with this number
abbrev pub AreAbove : ℕ → List Last → Type 0
AreAbove n [] = Unit {0}
AreAbove n (l ∷ ls) = (n < l.carrier.0) × AreAbove n ls

-- the carriers stand in their order, each once
abbrev pub AreInOrder : List Last → Type 0
AreInOrder [] = Unit {0}
AreInOrder (l ∷ ls) = AreAbove l.carrier.0 ls × AreInOrder ls

-- what is known of a condition by a last needle that the lines set, if they set one
abbrev pub bearing_of_last : Option (Option ℤ) → ℤ → ℕ → Bearing
bearing_of_last None at float = Silent
bearing_of_last (Some last) at float = same_or_not (is_near float last at)

-- what is known, after the lines, of the condition that the carrier's last needle is near
abbrev pub last_bearing : List Last → CarrierNo → ℤ → ℕ → Bearing
last_bearing lasts c at float = bearing_of_last (last_at lasts c) at float

-- what contracts see of last needles that are kept: these, and for how many there is room
pub record LastsView : Type 0 where
  pub lasts : List Last
  pub room : ℕ
