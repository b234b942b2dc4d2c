-- Faces of the lines of a text.
use Rattle.std.specs.Prelude.{ℕ, ◌≤◌, ◌<◌, ◌^◌, List, All, length}
use Rattle.knit_base.specs.declared.instr.Read.{Read}
use Rattle.knit_base.specs.declared.needle.Needle.{Needle}
use Rattle.knit_base.specs.declared.profile.Profile.{Profile}
use Rattle.face_data.specs.Goodness.{IsGood}
use Rattle.face_data.specs.Spots.{IsNumbered}
use Rattle.face_data.specs.Stands.{StandsFor}
use Rattle.face_data.specs.Summaries.{Summary}
use Rattle.block_summary.specs.Prepared.{AreNeedlesKnown, AreReadings}

-- However the lines of the text are read with these names of carriers, the face stands for them, and it is good for the carriers, the limit on the loops of a
-- needle and whatever needles are known that the lines name.
pub record IsFaceOf (profile : Profile) (names text : List (List ℕ)) (face : Summary) : Type 0 where
  pub stands : (lines : List Read) → AreReadings profile names text lines → StandsFor profile face lines
  pub good : (lines : List Read) → AreReadings profile names text lines → (known : List Needle) → AreNeedlesKnown known lines → IsGood (length names) profile.hold known face

-- both summaries are good for the same machine, whose needles have numbers of 16 bits
pub record AreOfOneMachine (first second : Summary) : Type 0 where
  pub carriers : ℕ
  pub limit : ℕ
  pub first_known : List Needle
  pub second_known : List Needle
  pub few : carriers ≤ 64
  pub few_loops : limit < 2 ^ 8
  pub first_numbers : All IsNumbered first_known
  pub second_numbers : All IsNumbered second_known
  pub first_good : IsGood carriers limit first_known first
  pub second_good : IsGood carriers limit second_known second
