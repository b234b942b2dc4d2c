-- Readings that a machine can be asked to carry out.
use Rattle.std.specs.Prelude.{◌≡◌, ◌≢◌, ◌⊎◌, ℕ, ◌+◌, ◌*◌, ◌<◌, ◌^◌, pos, ◌-ℤ◌, ◌≤ℤ◌, false, List, [], ◌∷◌, length, All, Option, None, Some}
use Rattle.knit_base.specs.declared.instr.Instr.{Instr}
use Rattle.knit_base.specs.declared.instr.Quarter.{Quarter}
use Rattle.knit_base.specs.declared.instr.Read.{Read}
use Rattle.knit_base.specs.declared.instr.Read.TheVariants as read
use Rattle.knit_base.specs.declared.profile.Profile.{Profile}
use Rattle.knit_base.specs.declared.needle.Needle.{Needle}
use Rattle.knit_base.specs.declared.yarns.CarrierNo.{CarrierNo}
use Rattle.knit_base.specs.Instr.{yarns_of, yarns_at, needles_of, forming_needle, Move, move_of, rack_of}
use Rattle.knit_base.specs.Needle.{is_front, is_slider}

-- carriers of so many declared ones. Their tokens, of which the first stands at this place, have places below 2 ^ 16
pub record AreDeclared (declared : ℕ) (at : ℕ) (cs : List CarrierNo) : Type 0 where
  pub each : All (λ c. c.0 < declared) cs
  pub places : at + length cs < 2 ^ 16

-- the needle lies on the bed
pub record IsOnBed (profile : Profile) (n : Needle) : Type 0 where
  pub above : profile.low ≤ℤ n.at
  pub below : n.at ≤ℤ profile.high

-- each of the needles lies on the bed
abbrev pub AreOnBed : Profile → List Needle → Type 0
AreOnBed profile [] = Unit {0}
AreOnBed profile (n ∷ ns) = IsOnBed profile n × AreOnBed profile ns

-- a loop is formed on a hook and not on a slider
abbrev pub IsFormedOnHook : Option Needle → Type 0
IsFormedOnHook None = Unit {0}
IsFormedOnHook (Some n) = is_slider n.bed ≡ false

-- the needles are on different sides, and one of them is a hook
pub record AreOpposite (n n2 : Needle) : Type 0 where
  pub sides : is_front n.bed ≢ is_front n2.bed
  pub hook : (is_slider n.bed ≡ false) ⊎ (is_slider n2.bed ≡ false)

-- loops go over to the other side, and not from a slider to a slider
abbrev pub GoesOver : Option Move → Type 0
GoesOver None = Unit {0}
GoesOver (Some move) = AreOpposite move.from move.onto

-- the rack, in quarters of a needle, lies within the limit to either side, which is in needles
pub record IsWithinLimit (profile : Profile) (rack : Quarter) : Type 0 where
  pub left : (pos 0 -ℤ pos (4 * profile.rack)) ≤ℤ rack.0
  pub right : rack.0 ≤ℤ pos (4 * profile.rack)

-- a rack that is set lies within the limit
abbrev pub IsRackedWithin : Profile → Option Quarter → Type 0
IsRackedWithin profile None = Unit {0}
IsRackedWithin profile (Some rack) = IsWithinLimit profile rack

-- The instruction's carriers are among so many declared ones, its needles lie on the bed, it forms no loop on a slider, moves
-- loops to the other side and not from slider to slider, and racks within the limit.
pub record IsLawfulInstr (profile : Profile) (declared : ℕ) (instr : Instr) : Type 0 where
  pub carriers : AreDeclared declared (yarns_at instr) (yarns_of instr)
  pub needles : AreOnBed profile (needles_of instr)
  pub formed : IsFormedOnHook (forming_needle instr)
  pub moved : GoesOver (move_of instr)
  pub rack : IsRackedWithin profile (rack_of instr)

-- a reading that is an instruction is a lawful one
abbrev pub IsLawfulRead : Profile → ℕ → Read → Type 0
IsLawfulRead profile declared (read.Instr instr) = IsLawfulInstr profile declared instr
IsLawfulRead profile declared r = Unit {0}
