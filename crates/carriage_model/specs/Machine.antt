-- What the program keeps, and the state that it stands for.
use Rattle.std.specs.Prelude.{◌≡◌, ◌≢◌, ℕ, ℤ, ◌+◌, ◌<◌, ◌^◌, pos, ◌+ℤ◌, true, List, length, Option, None, Some, is_some, slice_index_or}
use Rattle.knit_base.specs.declared.instr.Instr.{Instr}
use Rattle.knit_base.specs.declared.instr.Instr.TheVariants.{Tuck}
use Rattle.knit_base.specs.declared.instr.Read.{Read}
use Rattle.knit_base.specs.declared.instr.Read.TheVariants as read
use Rattle.knit_base.specs.declared.needle.Needle.{Needle}
use Rattle.knit_base.specs.declared.profile.Profile.{Profile}
use Rattle.knit_base.specs.declared.usual.Usual.{Usual}
use Rattle.knit_base.specs.declared.usual.Usual.TheVariants as usual
use Rattle.knit_base.specs.declared.yarns.CarrierNo.{CarrierNo}
use Rattle.knit_base.specs.Instr.{yarns_of, yarns_at, needles_of, formed_on, Move, move_of}
use Rattle.knit_base.specs.Needle.{is_front}
use Rattle.knit_base.specs.Yarns.{IsCarrier}
use Rattle.carriage_model.specs.declared.machine.Machine.{Machine}
use Rattle.carriage_model.specs.State.{State}
use Rattle.carriage_model.specs.Steps.{given_lasts}
use Rattle.carriage_model.specs.Beds.{AreOn, SameBeds, loops_at}

-- the loops that the machine keeps for a needle
abbrev pub stack_of : Machine → Needle → List ℕ
stack_of machine = loops_at machine.beds

-- the last needle that the machine keeps of a carrier
abbrev pub last_in : Machine → CarrierNo → Option ℤ
last_in machine c = slice_index_or machine.lasts c.0 None

-- the machine has the needles of the profile, and keeps the last needles exactly where there is a limit on floats
pub record HasNeedlesOf (profile : Profile) (machine : Machine) : Type 0 where
  pub low : machine.beds.low ≡ profile.low
  pub width : (profile.low +ℤ pos machine.beds.width) ≡ (profile.high +ℤ pos 1)
  pub floats : machine.keeps_lasts ≡ is_some profile.float

-- the machine stands so; of the last needles it tells only where it keeps them
pub record Represents (machine : Machine) (s : State) : Type 0 where
  pub rack : machine.rack.0 ≡ s.rack
  pub ins : machine.ins ≡ s.ins
  pub hook : machine.hook ≡ s.hook
  pub lasts : machine.keeps_lasts ≡ true → (c : CarrierNo) → IsCarrier c → last_in machine c ≡ s.lasts c
  pub stacks : (n : Needle) → stack_of machine n ≡ s.stacks n

-- both machines have the same needles, and keep the last needles or don't
pub record IsSameKind (old new : Machine) : Type 0 where
  pub beds : SameBeds old.beds new.beds
  pub floats : new.keeps_lasts ≡ old.keeps_lasts

-- the machine can only have gone from one to the other by what no state shows
pub record StandsAsBefore (old new : Machine) : Type 0 where
  pub kind : IsSameKind old new
  pub states : (s : State) → Represents old s → Represents new s

-- the places of these carriers' tokens, of which the first is at this place, fit in 16 bits
abbrev pub FitsPlaces : ℕ → List CarrierNo → Type 0
FitsPlaces at cs = at + length cs < 2 ^ 16

-- the places of the instruction's carriers fit in 16 bits
abbrev pub HasCarrierPlaces : Instr → Type 0
HasCarrierPlaces instr = FitsPlaces (yarns_at instr) (yarns_of instr)

-- the places of the line's carriers fit in 16 bits
abbrev pub HasPlacesInLine : Read → Type 0
HasPlacesInLine (read.Instr instr) = HasCarrierPlaces instr
HasPlacesInLine r = Unit {0}

-- the machine has the needles that the instruction names
abbrev pub HasNeedles : Machine → Instr → Type 0
HasNeedles machine instr = AreOn machine.beds (needles_of instr)

-- the machine has the needles that the line names
abbrev pub HasNeedlesInLine : Machine → Read → Type 0
HasNeedlesInLine machine (read.Instr instr) = HasNeedles machine instr
HasNeedlesInLine machine r = Unit {0}

-- all loops of the first needle can go over to the second, on the other side
pub record CanGoOver (machine : Machine) (n n2 : Needle) : Type 0 where
  pub sides : is_front n.bed ≢ is_front n2.bed
  pub room : length (stack_of machine n2) + length (stack_of machine n) < 2 ^ 32

-- the move, if there is one, can be made
abbrev pub CanMove : Machine → Option Move → Type 0
CanMove machine None = Unit {0}
CanMove machine (Some move) = CanGoOver machine move.from move.onto

-- the needle, if there is one, has room for one more loop
abbrev pub HasRoomForLoop : Machine → Option Needle → Type 0
HasRoomForLoop machine None = Unit {0}
HasRoomForLoop machine (Some n) = length (stack_of machine n) + 1 < 2 ^ 32

-- the loops that the instruction adds to others have room on their needles: a tuck adds a loop, and a move all that it moves
abbrev pub HasLoopRoom : Machine → Instr → Type 0
HasLoopRoom machine (Tuck dir n cs) = HasRoomForLoop machine (formed_on n cs)
HasLoopRoom machine instr = CanMove machine (move_of instr)

-- the loops that the line adds to others have room on their needles
abbrev pub HasRoomInLine : Machine → Read → Type 0
HasRoomInLine machine (read.Instr instr) = HasLoopRoom machine instr
HasRoomInLine machine r = Unit {0}

-- the number of the line's carrier, where it has one, is the place of a bit in a set
abbrev pub HasCarrierInSet : Usual → Type 0
HasCarrierInSet (usual.Knit dir n c) = IsCarrier c
HasCarrierInSet (usual.Tuck dir n c) = IsCarrier c
HasCarrierInSet (usual.Xfer n n2) = Unit {0}

-- the last needles that the instruction gives carriers were put into the machine, where it keeps them, and nothing else
pub record HasNoted (instr : Instr) (old new : Machine) : Type 0 where
  pub lasts : old.keeps_lasts ≡ true → (c : CarrierNo) → IsCarrier c → last_in new c ≡ given_lasts instr (last_in old) c
  pub rest : new ≡ record old { lasts = new.lasts }
