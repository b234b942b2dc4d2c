-- What an instruction names: its carriers, its needles, the loops that it forms and moves.
use Rattle.std.specs.Prelude.{ℕ, List, [], ◌∷◌, Option, None, Some}
use Rattle.knit_base.specs.declared.instr.Instr.{Instr}
use Rattle.knit_base.specs.declared.instr.Instr.TheVariants.{CarryIn, CarryOut, HookIn, HookOut, ReleaseHook, Rack, Knit, Tuck, Miss, Split, Xfer, Drop, Amiss}
use Rattle.knit_base.specs.declared.instr.Quarter.{Quarter}
use Rattle.knit_base.specs.declared.needle.Needle.{Needle}
use Rattle.knit_base.specs.declared.yarns.CarrierNo.{CarrierNo}

-- the carriers, as written
abbrev pub yarns_of : Instr → List CarrierNo
yarns_of (CarryIn cs) = cs
yarns_of (CarryOut cs) = cs
yarns_of (HookIn cs) = cs
yarns_of (HookOut cs) = cs
yarns_of (ReleaseHook cs) = cs
yarns_of (Knit dir n cs) = cs
yarns_of (Tuck dir n cs) = cs
yarns_of (Miss dir n cs) = cs
yarns_of (Split dir n n2 cs) = cs
yarns_of instr = []

-- the place of the first carrier's token in the line
abbrev pub yarns_at : Instr → ℕ
yarns_at (Knit dir n cs) = 3
yarns_at (Tuck dir n cs) = 3
yarns_at (Miss dir n cs) = 3
yarns_at (Split dir n n2 cs) = 4
yarns_at instr = 1

-- the needles, as written
abbrev pub needles_of : Instr → List Needle
needles_of (Knit dir n cs) = n ∷ []
needles_of (Tuck dir n cs) = n ∷ []
needles_of (Miss dir n cs) = n ∷ []
needles_of (Split dir n n2 cs) = n ∷ n2 ∷ []
needles_of (Xfer n n2) = n ∷ n2 ∷ []
needles_of (Drop n) = n ∷ []
needles_of (Amiss n) = n ∷ []
needles_of instr = []

-- the needle, where there are carriers to form a loop of
abbrev pub formed_on : Needle → List CarrierNo → Option Needle
formed_on n [] = None
formed_on n (c ∷ cs) = Some n

-- the needle on which the instruction forms a loop
abbrev pub forming_needle : Instr → Option Needle
forming_needle (Knit dir n cs) = formed_on n cs
forming_needle (Tuck dir n cs) = formed_on n cs
forming_needle (Split dir n n2 cs) = formed_on n cs
forming_needle instr = None

-- all loops of one needle go over to another
pub record Move : Type 0 where
  pub from : Needle
  pub onto : Needle

-- the move that the instruction makes
abbrev pub move_of : Instr → Option Move
move_of (Split dir n n2 cs) = Some (record { from = n; onto = n2 })
move_of (Xfer n n2) = Some (record { from = n; onto = n2 })
move_of instr = None

-- the rack that the instruction sets
abbrev pub rack_of : Instr → Option Quarter
rack_of (Rack q) = Some q
rack_of instr = None
