-- What each line of a text is to the carriage.
use Rattle.std.specs.Prelude.{ℕ, ℤ, pos, negsuc, ◌+ℤ◌, ◌*ℤ◌, ◌≤ℤ◌, ◌+◌, Bool, true, false, List, [], ◌∷◌, ◌++◌, Option, None, Some, length, count_by}
use Rattle.std.specs.Option.{option_to_list}
use Rattle.std.specs.List.{fold}
use Rattle.knit_base.specs.declared.instr.Instr.{Instr}
use Rattle.knit_base.specs.declared.instr.Instr.TheVariants.{CarryIn, CarryOut, HookIn, HookOut, ReleaseHook, Stitch, Pause, Extension, Rack, Knit, Tuck, Miss, Split, Xfer, Drop, Amiss}
use Rattle.knit_base.specs.declared.instr.Quarter.{Quarter}
use Rattle.knit_base.specs.declared.instr.Read.{Read}
use Rattle.knit_base.specs.declared.instr.Read.TheVariants as read
use Rattle.knit_base.specs.declared.needle.Bed.{Bed}
use Rattle.knit_base.specs.declared.needle.Bed.TheVariants.{Front, FrontSlider, Back, BackSlider}
use Rattle.knit_base.specs.declared.needle.Needle.{Needle}
use Rattle.knit_base.specs.declared.needle.Dir.{Dir}
use Rattle.knit_base.specs.declared.yarns.CarrierNo.{CarrierNo}
use Rattle.knit_base.specs.Instr.{rack_of}
use Rattle.pass_grouping.specs.declared.operation.Class.{Class}
use Rattle.pass_grouping.specs.declared.operation.Class.TheVariants as class
use Rattle.pass_grouping.specs.declared.operation.PassOp.{PassOp}

-- a number on a bed in quarters of a needle, seen from the front bed: the back bed stands off by the rack
abbrev pub quarters_on : ℤ → Bed → ℤ → ℤ
quarters_on rack Front at = pos 4 *ℤ at
quarters_on rack FrontSlider at = pos 4 *ℤ at
quarters_on rack Back at = (pos 4 *ℤ at) +ℤ rack
quarters_on rack BackSlider at = (pos 4 *ℤ at) +ℤ rack

-- the place of a needle at this rack
abbrev pub operation_place : ℤ → Needle → ℤ
operation_place rack n = quarters_on rack n.bed n.at

-- an operation that goes in a direction and uses carriers
abbrev pub operation_with_carriers : Class → ℕ → ℕ → ℤ → Dir → Needle → List CarrierNo → PassOp
operation_with_carriers class line stretch rack dir n cs = record { line = line; stretch = stretch; class = class; dir = Some dir; yarns = cs; place = operation_place rack n }

-- an operation without direction and carriers
abbrev pub plain_operation : Class → ℕ → ℕ → ℤ → Needle → PassOp
plain_operation class line stretch rack n = record { line = line; stretch = stretch; class = class; dir = None; yarns = []; place = operation_place rack n }

-- the operation of an instruction. `knit` and `tuck` without carriers drop loops, `split` without carriers moves them, and
-- `miss` without carriers is no operation
abbrev pub operation_of_instr : ℕ → ℕ → ℤ → Instr → Option PassOp
operation_of_instr line stretch rack (CarryIn cs) = None
operation_of_instr line stretch rack (CarryOut cs) = None
operation_of_instr line stretch rack (HookIn cs) = None
operation_of_instr line stretch rack (HookOut cs) = None
operation_of_instr line stretch rack (ReleaseHook cs) = None
operation_of_instr line stretch rack Stitch = None
operation_of_instr line stretch rack Pause = None
operation_of_instr line stretch rack Extension = None
operation_of_instr line stretch rack (Rack q) = None
operation_of_instr line stretch rack (Knit dir n []) = Some (plain_operation class.Drop line stretch rack n)
operation_of_instr line stretch rack (Knit dir n (c ∷ cs)) = Some (operation_with_carriers class.Form line stretch rack dir n (c ∷ cs))
operation_of_instr line stretch rack (Tuck dir n []) = Some (plain_operation class.Drop line stretch rack n)
operation_of_instr line stretch rack (Tuck dir n (c ∷ cs)) = Some (operation_with_carriers class.Form line stretch rack dir n (c ∷ cs))
operation_of_instr line stretch rack (Miss dir n []) = None
operation_of_instr line stretch rack (Miss dir n (c ∷ cs)) = Some (operation_with_carriers class.Form line stretch rack dir n (c ∷ cs))
operation_of_instr line stretch rack (Split dir n n2 []) = Some (plain_operation class.Move line stretch rack n)
operation_of_instr line stretch rack (Split dir n n2 (c ∷ cs)) = Some (operation_with_carriers class.Split line stretch rack dir n (c ∷ cs))
operation_of_instr line stretch rack (Xfer n n2) = Some (plain_operation class.Move line stretch rack n)
operation_of_instr line stretch rack (Drop n) = Some (plain_operation class.Drop line stretch rack n)
operation_of_instr line stretch rack (Amiss n) = Some (plain_operation class.Drop line stretch rack n)

-- the operation of a line
abbrev pub operation_of : ℕ → ℕ → ℤ → Read → Option PassOp
operation_of line stretch rack read.Blank = None
operation_of line stretch rack read.Comment = None
operation_of line stretch rack (read.Broken reason) = None
operation_of line stretch rack (read.Instr i) = operation_of_instr line stretch rack i

-- an instruction that no pass goes over
abbrev pub stops_carriage : Instr → Bool
stops_carriage (CarryIn cs) = true
stops_carriage (CarryOut cs) = true
stops_carriage (HookIn cs) = true
stops_carriage (HookOut cs) = true
stops_carriage (ReleaseHook cs) = true
stops_carriage Stitch = true
stops_carriage Pause = true
stops_carriage Extension = true
stops_carriage (Rack q) = true
stops_carriage (Knit dir n cs) = false
stops_carriage (Tuck dir n cs) = false
stops_carriage (Miss dir n []) = true
stops_carriage (Miss dir n (c ∷ cs)) = false
stops_carriage (Split dir n n2 cs) = false
stops_carriage (Xfer n n2) = false
stops_carriage (Drop n) = false
stops_carriage (Amiss n) = false

-- a line that ends a stretch
abbrev pub ends_stretch : Read → Bool
ends_stretch read.Blank = false
ends_stretch read.Comment = false
ends_stretch (read.Broken reason) = true
ends_stretch (read.Instr i) = stops_carriage i

-- the rack that is set, or else this one
abbrev pub rack_or : ℤ → Option Quarter → ℤ
rack_or rack None = rack
rack_or rack (Some q) = q.0

-- the rack behind a line, where it was this before
abbrev pub rack_behind : ℤ → Read → ℤ
rack_behind rack (read.Instr i) = rack_or rack (rack_of i)
rack_behind rack r = rack

-- the rack behind these lines, which is 0 before the first
abbrev pub rack_after_lines : List Read → ℤ
rack_after_lines = fold rack_behind (pos 0)

-- The operations of the later lines, behind these earlier ones. The first line of all has this number. An operation's stretch
-- is how many lines before it end a stretch, and its place is that of its needle at the rack behind those lines.
abbrev pub operations_after : ℕ → List Read → List Read → List PassOp
operations_after first earlier [] = []
operations_after first earlier (r ∷ later) =
    option_to_list (operation_of (first + length earlier) (count_by ends_stretch earlier) (rack_after_lines earlier) r) ++ operations_after first (earlier ++ r ∷ []) later

-- from -256 to 256 quarters, which is 64 needles to either side
abbrev pub IsWithinGreatestRack : ℤ → Type 0
IsWithinGreatestRack rack = (negsuc 255 ≤ℤ rack) × (rack ≤ℤ pos 256)

-- a rack that is set lies there
abbrev pub IsSetWithin : Option Quarter → Type 0
IsSetWithin None = Unit {0}
IsSetWithin (Some q) = IsWithinGreatestRack q.0

-- a rack that the line sets lies there, as it does in every lawful reading (`proofs/Racks`)
abbrev pub IsRackWithin : Read → Type 0
IsRackWithin (read.Instr i) = IsSetWithin (rack_of i)
IsRackWithin r = Unit {0}
