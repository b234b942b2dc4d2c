-- Racks of lawful readings.
use Rattle.std.proofs.Common.{ℕ, List, Option, Some, None, All, arith}
use Rattle.std.proofs.lemmas.Int.{ints}
use Rattle.std.proofs.lemmas.List.Elements.{All-weaker}
use Rattle.knit_base.specs.declared.instr.Quarter.{Quarter}
use Rattle.knit_base.specs.declared.instr.Read.{Read}
use Rattle.knit_base.specs.declared.instr.Read.TheVariants as read
use Rattle.knit_base.specs.declared.profile.Profile.{Profile}
use Rattle.knit_base.specs.Instr.{rack_of}
use Rattle.knit_base.specs.Lawful.{IsLawfulRead, IsRackedWithin}
use Rattle.knit_base.specs.Limits.{IsLawfulProfile}
use Rattle.pass_grouping.specs.Operations.{IsRackWithin, IsSetWithin}

set-lawful : (profile : Profile) (set : Option Quarter) → IsLawfulProfile profile → IsRackedWithin profile set → IsSetWithin set
set-lawful profile None limits within = tt
set-lawful profile (Some q) limits within = (omega (arith, ints, limits.rack, within.left), omega (arith, ints, limits.rack, within.right))

-- a lawful reading sets a rack within 64 needles to either side, if any
pub read-lawful : (profile : Profile) (declared : ℕ) (r : Read) → IsLawfulProfile profile → IsLawfulRead profile declared r → IsRackWithin r
read-lawful profile declared read.Blank limits lawful = tt
read-lawful profile declared read.Comment limits lawful = tt
read-lawful profile declared (read.Broken reason) limits lawful = tt
read-lawful profile declared (read.Instr i) limits lawful = set-lawful profile (rack_of i) limits lawful.rack

-- the racks of lawful readings lie within 64 needles to either side
pub racks-lawful : (profile : Profile) (declared : ℕ) (reads : List Read) → IsLawfulProfile profile → All (IsLawfulRead profile declared) reads → All IsRackWithin reads
racks-lawful profile declared reads limits lawful = All-weaker (IsLawfulRead profile declared) IsRackWithin (λ r is. read-lawful profile declared r limits is) reads lawful
