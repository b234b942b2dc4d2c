-- What usual lines are to the carriage: they end no stretch and set no rack.
use Rattle.std.proofs.Common.{◌≡◌, ℕ, ◌+◌, ℤ, refl, if◌then◌else◌, arith}
use Rattle.knit_base.specs.declared.usual.Usual.{Usual}
use Rattle.knit_base.specs.declared.usual.Usual.TheVariants.{Knit, Tuck, Xfer}
use Rattle.knit_base.specs.Usual.{usual_read}
use Rattle.pass_grouping.specs.Operations.{ends_stretch, rack_behind, IsRackWithin}

pub usual-within : (usual : Usual) → IsRackWithin (usual_read usual)
usual-within (Knit dir n c) = tt
usual-within (Tuck dir n c) = tt
usual-within (Xfer n n2) = tt

pub usual-stretch : (stretch : ℕ) (usual : Usual) → stretch ≡ stretch + (if ends_stretch (usual_read usual) then 1 else 0)
usual-stretch stretch (Knit dir n c) = omega arith
usual-stretch stretch (Tuck dir n c) = omega arith
usual-stretch stretch (Xfer n n2) = omega arith

pub usual-rack : (rack : ℤ) (usual : Usual) → rack ≡ rack_behind rack (usual_read usual)
usual-rack rack (Knit dir n c) = refl
usual-rack rack (Tuck dir n c) = refl
usual-rack rack (Xfer n n2) = refl
