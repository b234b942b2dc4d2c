-- The limits of a machine.
use Rattle.std.specs.Prelude.{◌≤◌, pos, ◌-ℤ◌, ◌≤ℤ◌, IfSome, ℕ}
use Rattle.knit_base.specs.declared.profile.Profile.{Profile}

-- how far apart two loops of a carrier may lie
pub record IsFloatLimit (float : ℕ) : Type 0 where
  pub some : 1 ≤ float
  pub most : float ≤ 8192

-- the profile lies within the bounds of the project
pub record IsLawfulProfile (profile : Profile) : Type 0 where
  pub lowest : (pos 0 -ℤ pos 4096) ≤ℤ profile.low
  pub ordered : profile.low ≤ℤ profile.high
  pub highest : profile.high ≤ℤ pos 4096
  pub rack : profile.rack ≤ 64
  pub some : 1 ≤ profile.hold
  pub hold : profile.hold ≤ 64
  pub float : IfSome profile.float IsFloatLimit
