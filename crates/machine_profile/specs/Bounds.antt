-- Which options may be chosen, and what they give.
use Rattle.std.specs.Prelude.{◌≡◌, ◌≤◌, ℕ, ℤ, pos, ◌&&◌, if◌then◌else◌, Option, Some, None, unwrap_or, int_le, ◌-ℤ◌}
use Rattle.std.specs.Option.{option_map, option_or}
use Rattle.machine_profile.specs.declared.Options.{Options}
use Rattle.machine_profile.specs.declared.Chosen.{Chosen}
use Rattle.machine_profile.specs.declared.Which.{Which}
use Rattle.machine_profile.specs.declared.Which.TheVariants.{Low, High, Rack, Hold, Block, Float}

-- the lowest needle, which is -1024 unless it is chosen
abbrev pub low_of : Options → ℤ
low_of options = unwrap_or options.low (pos 0 -ℤ pos 1024)

-- the highest needle
abbrev pub high_of : Options → ℤ
high_of options = unwrap_or options.high (pos 1023)

-- how many needles the beds rack to either side
abbrev pub rack_option : Options → ℤ
rack_option options = unwrap_or options.rack (pos 8)

-- how many loops a needle may hold
abbrev pub hold_of : Options → ℤ
hold_of options = unwrap_or options.hold (pos 16)

-- how many body lines an opening block has
abbrev pub block_option : Options → ℤ
block_option options = unwrap_or options.block (pos 64)

-- the option, where its value lies below the least or above the greatest
abbrev pub option_outside : Which → ℤ → ℤ → ℤ → Option Which
option_outside which least greatest value = if int_le least value && int_le value greatest then None else Some which

-- the same of an option that has no default
abbrev pub outside_if_any : Which → ℤ → ℤ → Option ℤ → Option Which
outside_if_any which least greatest None = None
outside_if_any which least greatest (Some value) = option_outside which least greatest value

-- the first option that is refused; the highest needle lies no lower than the lowest
abbrev pub refused_option : Options → Option Which
refused_option options =
    option_or (option_outside Low (pos 0 -ℤ pos 4096) (pos 4096) (low_of options))
    (option_or (option_outside High (low_of options) (pos 4096) (high_of options))
    (option_or (option_outside Rack (pos 0) (pos 64) (rack_option options))
    (option_or (option_outside Hold (pos 1) (pos 64) (hold_of options))
    (option_or (option_outside Block (pos 1) (pos 4096) (block_option options))
    (outside_if_any Float (pos 1) (pos 8192) options.float)))))

-- the profile and the block have these values
pub record HasValues (lowest highest needles loops lines : ℤ) (longest : Option ℤ) (chosen : Chosen) : Type 0 where
  pub low : chosen.profile.low ≡ lowest
  pub high : chosen.profile.high ≡ highest
  pub rack : pos chosen.profile.rack ≡ needles
  pub hold : pos chosen.profile.hold ≡ loops
  pub block : pos chosen.block ≡ lines
  pub float : longest ≡ option_map (λ f. pos f) chosen.profile.float

-- the profile and the block have the values of the options
abbrev pub IsChosen : Options → Chosen → Type 0
IsChosen options = HasValues (low_of options) (high_of options) (rack_option options) (hold_of options) (block_option options) options.float

-- a block has 1 to 4,096 lines
pub record IsBlockSize (lines : ℕ) : Type 0 where
  pub some : 1 ≤ lines
  pub few : lines ≤ 4096
