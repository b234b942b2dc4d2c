-- The needles in one row.
use Rattle.std.specs.Prelude.{ℕ, ◌+◌, ◌*◌, ◌<◌, ◌^◌, ℤ, pos, negsuc}
use Rattle.knit_base.specs.declared.needle.Needle.{Needle}
use Rattle.knit_base.specs.Needle.{bed_place}

-- the numbers 0, -1, 1, -2, 2 and so on, in this order
abbrev pub number_place : ℤ → ℕ
number_place (pos n) = 2 * n
number_place (negsuc n) = 2 * n + 1

-- the place of a needle: by number, and then by bed
unfoldable pub spot_of : Needle → ℕ
spot_of n = 4 * number_place n.at + bed_place n.bed

-- the needle's number is one of 16 bits
abbrev pub IsNumbered : Needle → Type 0
IsNumbered n = number_place n.at < 2 ^ 16
