-- The needles of the beds in one row: the beds stand one after the other, each from its lowest needle on.
use Rattle.std.specs.Prelude.{ℕ, ◌+◌, ◌*◌, ◌-◌, nat_lt, ℤ, pos, ◌+ℤ◌, ◌-ℤ◌, ◌≤ℤ◌, ◌<ℤ◌, int_lt, not, ◌&&◌, Bool, List, [], slice_index_or, if◌then◌else◌}
use Rattle.std.specs.Int.RustNames.{unsigned_abs}
use Rattle.knit_base.specs.declared.needle.Bed.{Bed}
use Rattle.knit_base.specs.declared.needle.Bed.TheVariants.{Front, FrontSlider, Back, BackSlider}
use Rattle.knit_base.specs.declared.needle.Needle.{Needle}

-- beds of this width from this number on have a needle with the number
pub record Spans (low : ℤ) (width : ℕ) (at : ℤ) : Type 0 where
  pub above : low ≤ℤ at
  pub below : at <ℤ (low +ℤ pos width)

-- the same as a test
abbrev pub is_spanned : ℤ → ℕ → ℤ → Bool
is_spanned low width at = not (int_lt at low) && int_lt at (low +ℤ pos width)

-- the place of a bed's lowest needle, where each bed has so many needles
abbrev pub first_of_bed : ℕ → Bed → ℕ
first_of_bed width Front = 0
first_of_bed width FrontSlider = width
first_of_bed width Back = 2 * width
first_of_bed width BackSlider = 3 * width

-- the place of a needle: the beds stand one after the other, each from its lowest needle on
abbrev pub stack_place : ℤ → ℕ → Needle → ℕ
stack_place low width n = first_of_bed width n.bed + unsigned_abs (n.at -ℤ low)

-- the bed and the needle whose stack stands at a place
abbrev pub bed_at : ℕ → ℕ → Bed
bed_at width place =
    if nat_lt place width then Front else (if nat_lt place (2 * width) then FrontSlider else (if nat_lt place (3 * width) then Back else BackSlider))

abbrev pub needle_at : ℤ → ℕ → ℕ → Needle
needle_at low width place = record { bed = bed_at width place; at = low +ℤ pos (place - first_of_bed width (bed_at width place)) }

-- the loops of a needle in such a list of stacks
abbrev pub stack_in : ℤ → ℕ → List (List ℕ) → Needle → List ℕ
stack_in low width stacks n = if is_spanned low width n.at then slice_index_or stacks (stack_place low width n) [] else []
