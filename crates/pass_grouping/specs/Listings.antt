-- Operations that are listed reading by reading.
use Rattle.std.specs.Prelude.{◌≡◌, ℕ, ◌+◌, ◌≤◌, List, [], length, count_by}
use Rattle.knit_base.specs.declared.instr.Read.{Read}
use Rattle.pass_grouping.specs.declared.listing.Listing.{Listing}
use Rattle.pass_grouping.specs.Operations.{operations_after, ends_stretch, rack_after_lines, IsWithinGreatestRack}

-- the number of the line whose reading comes next
abbrev pub next_listing_line : Listing → ℕ
next_listing_line listing = listing.line

-- the operations of these readings are listed, of which the first is that of the line with this number
pub record HasListed (first : ℕ) (reads : List Read) (listing : Listing) : Type 0 where
  pub ops : listing.ops ≡ operations_after first [] reads
  pub few : length listing.ops ≤ length reads
  pub lines : next_listing_line listing ≡ first + length reads
  pub stretch : listing.stretch ≡ count_by ends_stretch reads
  pub rack : listing.rack ≡ rack_after_lines reads
  pub within : IsWithinGreatestRack listing.rack

-- the operations of some readings are listed
abbrev pub IsOperationListing : Listing → Type 0
IsOperationListing listing = (first : ℕ) × (reads : List Read) × HasListed first reads listing
