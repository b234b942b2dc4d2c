-- The passes of a text whose readings come one by one.
use Rattle.std.specs.Prelude.{ℕ, List, []}
use Rattle.knit_base.specs.declared.instr.Read.{Read}
use Rattle.pass_grouping.specs.declared.listing.Listing.{Listing}
use Rattle.pass_grouping.specs.declared.operation.PassOp.{PassOp}
use Rattle.pass_grouping.specs.declared.tally.Tally.{Tally}
use Rattle.pass_grouping.specs.Growing.{IsGrowing}
use Rattle.pass_grouping.specs.Listings.{HasListed}
use Rattle.pass_grouping.specs.Operations.{operations_after}

-- the number of the line whose reading comes next
abbrev pub next_tally_line : Tally → ℕ
next_tally_line tally = tally.line

-- a listing that stands where the tally does, with these operations
abbrev pub listing_at : List PassOp → Tally → Listing
listing_at ops tally = record { ops = ops; line = tally.line; stretch = tally.stretch; rack = tally.rack }

-- the operations of these readings are grouped, of which the first is that of the line with this number
pub record HasTallied (first : ℕ) (reads : List Read) (tally : Tally) : Type 0 where
  pub listed : HasListed first reads (listing_at (operations_after first [] reads) tally)
  pub growing : IsGrowing (operations_after first [] reads) tally.passes

-- the operations of some readings are grouped
abbrev pub IsTallying : Tally → Type 0
IsTallying tally = (first : ℕ) × (reads : List Read) × HasTallied first reads tally
