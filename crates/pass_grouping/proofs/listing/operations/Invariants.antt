use Rattle.std.proofs.Common.{take}
use Rattle.pass_grouping.specs.Listings.{HasListed}
use Rattle.pass_grouping.proofs.listing.operations.Given as goal

abbrev pub invariant-loop-read : goal.invariant-loop-read
invariant-loop-read l = HasListed l.first (take l.read-index l.read-items) l.listing
