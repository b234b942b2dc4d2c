-- The tally that was found.
use Rattle.std.proofs.Common.{◌≡◌, ◌∙◌, Option, None, Some, Bor, ap, sym}
use Rattle.std.specs.Prelude.{option_map}
use Rattle.tally_tree.specs.declared.tally.Tally.{Tally}
use Rattle.tally_tree.specs.Tallies.{TallyCounts, counts_of_tally}

-- what is there, or else another
abbrev unwrapped : TallyCounts → Option TallyCounts → TallyCounts
unwrapped other None = other
unwrapped other (Some v) = v

-- the tally that was found is the one that is there
pub found_is : (found : Option (Bor Tally)) (tally : Bor Tally) (there : Option TallyCounts) (v : TallyCounts) → found ≡ Some tally → option_map (λ (t : Bor Tally). counts_of_tally t.now) found ≡ there → there ≡ Some v → counts_of_tally tally.now ≡ v
found_is found tally there v is holds has = ap (unwrapped v) (sym (ap (option_map (λ (t : Bor Tally). counts_of_tally t.now)) is) ∙ holds ∙ has)
