-- The passes of a text whose readings come one by one.
use Rattle.std.proofs.Common.{◌≡◌, ℕ, ◌+◌, List, [], ◌∷◌, ◌++◌, Option, if◌then◌else◌, refl, subst}
use Rattle.std.specs.Option.{option_to_list}
use Rattle.knit_base.specs.declared.instr.Read.{Read}
use Rattle.pass_grouping.specs.declared.operation.PassOp.{PassOp}
use Rattle.pass_grouping.specs.declared.tally.Tally.{Tally}
use Rattle.pass_grouping.specs.Growing.{IsGrowing}
use Rattle.pass_grouping.specs.Listings.{HasListed}
use Rattle.pass_grouping.specs.Operations.{operation_of, operations_after, ends_stretch, rack_behind, IsRackWithin}
use Rattle.pass_grouping.specs.Tallies.{HasTallied, listing_at}
use Rattle.pass_grouping.proofs.OperationList.{listed-more}

-- one reading more
pub tallied-more : (first : ℕ) (reads : List Read) (r : Read) (op : Option PassOp) (old new : Tally) → HasTallied first reads old → IsRackWithin r → op ≡ operation_of old.line old.stretch old.rack r
    → ((ops : List PassOp) → IsGrowing ops old.passes → IsGrowing (ops ++ option_to_list op) new.passes)
    → new.line ≡ old.line + 1 → new.stretch ≡ old.stretch + (if ends_stretch r then 1 else 0) → new.rack ≡ rack_behind old.rack r
    → HasTallied first (reads ++ r ∷ []) new
tallied-more first reads r op old new has racks made grows next counted set =
    let were : List PassOp = operations_after first [] reads in
    let more : HasListed first (reads ++ r ∷ []) (listing_at (were ++ option_to_list op) new) =
    listed-more first reads r op (listing_at were old) (listing_at (were ++ option_to_list op) new) has.listed racks made refl next counted set in
    record {
      listed = subst (λ (ops : List PassOp). HasListed first (reads ++ r ∷ []) (listing_at ops new)) more.ops more;
      growing = subst (λ (ops : List PassOp). IsGrowing ops new.passes) more.ops (grows were has.growing);
    }
