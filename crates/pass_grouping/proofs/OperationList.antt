-- The operations of the first lines of a text.
use Rattle.std.proofs.Common.{◌≡◌, ℕ, ℤ, pos, ◌+◌, ◌≤◌, List, [], ◌∷◌, ◌++◌, length, Option, Some, None, count_by, if◌then◌else◌, cond, sym, ap, subst, ◌∙◌, arith, append_assoc, append-nil, length-append}
use Rattle.std.specs.Option.{option_to_list}
use Rattle.std.proofs.lemmas.List.Sums.{count_by-le-length, fold-append, sum_by-append}
use Rattle.std.proofs.lemmas.Int.{ints}
use Rattle.knit_base.specs.declared.instr.Quarter.{Quarter}
use Rattle.knit_base.specs.declared.instr.Read.{Read}
use Rattle.knit_base.specs.declared.instr.Read.TheVariants as read
use Rattle.knit_base.specs.Instr.{rack_of}
use Rattle.pass_grouping.specs.declared.listing.Listing.{Listing}
use Rattle.pass_grouping.specs.declared.operation.PassOp.{PassOp}
use Rattle.pass_grouping.specs.Listings.{HasListed}
use Rattle.pass_grouping.specs.Operations.{operations_after, operation_of, ends_stretch, rack_or, rack_behind, rack_after_lines, IsRackWithin, IsSetWithin, IsWithinGreatestRack}

set-within : (rack : ℤ) (set : Option Quarter) → IsWithinGreatestRack rack → IsSetWithin set → IsWithinGreatestRack (rack_or rack set)
set-within rack None within set = within
set-within rack (Some q) within set = set

behind-within : (rack : ℤ) (r : Read) → IsWithinGreatestRack rack → IsRackWithin r → IsWithinGreatestRack (rack_behind rack r)
behind-within rack read.Blank within set = within
behind-within rack read.Comment within set = within
behind-within rack (read.Broken reason) within set = within
behind-within rack (read.Instr i) within set = set-within rack (rack_of i) within set

-- at most one operation of a line
one_at_most : (op : Option PassOp) → length (option_to_list op) ≤ 1
one_at_most None = omega arith
one_at_most (Some op) = omega arith

-- the operation of a line behind these earlier ones
abbrev operation_behind : ℕ → List Read → Read → List PassOp
operation_behind first earlier r = option_to_list (operation_of (first + length earlier) (count_by ends_stretch earlier) (rack_after_lines earlier) r)

operations-push : (first : ℕ) (earlier reads : List Read) (r : Read)
    → operations_after first earlier (reads ++ r ∷ []) ≡ operations_after first earlier reads ++ operation_behind first (earlier ++ reads) r
operations-push first earlier [] r = append-nil (operation_behind first earlier r) ∙ ap (λ before. operation_behind first before r) (sym (append-nil earlier))
operations-push first earlier (s ∷ reads) r =
    ap (λ ops. operation_behind first earlier s ++ ops) (operations-push first (earlier ++ s ∷ []) reads r)
    ∙ ap (λ before. operation_behind first earlier s ++ (operations_after first (earlier ++ s ∷ []) reads ++ operation_behind first before r)) (append_assoc earlier (s ∷ []) reads)
    ∙ sym (append_assoc (operation_behind first earlier s) (operations_after first (earlier ++ s ∷ []) reads) (operation_behind first (earlier ++ s ∷ reads) r))

count-push : (reads : List Read) (r : Read) → count_by ends_stretch (reads ++ r ∷ []) ≡ count_by ends_stretch reads + (if ends_stretch r then 1 else 0)
count-push reads r = let both = sum_by-append (λ s. cond (ends_stretch s) 1 0) reads (r ∷ []) in omega (arith, both)

-- one reading more
pub listed-more : (first : ℕ) (reads : List Read) (r : Read) (op : Option PassOp) (old new : Listing) → HasListed first reads old → IsRackWithin r
    → op ≡ operation_of old.line old.stretch old.rack r → new.ops ≡ old.ops ++ option_to_list op → new.line ≡ old.line + 1
    → new.stretch ≡ old.stretch + (if ends_stretch r then 1 else 0) → new.rack ≡ rack_behind old.rack r → HasListed first (reads ++ r ∷ []) new
listed-more first reads r op old new has racks made pushed next counted set =
    let here : op ≡ operation_of (first + length reads) (count_by ends_stretch reads) (rack_after_lines reads) r =
    made ∙ ap (λ n. operation_of n old.stretch old.rack r) has.lines ∙ ap (λ n. operation_of (first + length reads) n old.rack r) has.stretch
    ∙ ap (λ q. operation_of (first + length reads) (count_by ends_stretch reads) q r) has.rack in
    record {
      ops = pushed ∙ ap (λ ops. ops ++ option_to_list op) has.ops ∙ ap (λ o. operations_after first [] reads ++ option_to_list o) here ∙ sym (operations-push first [] reads r);
      few = omega (arith, ap length pushed, length-append old.ops (option_to_list op), one_at_most op, has.few, length-append reads (r ∷ []));
      lines = omega (arith, next, has.lines, length-append reads (r ∷ []));
      stretch = counted ∙ ap (λ n. n + (if ends_stretch r then 1 else 0)) has.stretch ∙ sym (count-push reads r);
      rack = set ∙ ap (λ q. rack_behind q r) has.rack ∙ sym (fold-append rack_behind (pos 0) reads (r ∷ []));
      within = subst IsWithinGreatestRack (sym set) (behind-within old.rack r has.within racks);
    }

-- no reading yet
pub listed-none : (first : ℕ) (listing : Listing) → listing.ops ≡ [] → listing.line ≡ first → listing.stretch ≡ 0 → listing.rack ≡ pos 0 → HasListed first [] listing
listed-none first listing none line stretch rack = record {
  ops = none;
  few = omega (arith, ap length none);
  lines = omega (arith, line);
  stretch = stretch;
  rack = rack;
  within = subst IsWithinGreatestRack (sym rack) (omega (arith, ints), omega (arith, ints));
}

-- stretches are counted by lines
pub listed-stretch : (first : ℕ) (reads : List Read) (listing : Listing) → HasListed first reads listing → listing.stretch ≤ listing.line
listed-stretch first reads listing has = omega (arith, has.lines, has.stretch, count_by-le-length ends_stretch reads)
