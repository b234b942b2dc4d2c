-- The operations of the lines of a file as they are listed or counted.
use Rattle.std.proofs.Common.{◌≡◌, ℕ, ◌+◌, ◌<◌, ◌≤◌, List, [], ◌∷◌, ◌++◌, length, drop, slice_get, Some, ap, subst, ◌∙◌, refl, arith}
use Rattle.std.specs.List.{AllZip}
use Rattle.knit_base.specs.declared.instr.Read.{Read}
use Rattle.knit_base.specs.declared.profile.Profile.{Profile}
use Rattle.knitout_reader.specs.declared.head.Head.{Head}
use Rattle.knitout_reader.specs.Head.{IsHead}
use Rattle.knitout_reader.specs.Reading.{ReadsAs}
use Rattle.knitout_reader.proofs.BodyReadings.{ReadSoFar, read-none, read-more, read-all}
use Rattle.pass_grouping.specs.declared.listing.Listing.{Listing}
use Rattle.pass_grouping.specs.declared.operation.PassOp.{PassOp}
use Rattle.pass_grouping.specs.Listings.{HasListed, IsOperationListing, next_listing_line}
use Rattle.pass_grouping.specs.Operations.{operations_after}
use Rattle.file_run.specs.Bodies.{first_of}
use Rattle.file_run.specs.Runs.{HasTakenAll, TakingReads}
use Rattle.input_answers.specs.ListingRun.{ListsLine, TakesLine}
use Rattle.input_answers.specs.PassesReport.{AreOperations}

-- the lines behind the head were taken up to this place
pub record HasTakenBody (T : Type 0) (Has : TakingReads T) (profile : Profile) (names lines : List (List ℕ)) (from i : ℕ) (taker : T) : Type 0 where
  pub readings : List Read
  pub so_far : ReadSoFar (λ line r. ReadsAs profile names line r) (λ r. Unit {0}) lines from i readings
  pub taken : Has (from + 1) readings taker

abbrev pub HasBodyListing : Profile → List (List ℕ) → List (List ℕ) → ℕ → ℕ → Listing → Type 0
HasBodyListing = HasTakenBody Listing HasListed

taken_body-none : (T : Type 0) (Has : TakingReads T) (profile : Profile) (names lines : List (List ℕ)) (from : ℕ) (taker : T) → Has (from + 1) [] taker → HasTakenBody T Has profile names lines from from taker
taken_body-none T Has profile names lines from taker new = record { readings = []; so_far = read-none _ _ lines from; taken = new }

-- the next line is taken
taken_body-more : (T : Type 0) (Has : TakingReads T) (profile : Profile) (names lines : List (List ℕ)) (from i : ℕ) (old new : T) (line : List ℕ)
    → HasTakenBody T Has profile names lines from i old → i < length lines → slice_get lines i ≡ Some line → TakesLine T Has profile names line old new
    → HasTakenBody T Has profile names lines from (i + 1) new
taken_body-more T Has profile names lines from i old new line here within found next = record {
  readings = here.readings ++ next.reading ∷ [];
  so_far = read-more _ _ lines from i here.readings (here.readings ++ next.reading ∷ []) line next.reading here.so_far within found next.read tt refl;
  taken = next.taken (from + 1) here.readings here.taken;
}

-- all lines were taken
taken_body-all : (T : Type 0) (Has : TakingReads T) (profile : Profile) (lines : List (List ℕ)) (head : Head) (i : ℕ) (taker : T) → IsHead lines head → length lines ≤ i
    → HasTakenBody T Has profile head.declared lines head.lines i taker → HasTakenAll T Has profile head.declared lines taker
taken_body-all T Has profile lines head i taker is past here =
    let all : AllZip (λ line r. ReadsAs profile head.declared line r) (drop head.lines lines) here.readings = (read-all _ _ lines head.lines i here.readings past here.so_far).0 in
    record {
      readings = here.readings;
      read = subst (λ ls. AllZip (λ line r. ReadsAs profile head.declared line r) ls here.readings) (ap (λ h. drop h lines) is.len) all;
      taken = subst (λ h. Has (h + 1) here.readings taker) is.len here.taken;
    }

pub body_listing-none : (profile : Profile) (names lines : List (List ℕ)) (from : ℕ) (listing : Listing)
    → HasListed (from + 1) [] listing → HasBodyListing profile names lines from from listing
body_listing-none profile names lines from listing new = taken_body-none Listing HasListed profile names lines from listing new

pub body_listing-more : (profile : Profile) (names lines : List (List ℕ)) (from i : ℕ) (old new : Listing) (line : List ℕ)
    → HasBodyListing profile names lines from i old → i < length lines → slice_get lines i ≡ Some line → ListsLine profile names line old new
    → HasBodyListing profile names lines from (i + 1) new
body_listing-more profile names lines from i old new line here within found next = taken_body-more Listing HasListed profile names lines from i old new line here within found next

-- the listing is ready for a line more
pub body_listing-ready : (profile : Profile) (names lines : List (List ℕ)) (from i : ℕ) (listing : Listing) → HasBodyListing profile names lines from i listing → IsOperationListing listing
body_listing-ready profile names lines from i listing here = (from + 1, here.readings, here.taken)

-- the number of the next line
pub body_listing-next : (profile : Profile) (names lines : List (List ℕ)) (from i : ℕ) (listing : Listing) → HasBodyListing profile names lines from i listing → next_listing_line listing ≡ i + 1
body_listing-next profile names lines from i listing here = omega (arith, here.taken.lines, here.so_far.counted)

-- the operations of lines that were all listed
all-listed : (profile : Profile) (names lines : List (List ℕ)) (listing : Listing) (ops : List PassOp) → HasTakenAll Listing HasListed profile names lines listing
    → ((first : ℕ) (reads : List Read) → HasListed first reads listing → ops ≡ operations_after first [] reads)
    → AreOperations profile names lines ops
all-listed profile names lines listing ops all tells = record {
  readings = all.readings;
  read = all.read;
  listed = tells (first_of lines) all.readings all.taken;
}

pub body_listing-all : (profile : Profile) (lines : List (List ℕ)) (head : Head) (i : ℕ) (listing : Listing) (ops : List PassOp) → IsHead lines head → length lines ≤ i
    → HasBodyListing profile head.declared lines head.lines i listing → ((first : ℕ) (reads : List Read) → HasListed first reads listing → ops ≡ operations_after first [] reads)
    → AreOperations profile head.declared lines ops
body_listing-all profile lines head i listing ops is past here tells =
    all-listed profile head.declared lines listing ops (taken_body-all Listing HasListed profile lines head i listing is past here) tells
