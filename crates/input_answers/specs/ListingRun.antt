-- What a listing takes of the lines of a file one by one, and what passes say. No public contract speaks of it.
use Rattle.std.specs.Prelude.{◌≡◌, ℕ, List, [], ◌∷◌, ◌++◌}
use Rattle.knit_base.specs.declared.instr.Read.{Read}
use Rattle.knit_base.specs.declared.profile.Profile.{Profile}
use Rattle.knitout_reader.specs.Reading.{ReadsAs}
use Rattle.pass_grouping.specs.declared.listing.Listing.{Listing}
use Rattle.pass_grouping.specs.declared.operation.PassOp.{PassOp}
use Rattle.pass_grouping.specs.declared.certificate.Window.{Window}
use Rattle.pass_grouping.specs.declared.growing.Counts.{Counts}
use Rattle.pass_grouping.specs.Listings.{HasListed}
use Rattle.pass_grouping.specs.Told.{AreOperationCounts}
use Rattle.verdict_report.specs.PassesText.{passes_text}
use Rattle.file_run.specs.Runs.{TakingReads}
use Rattle.input_answers.specs.PassesReport.{AreFewest, AreOperations}

-- a value took what this line says as one more of the readings that it had taken
pub record TakesLine (T : Type 0) (Has : TakingReads T) (profile : Profile) (names : List (List ℕ)) (line : List ℕ) (old new : T) : Type 0 where
  pub reading : Read
  pub read : ReadsAs profile names line reading
  pub taken : (first : ℕ) (before : List Read) → Has first before old → Has first (before ++ reading ∷ []) new

-- what a listing takes
abbrev pub ListsLine : Profile → List (List ℕ) → List ℕ → Listing → Listing → Type 0
ListsLine = TakesLine Listing HasListed

-- these are the counts of the file's operations
pub record AreCountedIn (profile : Profile) (names lines : List (List ℕ)) (counts : Counts) : Type 0 where
  pub ops : List PassOp
  pub listed : AreOperations profile names lines ops
  pub counted : AreOperationCounts ops counts

-- the text reports the fewest passes of these operations
pub record ReportsPasses (names : List (List ℕ)) (ops : List PassOp) (text : List ℕ) : Type 0 where
  pub starts : List ℕ
  pub windows : List Window
  pub grouped : AreFewest ops starts windows
  pub reported : text ≡ passes_text names ops starts windows
