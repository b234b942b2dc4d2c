-- What `passes` reports of a sound program.
use Rattle.std.specs.Prelude.{◌≡◌, ℕ, List, []}
use Rattle.std.specs.List.{AllZip}
use Rattle.knit_base.specs.declared.instr.Read.{Read}
use Rattle.knit_base.specs.declared.profile.Profile.{Profile}
use Rattle.knitout_reader.specs.Reading.{ReadsAs}
use Rattle.carriage_model.specs.declared.verdict.Verdict.{Verdict}
use Rattle.carriage_model.specs.declared.verdict.LoopFact.{LoopFact}
use Rattle.pass_grouping.specs.declared.operation.PassOp.{PassOp}
use Rattle.pass_grouping.specs.declared.certificate.Window.{Window}
use Rattle.pass_grouping.specs.Groupings.{IsCertificate, IsFewest, between_starts}
use Rattle.pass_grouping.specs.Operations.{operations_after}
use Rattle.verdict_report.specs.PassesText.{passes_text}
use Rattle.input_answers.specs.declared.outcome.Status.TheVariants as status
use Rattle.file_run.specs.Bodies.{IsJudged, body_of, first_of}
use Rattle.input_answers.specs.CheckReport.{status_of}

-- each line of the body has the reading that the grammar gives it, and these are the carriage operations of these readings
pub record AreOperations (profile : Profile) (names lines : List (List ℕ)) (ops : List PassOp) : Type 0 where
  pub readings : List Read
  pub read : AllZip (ReadsAs profile names) (body_of lines) readings
  pub listed : ops ≡ operations_after (first_of lines) [] readings

-- The passes begin with these operations, there are no fewer, and these windows show it. Each window leads from a start to the next, so
-- each pass but the last is as long as it can be.
pub record AreFewest (ops : List PassOp) (starts : List ℕ) (windows : List Window) : Type 0 where
  pub fewest : IsFewest ops starts
  pub certificate : IsCertificate ops starts windows
  pub between : windows ≡ between_starts starts

-- the program is sound, and the text reports the fewest passes of its operations, with their certificate
pub record IsPassesReport (profile : Profile) (names lines : List (List ℕ)) (text : List ℕ) : Type 0 where
  pub verdict_given : Verdict
  pub made : List LoopFact
  pub judged : IsJudged profile names lines verdict_given made
  pub sound : status_of verdict_given ≡ status.Done
  pub operations : List PassOp
  pub listed : AreOperations profile names lines operations
  pub starts : List ℕ
  pub windows : List Window
  pub grouped : AreFewest operations starts windows
  pub reported : text ≡ passes_text names operations starts windows
