-- What `check` reports of a file.
use Rattle.std.specs.Prelude.{◌≡◌, ℕ, Bool, true, false, List, Option}
use Rattle.knit_base.specs.declared.profile.Profile.{Profile}
use Rattle.carriage_model.specs.declared.verdict.Verdict.{Verdict}
use Rattle.carriage_model.specs.declared.verdict.Verdict.TheVariants as verdict
use Rattle.carriage_model.specs.declared.verdict.LoopFact.{LoopFact}
use Rattle.carriage_model.specs.Loops.{loops_asked}
use Rattle.block_summary.specs.Verdicts.{broken_line}
use Rattle.file_run.specs.Bodies.{IsJudged}
use Rattle.verdict_report.specs.VerdictText.{verdict_text}
use Rattle.verdict_report.specs.VerdictJson.{verdict_json}
use Rattle.input_answers.specs.declared.outcome.Status.{Status}
use Rattle.input_answers.specs.declared.outcome.Status.TheVariants as status

-- the report of a verdict, as text or as JSON
abbrev pub report_of : Bool → List (List ℕ) → List ℕ → Verdict → Option (List LoopFact) → List ℕ
report_of false names line result loops = verdict_text names line result loops
report_of true names line result loops = verdict_json names line result loops

-- the status that says whether the program is sound
abbrev pub status_of : Verdict → Status
status_of (verdict.Sound final) = status.Done
status_of (verdict.Broken fault) = status.Broken

-- the text reports what one carriage makes of the lines, with the loops made and as JSON where that was asked for, and the
-- status says whether the program is sound
pub record IsCheckReport (profile : Profile) (loops json : Bool) (names lines : List (List ℕ)) (text : List ℕ) (result : Status) : Type 0 where
  pub verdict_given : Verdict
  pub made : List LoopFact
  pub judged : IsJudged profile names lines verdict_given made
  pub reported : text ≡ report_of json names (broken_line 1 lines verdict_given) verdict_given (loops_asked loops made)
  pub ended : result ≡ status_of verdict_given
