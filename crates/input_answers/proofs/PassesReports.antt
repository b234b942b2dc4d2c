-- What `passes` reports, from what the parts of the program say.
use Rattle.std.proofs.Common.{◌≡◌, ℕ, Bool, List}
use Rattle.knit_base.specs.declared.profile.Profile.{Profile}
use Rattle.pass_grouping.specs.declared.operation.PassOp.{PassOp}
use Rattle.file_run.specs.declared.judgement.Judgement.{Judgement}
use Rattle.input_answers.specs.declared.outcome.Status.TheVariants as status
use Rattle.file_run.specs.Judgements.{IsJudgement}
use Rattle.input_answers.specs.CheckReport.{status_of}
use Rattle.input_answers.specs.ListingRun.{ReportsPasses}
use Rattle.input_answers.specs.PassesReport.{AreOperations, IsPassesReport}

-- the report on the passes of a sound program
pub passes-report : (profile : Profile) (loops : Bool) (names lines : List (List ℕ)) (text : List ℕ) (judgement : Judgement) (ops : List PassOp)
    → IsJudgement loops profile names lines judgement → status_of judgement.verdict ≡ status.Done → AreOperations profile names lines ops → ReportsPasses names ops text
    → IsPassesReport profile names lines text
passes-report profile loops names lines text judgement ops is sound listed report = record {
  verdict_given = judgement.verdict;
  made = is.made;
  judged = is.judged;
  sound = sound;
  operations = ops;
  listed = listed;
  starts = report.starts;
  windows = report.windows;
  grouped = report.grouped;
  reported = report.reported;
}
