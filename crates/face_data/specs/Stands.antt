-- A summary that stands for lines.
use Rattle.std.specs.Prelude.{◌≡◌, ℕ, List, length}
use Rattle.knit_base.specs.declared.instr.Read.{Read}
use Rattle.knit_base.specs.declared.profile.Profile.{Profile}
use Rattle.carriage_model.specs.Loops.{loops_made}
use Rattle.carriage_model.specs.Run.{Ended, run}
use Rattle.carriage_model.specs.Run.Ended.{Ends, Stops}
use Rattle.carriage_model.specs.State.{State}
use Rattle.face_data.specs.Summaries.{Summary, Outcome, summary_outcome}
use Rattle.face_data.specs.Summaries.Outcome.{went_on, faulted}

-- how a run ends, without the state in which it stops
abbrev pub outcome_of_run : Ended → Outcome
outcome_of_run (Ends s) = went_on s
outcome_of_run (Stops s fault) = faulted fault

-- The summary has as many lines as these, and does what they do, whatever the state at entry and whichever line is the first.
-- Where they are all carried out they make so many loops as it says.
pub record StandsFor (profile : Profile) (summary : Summary) (lines : List Read) : Type 0 where
  pub lines_are : summary.lines ≡ length lines
  pub outcome : (s : State) (first : ℕ) → summary_outcome summary s first ≡ outcome_of_run (run profile s first lines)
  pub made_are : (s t : State) (first : ℕ) → run profile s first lines ≡ Ends t → length (loops_made profile s first lines) ≡ summary.made
