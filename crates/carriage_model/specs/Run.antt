-- A run of lines, one after the other.
use Rattle.std.specs.Prelude.{ℕ, ◌+◌, List, [], ◌∷◌, Option, None, Some}
use Rattle.knit_base.specs.declared.instr.Read.{Read}
use Rattle.knit_base.specs.declared.rule.Reason.{Reason}
use Rattle.knit_base.specs.declared.rule.Fault.{Fault}
use Rattle.knit_base.specs.declared.profile.Profile.{Profile}
use Rattle.carriage_model.specs.State.{State}
use Rattle.carriage_model.specs.Rules.{broken}
use Rattle.carriage_model.specs.Steps.{step}

-- how a run ends: with all lines carried out, or before the first line that breaks a rule
pub data Ended : Type 0 where
  Ends : State → Ended
  Stops : State → Fault → Ended

-- line k stops the run here if it breaks a rule, and else the run ends as the rest does
abbrev pub run_on : ℕ → Option Reason → State → Ended → Ended
run_on k None s rest = rest
run_on k (Some reason) s rest = Stops s (record { line = k; reason = reason })

-- the lines, of which the first is line k, are carried out from this state
abbrev pub run : Profile → State → ℕ → List Read → Ended
run profile s k [] = Ends s
run profile s k (r ∷ rs) = run_on k (broken profile r s) s (run profile (step profile k r s) (k + 1) rs)
