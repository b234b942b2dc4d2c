-- That last needles aren't kept where floats have no limit, and that no verdict shows it.
use Rattle.std.specs.Prelude.{◌≡◌, ℕ, ℤ, ◌+◌, List, [], ◌∷◌, Option, None}
use Rattle.knit_base.specs.declared.instr.Read.{Read}
use Rattle.knit_base.specs.declared.instr.Read.TheVariants as read
use Rattle.knit_base.specs.declared.profile.Profile.{Profile}
use Rattle.knit_base.specs.declared.yarns.CarrierNo.{CarrierNo}
use Rattle.carriage_model.specs.declared.verdict.LoopFact.{LoopFact}
use Rattle.carriage_model.specs.declared.verdict.Verdict.{Verdict}
use Rattle.carriage_model.specs.Loops.{fact_made, loops_made, made_on}
use Rattle.carriage_model.specs.Rules.{broken}
use Rattle.carriage_model.specs.Run.{Ended, Ends, run, run_on}
use Rattle.carriage_model.specs.State.{State, empty_state}
use Rattle.carriage_model.specs.Steps.{given_lasts, step}
use Rattle.carriage_model.specs.Verdict.{IsVerdict}

-- the last needles that the line gives carriers, whether floats have a limit or not
abbrev pub lasts_noted : Read → (CarrierNo → Option ℤ) → CarrierNo → Option ℤ
lasts_noted (read.Instr instr) lasts = given_lasts instr lasts
lasts_noted r lasts = lasts

-- line k is carried out, and the last needles are always kept
abbrev pub keeping_step : Profile → ℕ → Read → State → State
keeping_step profile k r s = record (step profile k r s) { lasts = lasts_noted r s.lasts }

-- the run of the lines, of which the first is line k, with last needles that are always kept
abbrev pub keeping_run : Profile → State → ℕ → List Read → Ended
keeping_run profile s k [] = Ends s
keeping_run profile s k (r ∷ rs) = run_on k (broken profile r s) s (keeping_run profile (keeping_step profile k r s) (k + 1) rs)

-- the loops that this run makes
abbrev pub keeping_loops : Profile → State → ℕ → List Read → List LoopFact
keeping_loops profile s k [] = []
keeping_loops profile s k (r ∷ rs) = made_on (broken profile r s) (fact_made k r s) (keeping_loops profile (keeping_step profile k r s) (k + 1) rs)

-- of these lines, from empty beds, both runs make the same loops, and what is the verdict on one is that on the other
pub record AreToldAlike (profile : Profile) (first : ℕ) (reads : List Read) : Type 0 where
  pub loops : loops_made profile empty_state first reads ≡ keeping_loops profile empty_state first reads
  pub verdict : (lines : ℕ) (result : Verdict) → IsVerdict lines result (run profile empty_state first reads) (loops_made profile empty_state first reads)
      → IsVerdict lines result (keeping_run profile empty_state first reads) (keeping_loops profile empty_state first reads)

-- where floats have no limit, nobody can see whether last needles are kept
abbrev pub LastsAreUnseen : Type 0
LastsAreUnseen = (profile : Profile) (first : ℕ) (reads : List Read) → profile.float ≡ None → AreToldAlike profile first reads
