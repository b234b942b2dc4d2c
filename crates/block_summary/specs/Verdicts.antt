-- The verdict on lines: what one carriage makes of them, run one by one from empty beds.
use Rattle.std.specs.Prelude.{◌≡◌, ℕ, ◌-◌, List, [], length, unwrap_or, slice_get}
use Rattle.knit_base.specs.declared.instr.Read.{Read}
use Rattle.knit_base.specs.declared.setting.Setting.{Setting}
use Rattle.carriage_model.specs.declared.verdict.LoopFact.{LoopFact}
use Rattle.carriage_model.specs.declared.verdict.Verdict.{Verdict}
use Rattle.carriage_model.specs.declared.verdict.Verdict.TheVariants.{Sound, Broken}
use Rattle.carriage_model.specs.Loops.{loops_made}
use Rattle.carriage_model.specs.Run.{run}
use Rattle.carriage_model.specs.State.{empty_state}
use Rattle.carriage_model.specs.Verdict.{IsVerdict}
use Rattle.block_summary.specs.Prepared.{AreReadings}

-- The verdict on these lines, and the loops that they make: each line has the reading that the grammar gives it, and one carriage runs
-- these readings one by one from empty beds.
pub record IsVerdictOn (setting : Setting) (lines : List (List ℕ)) (result : Verdict) (loops : List LoopFact) : Type 0 where
  pub readings : List Read
  pub read : AreReadings setting.profile setting.declared lines readings
  pub made : loops ≡ loops_made setting.profile empty_state setting.first readings
  pub judged : IsVerdict (length lines) result (run setting.profile empty_state setting.first readings) loops

-- the line with this number, of lines of which the first has that one, or no text
abbrev pub numbered_line : ℕ → List (List ℕ) → ℕ → List ℕ
numbered_line first lines number = unwrap_or (slice_get lines (number - first)) []

-- the line at which a verdict is broken, of lines of which the first has this number, or no text
abbrev pub broken_line : ℕ → List (List ℕ) → Verdict → List ℕ
broken_line first lines (Sound final) = []
broken_line first lines (Broken fault) = numbered_line first lines fault.line
