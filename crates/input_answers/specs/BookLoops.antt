-- The loops of a file that is judged by blocks. No public contract speaks of them.
use Rattle.std.specs.Prelude.{◌≡◌, ℕ, List}
use Rattle.knit_base.specs.declared.instr.Read.{Read}
use Rattle.knit_base.specs.declared.setting.Setting.{Setting}
use Rattle.carriage_model.specs.declared.verdict.LoopFact.{LoopFact}
use Rattle.carriage_model.specs.Loops.{loops_made}
use Rattle.carriage_model.specs.State.{empty_state}
use Rattle.block_summary.specs.Prepared.{AreReadings}

-- the loops that these lines make
pub record AreLoopsOn (setting : Setting) (lines : List (List ℕ)) (loops : List LoopFact) : Type 0 where
  pub readings : List Read
  pub read : AreReadings setting.profile setting.declared lines readings
  pub made : loops ≡ loops_made setting.profile empty_state setting.first readings
