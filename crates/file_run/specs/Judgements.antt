-- Verdicts with the loops that were asked for.
use Rattle.std.specs.Prelude.{◌≡◌, ℕ, Bool, List}
use Rattle.knit_base.specs.declared.profile.Profile.{Profile}
use Rattle.knit_base.specs.declared.setting.Setting.{Setting}
use Rattle.carriage_model.specs.declared.verdict.LoopFact.{LoopFact}
use Rattle.carriage_model.specs.Loops.{loops_asked}
use Rattle.block_summary.specs.Verdicts.{IsVerdictOn}
use Rattle.file_run.specs.declared.judgement.Judgement.{Judgement}
use Rattle.file_run.specs.Bodies.{body_of, setting_for}

-- the verdict on these lines, with the loops made where these are asked for
pub record IsJudgementOn (with_loops : Bool) (setting : Setting) (lines : List (List ℕ)) (judgement : Judgement) : Type 0 where
  pub made : List LoopFact
  pub judged : IsVerdictOn setting lines judgement.verdict made
  pub loops : judgement.loops ≡ loops_asked with_loops made

-- what one carriage makes of the file's lines, with the loops made where these are asked for
abbrev pub IsJudgement : Bool → Profile → List (List ℕ) → List (List ℕ) → Judgement → Type 0
IsJudgement with_loops profile names lines judgement = IsJudgementOn with_loops (setting_for profile names lines) (body_of lines) judgement
