-- The lines behind a file's head, and the verdict on them.
use Rattle.std.specs.Prelude.{ℕ, ◌+◌, List, drop}
use Rattle.knit_base.specs.declared.profile.Profile.{Profile}
use Rattle.knit_base.specs.declared.setting.Setting.{Setting}
use Rattle.knitout_reader.specs.Head.{head_len}
use Rattle.carriage_model.specs.declared.verdict.Verdict.{Verdict}
use Rattle.carriage_model.specs.declared.verdict.LoopFact.{LoopFact}
use Rattle.block_summary.specs.Verdicts.{IsVerdictOn}

-- the lines behind the head, and the number of the first of them in the file
abbrev pub body_of : List (List ℕ) → List (List ℕ)
body_of lines = drop (head_len lines) lines

abbrev pub first_of : List (List ℕ) → ℕ
first_of lines = head_len lines + 1

-- what the body is read by: the machine, the carriers, and the number of the body's first line
abbrev pub setting_for : Profile → List (List ℕ) → List (List ℕ) → Setting
setting_for profile names lines = record { profile = profile; declared = names; first = first_of lines }

-- the verdict on the file's body, and the loops that it makes: what one carriage makes of its lines, run one by one from empty beds
abbrev pub IsJudged : Profile → List (List ℕ) → List (List ℕ) → Verdict → List LoopFact → Type 0
IsJudged profile names lines result loops = IsVerdictOn (setting_for profile names lines) (body_of lines) result loops
