-- The verdict on a document, in short too, and the loop of a line: what one carriage makes of its lines, run one by one from empty beds.
use Rattle.std.specs.Prelude.{◌≡◌, ℕ, List, Option}
use Rattle.knit_base.specs.declared.instr.Read.{Read}
use Rattle.knit_base.specs.declared.setting.Setting.{Setting}
use Rattle.carriage_model.specs.declared.verdict.Brief.{Brief}
use Rattle.carriage_model.specs.declared.verdict.LoopFact.{LoopFact}
use Rattle.carriage_model.specs.declared.verdict.Verdict.{Verdict}
use Rattle.carriage_model.specs.Loops.{fact_of, loops_made}
use Rattle.carriage_model.specs.State.{empty_state}
use Rattle.carriage_model.specs.Verdict.{brief_of}
use Rattle.block_summary.specs.Prepared.{AreReadings}
use Rattle.block_summary.specs.Verdicts.{IsVerdictOn}
use Rattle.edit_journal.specs.declared.opening.Opening.{Opening}
use Rattle.edit_journal.specs.Documents.{Document}

-- these lines have this verdict, whatever loops they make
abbrev pub HasVerdict : Setting → List (List ℕ) → Verdict → Type 0
HasVerdict setting lines result = (loops : List LoopFact) × IsVerdictOn setting lines result loops

-- and this one in short
abbrev pub IsBriefOn : Setting → List (List ℕ) → Brief → Type 0
IsBriefOn setting lines brief = (result : Verdict) × HasVerdict setting lines result × (brief ≡ brief_of result)

-- the loop that the line with this number in the file makes before the first fault, if it makes one
pub record IsLoopOn (setting : Setting) (lines : List (List ℕ)) (line : ℕ) (fact : Option LoopFact) : Type 0 where
  pub readings : List Read
  pub read : AreReadings setting.profile setting.declared lines readings
  pub made : fact ≡ fact_of line (loops_made setting.profile empty_state setting.first readings)

-- what a document is read by: the setting of its opening, with the names that its header has
abbrev pub setting_of : Opening → Document → Setting
setting_of opening d = record { profile = opening.setting.profile; declared = d.header.names; first = opening.setting.first }
