-- A table that stands for lines.
use Rattle.std.specs.Prelude.{◌≡◌, ℕ, ◌<◌, List, length, All}
use Rattle.knit_base.specs.declared.instr.Read.{Read}
use Rattle.knit_base.specs.declared.profile.Profile.{Profile}
use Rattle.carriage_model.specs.Loops.{loops_made}
use Rattle.carriage_model.specs.Run.{run}
use Rattle.carriage_model.specs.State.{State}
use Rattle.face_data.specs.declared.face.Seg.{Seg}
use Rattle.face_data.specs.declared.face.Seg.TheVariants.{Entry, New}
use Rattle.loop_history.specs.declared.row.LoopRow.{LoopRow}
use Rattle.loop_history.specs.Rows.{OffsetsRise, facts_of_rows, rows_run}

-- a segment that is a loop of the block's own is one of a line before this one
abbrev pub IsOfEarlier : ℕ → Seg → Type 0
IsOfEarlier offset (Entry n) = Unit {0}
IsOfEarlier offset (New earlier) = earlier < offset

-- the row is of one of so many lines, and is drawn through loops of earlier ones
pub record IsRowOf (lines : ℕ) (row : LoopRow) : Type 0 where
  pub within : row.offset < lines
  pub earlier : All (IsOfEarlier row.offset) row.through

-- The rows are those of the loops that these lines make, whatever the state at entry and whichever line is the first: of all of
-- them where the lines are carried out, and else of those before the first line that breaks a rule.
pub record TableStandsFor (profile : Profile) (rows : List LoopRow) (lines : List Read) : Type 0 where
  pub rising : OffsetsRise rows
  pub within : All (IsRowOf (length lines)) rows
  pub made : (s : State) (first : ℕ) → loops_made profile s first lines ≡ facts_of_rows s first (rows_run (run profile s first lines) first rows)
