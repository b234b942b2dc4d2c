-- Pieces of a text, and what is made of them.
use Rattle.std.specs.Prelude.{◌≡◌, ℕ, ◌+◌, ◌*◌, ◌/◌, ◌≤◌, List, ◌++◌, All, length, map, slice_range}
use Rattle.knit_base.specs.declared.instr.Read.{Read}
use Rattle.knit_base.specs.declared.setting.Setting.{Setting}
use Rattle.knit_base.specs.Limits.{IsLawfulProfile}
use Rattle.face_data.specs.Composition.{composed}
use Rattle.face_data.specs.Summaries.{Summary}
use Rattle.loop_history.specs.declared.row.LoopRow.{LoopRow}
use Rattle.loop_history.specs.Rows.{row_through}
use Rattle.loop_history.specs.Tables.{IsRowOf}
use Rattle.block_summary.specs.Prepared.{AreReadings, IsMadeOf}
use Rattle.check_workers.specs.Faces.{AreOfOneMachine}

-- where the piece with this number begins, of so many pieces of so many lines
abbrev pub piece_start : ℕ → ℕ → ℕ → ℕ
piece_start lines pieces i = lines * i / pieces

-- the lines of the pieces from the one number to the other, which isn't counted
abbrev pub lines_of_pieces : List (List ℕ) → ℕ → ℕ → ℕ → List (List ℕ)
lines_of_pieces text pieces from to = slice_range text (piece_start (length text) pieces from) (piece_start (length text) pieces to)

-- these pieces, of so many, can be prepared
pub record CanCut (setting : Setting) (text : List (List ℕ)) (pieces from to : ℕ) : Type 0 where
  pub lawful : IsLawfulProfile setting.profile
  pub few : length text ≤ 4096
  pub some : 1 ≤ pieces
  pub most : pieces ≤ 64
  pub ordered : from ≤ to
  pub inside : to ≤ pieces

-- a face and a table
abbrev pub FaceAndLoops : Type 0
FaceAndLoops = Summary × List LoopRow

-- however the lines of the text are read, the face and the table are made of them
abbrev pub IsPieceOf : Setting → List (List ℕ) → FaceAndLoops → Type 0
IsPieceOf setting text part = (lines : List Read) → AreReadings setting.profile setting.declared text lines → IsMadeOf setting.profile (length setting.declared) part.0 part.1 lines

-- the parts of two texts, one behind the other, can be put together
pub record CanJoin (front back : FaceAndLoops) : Type 0 where
  pub machine : AreOfOneMachine front.0 back.0
  pub rows : All (IsRowOf front.0.lines) front.1
  pub later : All (IsRowOf back.0.lines) back.1
  pub few : front.0.lines + back.0.lines ≤ 4096
  pub few_rows : length front.1 + length back.1 ≤ 4096

-- the face is that of both, and the rows of the one behind are read through the first
pub record IsOfBoth (front back both : FaceAndLoops) : Type 0 where
  pub face : both.0 ≡ composed front.0 back.0
  pub loops : both.1 ≡ front.1 ++ map (row_through front.0.changes front.0.lines) back.1
