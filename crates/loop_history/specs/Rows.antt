-- The loops that a block makes, row by row.
use Rattle.std.specs.Prelude.{ℕ, ◌+◌, ◌<◌, ◌≤◌, ◌^◌, nat_lt, List, All, length, filter, map}
use Rattle.std.specs.List.{AllPairs}
use Rattle.carriage_model.specs.declared.verdict.LoopFact.{LoopFact}
use Rattle.carriage_model.specs.Run.{Ended}
use Rattle.carriage_model.specs.Run.Ended.{Ends, Stops}
use Rattle.carriage_model.specs.State.{State}
use Rattle.face_data.specs.Segments.{Changed, OffsetFits, read_segs}
use Rattle.face_data.specs.Through.{through}
use Rattle.loop_history.specs.declared.row.LoopRow.{LoopRow}

-- the loop of a row, in a block that was entered in state s at line `first`
abbrev pub fact_of_row : State → ℕ → LoopRow → LoopFact
fact_of_row s first row = record { line = first + row.offset; needle = row.needle; dir = row.dir; yarns = row.yarns; through = read_segs s first row.through }

-- the loops of rows, in their order
abbrev pub facts_of_rows : State → ℕ → List LoopRow → List LoopFact
facts_of_rows s first rows = map (fact_of_row s first) rows

-- the rows whose loops a run makes that ends so, of a block that begins at line `first`: all of them, or those of the lines before the fault
abbrev pub rows_run : Ended → ℕ → List LoopRow → List LoopRow
rows_run (Ends s) first rows = rows
rows_run (Stops s fault) first rows = filter (λ (row : LoopRow). nat_lt (first + row.offset) fault.line) rows

-- each row is of an earlier line than those behind it
abbrev pub OffsetsRise : List LoopRow → Type 0
OffsetsRise rows = AllPairs (λ (earlier later : LoopRow). earlier.offset < later.offset) rows

-- the rows may stand in a table
pub record IsLoopTable (rows : List LoopRow) : Type 0 where
  pub few : length rows ≤ 4096
  pub rising : OffsetsRise rows

-- a row of a second text, told from the entry of a first one that makes these changes and has so many lines
abbrev pub row_through : List Changed → ℕ → LoopRow → LoopRow
row_through changes lines row = record row { offset = lines + row.offset; through = through changes lines row.through }

-- the row's lines have numbers of 32 bits, where so many lines stand before its text
pub record RowFits (lines : ℕ) (row : LoopRow) : Type 0 where
  pub offset : lines + row.offset < 2 ^ 32
  pub through : All (OffsetFits lines) row.through
