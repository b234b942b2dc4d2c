-- The lines of a file that come some at a time: of its head, and behind it of its body.
use Rattle.std.specs.Prelude.{◌≡◌, ◌≢◌, ℕ, ◌≤◌, ◌<◌, false, List, [], ◌∷◌, ◌++◌, length, take, drop, All}
use Rattle.knit_base.specs.Lines.{lines_of}
use Rattle.line_cutter.specs.Cut.{IsPlaceBehind, IsGoodLine}
use Rattle.knitout_reader.specs.declared.head.Head.{Head}
use Rattle.knitout_reader.specs.declared.head.HeadFault.{HeadFault}
use Rattle.knitout_reader.specs.declared.head.HeadFault.TheVariants.{NoMemory}
use Rattle.knitout_reader.specs.declared.head_reader.HeadReader.{HeadReader}
use Rattle.knitout_reader.specs.declared.file_reader.Stage.{Stage}
use Rattle.knitout_reader.specs.declared.file_reader.Stage.TheVariants.{InHead, InBody, Refused}
use Rattle.knitout_reader.specs.declared.file_reader.FileReader.{FileReader}
use Rattle.knitout_reader.specs.declared.file_reader.ReadFile.{ReadFile}
use Rattle.knitout_reader.specs.Head.{IsHead, IsHeadFault, is_head_line}
use Rattle.knitout_reader.specs.HeadLines.{HasHeadLines}

-- what is told of lines of a head that a work has seen, by which it became another
abbrev pub Seeing : Type 0 → Type 1
Seeing W = List (List ℕ) → W → W → Type 0

-- what is told of lines of a file with this head that a work has taken, by which it became another
abbrev pub TakingFileLines : Type 0 → Type 1
TakingFileLines W = Head → List (List ℕ) → W → W → Type 0

-- all lines are lines of the head, and the work has seen them
pub record ReadsHead (W : Type 0) (Saw : Seeing W) (lines : List (List ℕ)) (start now : W) (reader : HeadReader) : Type 0 where
  pub read : HasHeadLines lines reader
  pub seen : Saw lines start now

-- The head is known by some lines, whatever stands behind them, and the work has taken it and lines of the body.
pub record ReadsBody (W : Type 0) (Took : TakingFileLines W) (known lines : List (List ℕ)) (start now : W) (head : Head) : Type 0 where
  pub head_is : (more : List (List ℕ)) → IsHead (known ++ more) head
  pub within : head.lines ≤ length lines
  pub taken : Took head lines start now

-- The head is refused by some lines, whatever stands behind them.
pub record IsRefusedBy (known : List (List ℕ)) (fault : HeadFault) : Type 0 where
  pub refused : (more : List (List ℕ)) → IsHeadFault (known ++ more) fault
  pub named : fault ≢ NoMemory

-- how far a file is read whose first lines are these
abbrev pub FileStandsAt : (W : Type 0) → Seeing W → TakingFileLines W → List (List ℕ) → W → W → Stage → Type 0
FileStandsAt W Saw Took lines start now (InHead reader) = ReadsHead W Saw lines start now reader
FileStandsAt W Saw Took lines start now (InBody head) = ReadsBody W Took lines lines start now head
FileStandsAt W Saw Took lines start now (Refused fault) = IsRefusedBy lines fault

-- these lines were taken, all of them good, and the work has become another
pub record HasReadLines (W : Type 0) (Saw : Seeing W) (Took : TakingFileLines W) (lines : List (List ℕ)) (start now : FileReader W) : Type 0 where
  pub counted : now.lines ≡ length lines
  pub good : All IsGoodLine lines
  pub stage : FileStandsAt W Saw Took lines start.work now.work now.stage

-- The file with these lines was read to its end: its head, and the work that has taken all lines.
pub record IsReadFile (W : Type 0) (Took : TakingFileLines W) (lines : List (List ℕ)) (start : W) (file : ReadFile W) : Type 0 where
  pub head_is : IsHead lines file.head
  pub good : All IsGoodLine lines
  pub counted : file.lines ≡ length lines
  pub taken : Took file.head lines start file.work

-- the head of a file with these lines, all of them good, is refused
pub record HasRefusedHead (lines : List (List ℕ)) (fault : HeadFault) : Type 0 where
  pub refused : IsHeadFault lines fault
  pub good : All IsGoodLine lines

-- how far a file is read whose first lines are these, of which those that come next are known, too
abbrev pub StandsBefore : (W : Type 0) → Seeing W → TakingFileLines W → List (List ℕ) → List (List ℕ) → W → W → Stage → Type 0
StandsBefore W Saw Took lines next start now (InHead reader) = ReadsHead W Saw lines start now reader × (next ≡ [])
StandsBefore W Saw Took lines next start now (InBody head) = ReadsBody W Took (lines ++ next) lines start now head
StandsBefore W Saw Took lines next start now (Refused fault) = IsRefusedBy (lines ++ next) fault

-- These lines were taken, and the lines that come next don't go on with the head.
pub record HasReadFront (W : Type 0) (Saw : Seeing W) (Took : TakingFileLines W) (lines next : List (List ℕ))
    (start now : FileReader W) : Type 0 where
  pub counted : now.lines ≡ length lines
  pub good : All IsGoodLine lines
  pub stage : StandsBefore W Saw Took lines next start.work now.work now.stage

-- behind such lines the lines of the text up to this place were taken, and those behind it don't go on with the head
pub record EntersText (W : Type 0) (Saw : Seeing W) (Took : TakingFileLines W) (lines : List (List ℕ)) (text : List ℕ) (next : ℕ)
    (start now : FileReader W) : Type 0 where
  pub front : List (List ℕ)
  pub parts : lines_of text ≡ front ++ lines_of (drop next text)
  pub few : length front ≤ length text
  pub good : All IsGoodLine front
  pub read : HasReadFront W Saw Took (lines ++ front) (lines_of (drop next text)) start now

-- lines with which a head doesn't go on
pub record BeginBody (lines : List (List ℕ)) : Type 0 where
  pub first : List ℕ
  pub more : List (List ℕ)
  pub lines_are : lines ≡ first ∷ more
  pub outside : is_head_line first ≡ false

-- So many lines of the text, up to this place, go on with the head, and the work saw them.
pub record ReadsFront (W : Type 0) (Saw : Seeing W) (text : List ℕ) (count next : ℕ)
    (old new : HeadReader) (was is : W) : Type 0 where
  pub behind : IsPlaceBehind text count next
  pub read : (lines : List (List ℕ)) → HasHeadLines lines old → HasHeadLines (lines ++ take count (lines_of text)) new
  pub seen : (start : W) (lines : List (List ℕ)) → Saw lines start was → Saw (lines ++ take count (lines_of text)) start is

-- the same up to the first line that isn't of the head
pub record ReadsWholeFront (W : Type 0) (Saw : Seeing W) (text : List ℕ) (count next : ℕ)
    (old new : HeadReader) (was is : W) : Type 0 where
  pub front : ReadsFront W Saw text count next old new was is
  pub ended : next < length text → BeginBody (lines_of (drop next text))
