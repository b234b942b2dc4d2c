-- How far the reading of a form has come, and where it stops.
use Rattle.std.specs.Prelude.{◌≡◌, ℕ, ◌+◌, List, ◌∷◌, ◌++◌, length}
use Rattle.knit_base.specs.Lines.{HasNoLineEnd}
use Rattle.journal_file.specs.declared.fault.JournalCause.TheVariants.{BadLine, NoFit}
use Rattle.journal_file.specs.declared.fault.JournalFault.{JournalFault}
use Rattle.journal_file.specs.declared.fault.JournalFault.TheVariants.{At, NoMemory}
use Rattle.journal_file.specs.Grammars.{Lines, Form, FormStopsBehind}
use Rattle.journal_file.specs.Lines.{HasLines}

-- what is read has at most so many bytes
abbrev pub byte_limit : ℕ
byte_limit = 16777216

-- the first line of the bytes says this, and this stands behind it
pub record IsFirstLineTaken {A : Type 0} (L : A → List ℕ → Type 0) (bytes : List ℕ) (said : A) (rest : List ℕ) : Type 0 where
  pub line : List ℕ
  pub one : HasNoLineEnd line
  pub bytes_are : bytes ≡ line ++ 10 ∷ rest
  pub says : L said line

-- there is no first line that says anything of the kind
abbrev pub NoneTaken : {A : Type 0} → (A → List ℕ → Type 0) → List ℕ → Type 0
NoneTaken {A} L bytes = (line rest : List ℕ) → HasNoLineEnd line → bytes ≡ line ++ 10 ∷ rest → (a : A) → L a line → ⊥

-- some of the lines were read, and say this; the others are left
pub record Went {A : Type 0} (P : Form A) (lines : Lines) (last : List ℕ) (taken : ℕ) (said : A) (rest : List ℕ) (now : ℕ) : Type 0 where
  pub read : Lines
  pub more : Lines
  pub lines_are : lines ≡ read ++ more
  pub says : P said read
  pub left : HasLines rest more last
  pub counted : now ≡ taken + length read

-- the first lines of the bytes were read, behind so many others, and say this
abbrev pub FormHasRead : {A : Type 0} → Form A → List ℕ → ℕ → A → List ℕ → ℕ → Type 0
FormHasRead P bytes taken said rest now = (lines : Lines) (last : List ℕ) → HasLines bytes lines last → Went P lines last taken said rest now

-- the line with this number is the first with which no text of the form goes on, behind so many other lines
abbrev pub IsFormStop : {A : Type 0} → Form A → List ℕ → ℕ → ℕ → Type 0
IsFormStop P bytes taken number = (lines : Lines) (last : List ℕ) → HasLines bytes lines last → (k : ℕ) × (number ≡ taken + k + 1) × FormStopsBehind P lines k

-- the fault of bytes that are no text of the form; want of memory says nothing of them
abbrev pub IsFault : {A : Type 0} → Form A → List ℕ → ℕ → JournalFault → Type 0
IsFault P bytes taken (At number BadLine) = IsFormStop P bytes taken number
IsFault P bytes taken (At number NoFit) = ⊥
IsFault P bytes taken NoMemory = Unit {0}
