-- What the reading of a file comes to, whose lines are taken while it is read.
use Rattle.std.specs.Prelude.{◌≡◌, ◌≢◌, ℕ, ◌+◌, ◌≤◌, List, length}
use Rattle.std.specs.declared.option.Option.{Option}
use Rattle.std.specs.Io.KnownBytes.{Consumes, IsAtEnd}
use Rattle.knit_base.specs.Lines.{lines_of}
use Rattle.line_cutter.specs.declared.fault.CutFault.{CutFault}
use Rattle.line_cutter.specs.declared.fault.CutFault.TheVariants as refused
use Rattle.line_cutter.specs.Cut.{IsFirstBad}
use Rattle.knit_ports.specs.declared.limit.TheConstants.{INPUT_LIMIT}
use Rattle.knit_ports.specs.declared.file_reading.FileReading.{FileReading}
use Rattle.knit_ports.specs.declared.file_reading.FileReading.TheVariants.{Whole, Refused, TooLong}

-- the source gave this input, to its end, within the limit
pub record IsWholeFile (before after : Option (List ℕ)) (input : List ℕ) : Type 0 where
  pub consumed : Consumes before after input
  pub ended : IsAtEnd after
  pub within : length input ≤ INPUT_LIMIT

-- what is told of lines that a value has taken, by which it became another
abbrev pub TakingLines : Type 0 → Type 1
TakingLines T = List (List ℕ) → T → T → Type 0

-- the source gave a whole file, and all its lines were taken
pub record IsTakenFile (T : Type 0) (Took : TakingLines T) (start taker : T) (before after : Option (List ℕ)) : Type 0 where
  pub input : List ℕ
  pub whole : IsWholeFile before after input
  pub took : Took (lines_of input) start taker

-- the source gave a whole file, whose first bad line is named
pub record IsRefusedFile (fault : CutFault) (before after : Option (List ℕ)) : Type 0 where
  pub input : List ℕ
  pub whole : IsWholeFile before after input
  pub bad : IsFirstBad (lines_of input) fault
  pub named : fault ≢ refused.NoMemory

-- the source gave a byte more than the limit
pub record IsLongFile (before after : Option (List ℕ)) : Type 0 where
  pub input : List ℕ
  pub consumed : Consumes before after input
  pub past : length input ≡ INPUT_LIMIT + 1

-- what the reading of a file comes to
abbrev pub IsFileReading : (T : Type 0) → TakingLines T → T → Option (List ℕ) → Option (List ℕ) → FileReading T → Type 0
IsFileReading T Took start before after (Whole taker) = IsTakenFile T Took start taker before after
IsFileReading T Took start before after (Refused fault) = IsRefusedFile fault before after
IsFileReading T Took start before after TooLong = IsLongFile before after
