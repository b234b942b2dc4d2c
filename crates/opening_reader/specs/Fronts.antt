-- What is kept of an opening while its lines are heard. No public contract speaks of it.
use Rattle.std.specs.Prelude.{◌≡◌, ℕ, ◌+◌, ◌<◌, ◌≤◌, All, List, [], ◌∷◌, ◌++◌, length, map, drop, Option, Some, None, Result, Ok, Err}
use Rattle.knit_base.specs.Lines.{IsLine, without_return}
use Rattle.knit_ports.specs.declared.limit.TheConstants.{HEARD_LIMIT}
use Rattle.line_cutter.specs.declared.line.TheConstants.{LINE_LIMIT}
use Rattle.opening_reader.specs.HeardOpenings.{last_line}
use Rattle.opening_reader.specs.Openings.{AreReadableLines, AskFor, CantStand, IsOpeningFront, IsNextText, AreOpeningLines, IsTooMuch, bytes_of, cause_at_end, limit_of, told_in}
use Rattle.opening_reader.specs.declared.front.Front.{Front}
use Rattle.opening_reader.specs.declared.front.TheConstants.{OPENING_LIMIT}
use Rattle.opening_reader.specs.declared.opening.OpeningFault.{OpeningFault}
use Rattle.opening_reader.specs.declared.opening.OpeningFault.TheVariants as fault
use Rattle.opening_reader.specs.declared.opening.OpeningText.{OpeningText}
use Rattle.opening_reader.specs.declared.opening.Wanted.{Wanted}
use Rattle.script_reader.specs.declared.fault.Cause.{Cause}

-- more lines are wanted
abbrev pub IsOpeningUnfinished : Option Wanted → Type 0
IsOpeningUnfinished None = Unit {0}
IsOpeningUnfinished (Some wanted) = 0 < wanted.missing

-- this is wanted behind the lines, which isn't known before the first
abbrev pub IsWanted : List (List ℕ) → Option Wanted → Type 0
IsWanted lines None = lines ≡ []
IsWanted lines (Some wanted) = AskFor lines wanted.kind wanted.missing

-- so long the next line may be
abbrev pub limit_for : Option Wanted → ℕ
limit_for None = LINE_LIMIT
limit_for (Some wanted) = limit_of wanted.kind

-- what the lines behind the first tell
abbrev pub lines_told_by : Option Wanted → List (List ℕ) → List (List ℕ)
lines_told_by None lines = []
lines_told_by (Some wanted) lines = told_in wanted.kind lines

-- the front tells these lines, and this is their text
pub record HoldsFront (front : Front) (lines text : List (List ℕ)) : Type 0 where
  pub counted : front.lines ≡ length lines
  pub bytes : front.bytes ≡ bytes_of lines
  pub good : AreReadableLines lines
  pub wanted : IsWanted lines front.wanted
  pub text_is : text ≡ lines_told_by front.wanted (drop 1 lines)
  pub texts : All IsLine text
  pub short : All (λ line. length line ≤ HEARD_LIMIT) text

-- its numbers are small enough for one more line
pub record HasLineRoom (front : Front) (text : List (List ℕ)) : Type 0 where
  pub texts : length text ≤ front.lines
  pub lines : front.lines ≤ front.bytes
  pub bytes : front.bytes ≤ OPENING_LIMIT

-- its numbers are those of the lines with one more, and these aren't too long
pub record IsFrontCounted (front : Front) (lines : List (List ℕ)) (line : List ℕ) : Type 0 where
  pub counted : front.lines ≡ length lines + 1
  pub bytes : front.bytes ≡ bytes_of (lines ++ line ∷ [])
  pub good : AreReadableLines (lines ++ line ∷ [])

-- the line can't be taken behind these
abbrev pub StopsAt : List (List ℕ) → List ℕ → OpeningFault → Type 0
StopsAt lines line (fault.At number cause) = (number ≡ length lines + 1) × CantStand lines line cause
StopsAt lines line fault.TooManyBytes = IsTooMuch lines line
StopsAt lines line fault.Failed = ⊥
StopsAt lines line fault.NoMemory = IsNextText lines line

-- the line is taken behind these, or it can't be
abbrev pub IsOpeningLineTaken : Result Front OpeningFault → List (List ℕ) → List (List ℕ) → List ℕ → Type 0
IsOpeningLineTaken (Ok front) text lines line = HoldsFront front (lines ++ line ∷ []) text
IsOpeningLineTaken (Err fault) text lines line = StopsAt lines line fault

-- these texts are lines, short ones, and not too many
pub record AreOpeningTexts (text : List (List ℕ)) : Type 0 where
  pub texts : All IsLine text
  pub short : All (λ line. length line ≤ HEARD_LIMIT) text
  pub few : length text ≤ 16777216

-- the lines are an opening
pub record IsWholeOpening (lines : List (List ℕ)) (opening : OpeningText) : Type 0 where
  pub counted : opening.lines ≡ length lines
  pub is_opening : AreOpeningLines lines opening.kind opening.text
  pub texts : AreOpeningTexts opening.text

-- The input ended behind these lines and a last one, which has no line feed and is one where it has bytes: it can't be taken, or no opening
-- is whole with it.
pub data StopsAtEnd (lines : List (List ℕ)) (last : List ℕ) (number : ℕ) (cause : Cause) : Type 0 where
  at_last : 0 < length last → StopsAt lines (without_return last) (fault.At number cause) → StopsAtEnd lines last number cause
  behind_last : (all : List (List ℕ)) → all ≡ lines ++ map without_return (last_line last) → IsOpeningFront all → number ≡ length all + 1
      → cause ≡ cause_at_end all → StopsAtEnd lines last number cause

-- what is told there
abbrev pub IsFinished : Result OpeningText OpeningFault → List (List ℕ) → List ℕ → Type 0
IsFinished (Ok opening) lines last = (0 < length last) × IsWholeOpening (lines ++ without_return last ∷ []) opening
IsFinished (Err (fault.At number cause)) lines last = StopsAtEnd lines last number cause
IsFinished (Err fault.TooManyBytes) lines last = (0 < length last) × IsTooMuch lines (without_return last)
IsFinished (Err fault.Failed) lines last = ⊥
IsFinished (Err fault.NoMemory) lines last = (0 < length last) × IsNextText lines (without_return last)
