-- What was heard of a conversation for its opening, up to where, and what is told of it.
use Rattle.std.specs.Prelude.{◌≡◌, ℕ, ◌+◌, ◌-◌, ◌^◌, ◌<◌, ◌≤◌, All, List, [], ◌∷◌, ◌++◌, length, map, flat_map, Result, Ok, Err}
use Rattle.knit_base.specs.Lines.{HasNoLineEnd, without_return}
use Rattle.knit_ports.specs.Faults.{Rose}
use Rattle.knit_ports.specs.Pieces.{Piece, Heard, Said, heard_in}
use Rattle.knit_ports.specs.WholeLines.{whole_lines, with_feed}
use Rattle.opening_reader.specs.Openings.{CantStand, IsOpeningFront, IsNextText, AreOpeningLines, IsTooMuch, cause_at_end}
use Rattle.opening_reader.specs.declared.opening.OpeningFault.{OpeningFault}
use Rattle.opening_reader.specs.declared.opening.OpeningFault.TheVariants as fault
use Rattle.opening_reader.specs.declared.opening.OpeningText.{OpeningText}
use Rattle.script_reader.specs.declared.fault.Cause.{Cause}

-- Nothing was said, and each time that more was heard, behind these bytes, fewer whole lines than so many had been heard.
abbrev pub IsAwaited : ℕ → List ℕ → List Piece → Type 0
IsAwaited count heard [] = Unit {0}
IsAwaited count heard (Heard bytes ∷ pieces) = (length (whole_lines heard) < count) × IsAwaited count (heard ++ bytes) pieces
IsAwaited count heard (Said bytes ∷ pieces) = ⊥

-- These whole lines were heard as they came, and behind them these bytes; and more was waited for only until so many whole lines were
-- there.
pub record ArePiecesHeard (pieces : List Piece) (came : List (List ℕ)) (rest : List ℕ) (count : ℕ) : Type 0 where
  pub heard : heard_in pieces ≡ flat_map with_feed came ++ rest
  pub ones : All HasNoLineEnd came
  pub awaited : IsAwaited count [] pieces

-- The end of the input was heard, and nothing is pending; or so many pieces were heard that no more are, the last of which may be pending.
pub data IsHearingOver (pieces : List Piece) (pending : List ℕ) : Type 0 where
  at_end : (before : List Piece) → pieces ≡ before ++ Heard [] ∷ [] → pending ≡ [] → IsHearingOver pieces pending
  endless : 2 ^ 64 - 1 ≤ length pieces → IsHearingOver pieces pending

-- a last line, which has no line feed, if there are bytes
abbrev pub last_line : List ℕ → List (List ℕ)
last_line [] = []
last_line (byte ∷ bytes) = (byte ∷ bytes) ∷ []

-- All lines of the input were heard. Behind those that have a line feed these bytes have none, which are a line if there are any.
pub record AreAll (pieces : List Piece) (lines : List (List ℕ)) (last pending : List ℕ) : Type 0 where
  pub came : List (List ℕ)
  pub lines_are : lines ≡ map without_return (came ++ last_line last)
  pub heard : ArePiecesHeard pieces came (last ++ pending) (length came + 1)
  pub one : HasNoLineEnd last
  pub over : IsHearingOver pieces pending

-- These lines were heard, each without a carriage return at its end, and these bytes are pending behind them; no more was waited for behind
-- the last line feed, or behind a last line without one.
pub data AreLinesHeard (pieces : List Piece) (lines : List (List ℕ)) (pending : List ℕ) : Type 0 where
  whole : (came : List (List ℕ)) → lines ≡ map without_return came → ArePiecesHeard pieces came pending (length came)
      → AreLinesHeard pieces lines pending
  broken_off : (last : List ℕ) → 0 < length last → AreAll pieces lines last pending → AreLinesHeard pieces lines pending

-- the lines that were heard are an opening
pub record IsOpened (pieces : List Piece) (pending : List ℕ) (opening : OpeningText) : Type 0 where
  pub lines : List (List ℕ)
  pub heard : AreLinesHeard pieces lines pending
  pub counted : opening.lines ≡ length lines
  pub is_opening : AreOpeningLines lines opening.kind opening.text

-- The last of the lines that were heard has this relation to those before it, with which an opening begins.
pub record EndsIn (pieces : List Piece) (pending : List ℕ) (IsLast : List (List ℕ) → List ℕ → Type 0) : Type 0 where
  pub lines : List (List ℕ)
  pub line : List ℕ
  pub heard : AreLinesHeard pieces (lines ++ line ∷ []) pending
  pub front : IsOpeningFront lines
  pub last : IsLast lines line

-- the line with this number can't stand there, or isn't there
pub data IsOpeningRefused (pieces : List Piece) (pending : List ℕ) (number : ℕ) (cause : Cause) : Type 0 where
  at_line : EndsIn pieces pending (λ lines line. (number ≡ length lines + 1) × CantStand lines line cause)
      → IsOpeningRefused pieces pending number cause
  behind_all : (lines : List (List ℕ)) (last : List ℕ) → AreAll pieces lines last pending → IsOpeningFront lines → number ≡ length lines + 1
      → cause ≡ cause_at_end lines → IsOpeningRefused pieces pending number cause

-- Lines were heard with which an opening begins, and behind them a front of a line, which is let go.
pub record IsBrokenOff (pieces : List Piece) (pending : List ℕ) : Type 0 where
  pub came : List (List ℕ)
  pub rest : List ℕ
  pub heard : ArePiecesHeard pieces came rest (length came + 1)
  pub one : HasNoLineEnd rest
  pub front : IsOpeningFront (map without_return came)
  pub none : pending ≡ []

-- what is told behind these pieces, with these bytes pending
abbrev pub EndsOpening : List Piece → List ℕ → Result OpeningText OpeningFault → Type 0
EndsOpening pieces pending (Ok opening) = IsOpened pieces pending opening
EndsOpening pieces pending (Err (fault.At number cause)) = IsOpeningRefused pieces pending number cause
EndsOpening pieces pending (Err fault.TooManyBytes) = EndsIn pieces pending IsTooMuch
EndsOpening pieces pending (Err fault.Failed) = IsBrokenOff pieces pending
EndsOpening pieces pending (Err fault.NoMemory) = EndsIn pieces pending IsNextText

-- Each error has its cause: a call failed where one is told to have failed, and else none did.
abbrev pub OpeningCause : ℕ → ℕ → Result OpeningText OpeningFault → Type 0
OpeningCause before after (Ok opening) = after ≡ before
OpeningCause before after (Err (fault.At number cause)) = after ≡ before
OpeningCause before after (Err fault.TooManyBytes) = after ≡ before
OpeningCause before after (Err fault.Failed) = Rose before after
OpeningCause before after (Err fault.NoMemory) = after ≡ before
