-- Lines that are heard, one after the other.
use Rattle.std.specs.Prelude.{◌≡◌, ℕ, ◌+◌, ◌-◌, ◌^◌, ◌<◌, List, [], ◌∷◌, ◌++◌, length, take, drop}
use Rattle.std.specs.declared.option.Option.{Option}
use Rattle.knit_base.specs.Lines.{HasNoLineEnd}
use Rattle.knit_ports.specs.declared.limit.TheConstants.{HEARD_LIMIT}
use Rattle.knit_ports.specs.declared.ear.LineEnd.{LineEnd}
use Rattle.knit_ports.specs.declared.ear.LineEnd.TheVariants.{LineFeed, InputEnd, Endless}
use Rattle.knit_ports.specs.Pieces.{Piece, Heard, Said, PiecesGoOn, heard_in}

-- the bytes that were heard and belong to no line yet, and what is kept of the line that was heard last
pub record EarView : Type 0 where
  pub pending : List ℕ
  pub line : List ℕ

-- So many bytes of a line are kept: those of the longest line that is heard whole, one for a carriage return behind them, and one more,
-- which says that the line is longer.
abbrev pub kept_limit : ℕ
kept_limit = HEARD_LIMIT + 2

-- what is kept of a line
abbrev pub kept_front : List ℕ → List ℕ
kept_front line = take kept_limit line

-- the first line feed of the bytes stands behind so many of them
pub record IsFirstFeed (bytes : List ℕ) (n : ℕ) : Type 0 where
  pub within : n < length bytes
  pub one : HasNoLineEnd (take n bytes)
  pub parted : bytes ≡ take n bytes ++ 10 ∷ drop (n + 1) bytes

-- The pieces were heard behind these bytes, nothing was said meanwhile, and each was waited for only where no whole line was
-- there.
abbrev pub AreWaitedFor : List ℕ → List Piece → Type 0
AreWaitedFor before [] = Unit {0}
AreWaitedFor before (Heard bytes ∷ pieces) = HasNoLineEnd before × AreWaitedFor (before ++ bytes) pieces
AreWaitedFor before (Said bytes ∷ pieces) = ⊥

-- each piece has bytes, so that none of them is the end of the input
abbrev pub HaveBytes : List Piece → Type 0
HaveBytes [] = Unit {0}
HaveBytes (Heard bytes ∷ pieces) = (0 < length bytes) × HaveBytes pieces
HaveBytes (Said bytes ∷ pieces) = (0 < length bytes) × HaveBytes pieces

-- the end of the input, as it is heard behind a line that it ends
abbrev pub input_end : LineEnd → List Piece
input_end LineFeed = []
input_end InputEnd = Heard [] ∷ []
input_end Endless = []

-- These pieces had so many bytes for the line, with those that were pending: they are the line, its feed, and what is pending
-- now; or the line alone, which the input's end ends; or no feed came in 2 ^ 64 - 1 pieces, the last of which is pending.
abbrev pub EndsBy : LineEnd → List Piece → List ℕ → List ℕ → List ℕ → Type 0
EndsBy LineFeed pieces bytes line pending = bytes ≡ line ++ 10 ∷ pending
EndsBy InputEnd pieces bytes line pending = (bytes ≡ line) × (pending ≡ [])
EndsBy Endless pieces bytes line pending = (bytes ≡ line ++ pending) × (length pieces ≡ 2 ^ 64 - 1)

-- A line was heard, with this end. The pieces have bytes, and the end of the input is heard behind them where it ends the line.
pub record IsLineHeard (old new : Option (List Piece)) (before after : EarView) (end : LineEnd) : Type 0 where
  pub pieces : List Piece
  pub line : List ℕ
  pub goes : PiecesGoOn old new (pieces ++ input_end end)
  pub waited : AreWaitedFor before.pending (pieces ++ input_end end)
  pub some : HaveBytes pieces
  pub one : HasNoLineEnd line
  pub ends : EndsBy end pieces (before.pending ++ heard_in pieces) line after.pending
  pub kept : after.line ≡ kept_front line

-- A front of a line was heard, and then a call failed: what was pending and what was heard have no line end. They are let go,
-- but for what is kept of a line.
pub record IsFrontHeard (old new : Option (List Piece)) (before after : EarView) : Type 0 where
  pub pieces : List Piece
  pub goes : PiecesGoOn old new pieces
  pub waited : AreWaitedFor before.pending pieces
  pub some : HaveBytes pieces
  pub one : HasNoLineEnd (before.pending ++ heard_in pieces)
  pub none : after.pending ≡ []
  pub kept : after.line ≡ kept_front (before.pending ++ heard_in pieces)
