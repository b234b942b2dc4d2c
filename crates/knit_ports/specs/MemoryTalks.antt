-- Conversations in memory.
use Rattle.std.specs.Prelude.{◌≡◌, ℕ, List}
use Rattle.knit_ports.specs.declared.memory_talk.KeptPiece.{KeptPiece}
use Rattle.knit_ports.specs.declared.memory_talk.KeptPiece.TheVariants as kept
use Rattle.knit_ports.specs.Pieces.{Piece, Heard, Said}

-- what was heard and said, the bytes that are left to be heard, how many bytes are heard and said at once, which calls fail,
-- and how many calls and faults there were
pub record TalkView : Type 0 where
  pub told : List Piece
  pub left : List ℕ
  pub gives : ℕ
  pub takes : ℕ
  pub failing : List ℕ
  pub calls : ℕ
  pub faults : ℕ

-- the piece that is kept
abbrev pub piece_of : KeptPiece → Piece
piece_of (kept.Heard bytes) = Heard bytes.items
piece_of (kept.Said bytes) = Said bytes.items

-- a call doesn't change how many bytes are heard and said at once, nor which calls fail
pub record KeepsTerms (old new : TalkView) : Type 0 where
  pub gives : new.gives ≡ old.gives
  pub takes : new.takes ≡ old.takes
  pub failing : new.failing ≡ old.failing
