-- Sources and sinks in memory.
use Rattle.std.specs.Prelude.{◌≡◌, ◌⊎◌, ℕ, ◌+◌, ◌-◌, ◌^◌, ◌<◌, ◌≤◌, min, List, length, Contains}

-- the bytes that are left, how many a call gives, which calls fail, and how many calls and faults there were
pub record SourceView : Type 0 where
  pub left : List ℕ
  pub piece : ℕ
  pub failing : List ℕ
  pub calls : ℕ
  pub faults : ℕ

-- the number of calls after one more, which stays at the last value of u32
abbrev pub calls_after : ℕ → ℕ
calls_after calls = min (calls + 1) (2 ^ 32 - 1)

-- a call doesn't change how many bytes a call gives, nor which calls fail
pub record KeepsPieces (old new : SourceView) : Type 0 where
  pub piece : new.piece ≡ old.piece
  pub failing : new.failing ≡ old.failing

-- the bytes that were taken, how many a call takes, how many there is room for, which calls fail, and how many calls and
-- faults there were
pub record SinkView : Type 0 where
  pub taken : List ℕ
  pub piece : ℕ
  pub room : ℕ
  pub failing : List ℕ
  pub calls : ℕ
  pub faults : ℕ

-- the call with this number is listed, or has bytes and finds the room taken
abbrev pub RefusesWrite : SinkView → ℕ → List ℕ → Type 0
RefusesWrite sink call bytes = Contains sink.failing call ⊎ ((0 < length bytes) × (sink.room ≤ length sink.taken))

-- a call doesn't change how many bytes a call takes, nor the room, nor which calls fail
pub record KeepsSinkRoom (old new : SinkView) : Type 0 where
  pub piece : new.piece ≡ old.piece
  pub room : new.room ≡ old.room
  pub failing : new.failing ≡ old.failing
