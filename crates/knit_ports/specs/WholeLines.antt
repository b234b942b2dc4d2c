-- The lines of bytes that come one after the other: those that have their line feed already.
use Rattle.std.specs.Prelude.{◌≡◌, ◌⊎◌, ℕ, if◌then◌else◌, List, [], ◌∷◌, ◌++◌, All, flat_map}
use Rattle.knit_base.specs.Lines.{HasNoLineEnd, is_line_feed}

-- the lines that have a line feed, where the first of them begins with this front
abbrev pub lines_behind : List ℕ → List ℕ → List (List ℕ)
lines_behind front [] = []
lines_behind front (byte ∷ bytes) =
    if is_line_feed byte then front ∷ lines_behind [] bytes else lines_behind (front ++ byte ∷ []) bytes

-- what stands behind the last line feed, or behind this front where there is none, with the front
abbrev pub rest_behind : List ℕ → List ℕ → List ℕ
rest_behind front [] = front
rest_behind front (byte ∷ bytes) =
    if is_line_feed byte then rest_behind [] bytes else rest_behind (front ++ byte ∷ []) bytes

-- what stands before each line feed, since the one before it
abbrev pub whole_lines : List ℕ → List (List ℕ)
whole_lines bytes = lines_behind [] bytes

-- what stands behind the last line feed
abbrev pub rest_of : List ℕ → List ℕ
rest_of bytes = rest_behind [] bytes

-- a line as it came, with its line feed
abbrev pub with_feed : List ℕ → List ℕ
with_feed line = line ++ 10 ∷ []

-- the bytes are these lines, each with its line feed, and behind them this rest, and no other byte of them is a line feed
pub record ArePartsOf (bytes : List ℕ) (lines : List (List ℕ)) (rest : List ℕ) : Type 0 where
  pub joined : bytes ≡ flat_map with_feed lines ++ rest
  pub ones : All HasNoLineEnd lines
  pub last : HasNoLineEnd rest

-- no bytes, or bytes that end with a line feed
abbrev pub AreWholeLines : List ℕ → Type 0
AreWholeLines bytes = (bytes ≡ []) ⊎ ((front : List ℕ) × (bytes ≡ with_feed front))
