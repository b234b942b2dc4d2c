-- The lines of bytes: each has a line feed, and what stands behind the last has none.
use Rattle.std.specs.Prelude.{◌≡◌, ℕ, ◌≤◌, true, List, [], ◌∷◌, ◌++◌, length, codes}
use Rattle.std.specs.List.{All}
use Rattle.std.specs.Str.{is_utf8}
use Rattle.knit_base.specs.Lines.{HasNoLineEnd}

-- lines, each with its line feed
abbrev pub lines_with_ends : List (List ℕ) → List ℕ
lines_with_ends [] = []
lines_with_ends (line ∷ lines) = line ++ 10 ∷ lines_with_ends lines

-- the bytes are these lines, and then this, which has no line feed
pub record HasLines (bytes : List ℕ) (lines : List (List ℕ)) (last : List ℕ) : Type 0 where
  pub bytes_are : bytes ≡ lines_with_ends lines ++ last
  pub each : All HasNoLineEnd lines
  pub none : HasNoLineEnd last

-- UTF-8 of at most 4,096 bytes
pub record IsShort (text : List ℕ) : Type 0 where
  pub utf8 : is_utf8 text ≡ true
  pub short : length text ≤ 4096

-- a bar, and this text behind it
pub record IsBarredLine (text line : List ℕ) : Type 0 where
  pub barred : line ≡ codes "|" ++ text
  pub is_short : IsShort text
