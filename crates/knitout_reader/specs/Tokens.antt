-- The tokens of a line.
use Rattle.std.specs.Prelude.{◌≡◌, ℕ, ◌<◌, Bool, false, ◌==◌, ◌||◌, List, length, nat_lt, filter, position, is_some, All}
use Rattle.std.specs.List.{slice_split, before_first}

-- a space or a tab
abbrev pub is_blank : ℕ → Bool
is_blank byte = byte == 32 || byte == 9

-- the byte that begins a comment
abbrev pub is_semicolon : ℕ → Bool
is_semicolon byte = byte == 59

-- what stands before the first `;`
abbrev pub before_comment : List ℕ → List ℕ
before_comment line = before_first is_semicolon line

-- the line has a comment
abbrev pub has_comment : List ℕ → Bool
has_comment line = is_some (position is_semicolon line)

-- the longest runs without blanks: what stands between two blanks and isn't empty
abbrev pub tokens_of : List ℕ → List (List ℕ)
tokens_of text = filter (λ run. nat_lt 0 (length run)) (slice_split is_blank text)

-- a text that can stand as one token
pub record IsToken (text : List ℕ) : Type 0 where
  pub some : 0 < length text
  pub plain : All (λ byte. is_blank byte ≡ false) text
