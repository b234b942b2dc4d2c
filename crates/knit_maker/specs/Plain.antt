-- Texts that can stand as a line, for private clauses.
use Rattle.std.specs.Prelude.{ℕ, ◌<◌, ◌≤◌, List, length, All}

-- a byte that is ASCII and no control character
pub record IsPrinted (byte : ℕ) : Type 0 where
  pub low : 31 < byte
  pub high : byte < 128

-- a short text of such bytes
pub record IsPlain (len : ℕ) (text : List ℕ) : Type 0 where
  pub bytes : All IsPrinted text
  pub short : length text ≤ len
