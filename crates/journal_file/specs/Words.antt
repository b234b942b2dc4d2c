-- Numbers as saved texts spell them, at the front of a text.
use Rattle.std.specs.Prelude.{◌≡◌, ℕ, suc, ℤ, pos, negsuc, ◌<◌, ◌^◌, List, [], ◌∷◌, ◌++◌, codes, decimal}
use Rattle.knitout_reader.specs.Numbers.{IsDigit}

-- the text doesn't begin with a digit
abbrev pub EndsNumber : List ℕ → Type 0
EndsNumber [] = Unit {0}
EndsNumber (byte ∷ bytes) = ¬ IsDigit byte

-- the text begins with this number, and this stands behind it
pub record BeginsWithNumber (text : List ℕ) (number : ℕ) (rest : List ℕ) : Type 0 where
  pub spelt : text ≡ decimal number ++ rest
  pub fits : number < 2 ^ 32
  pub ends : EndsNumber rest

-- a label, a number and the rest
pub record IsLabelled (text label : List ℕ) (number : ℕ) (rest : List ℕ) : Type 0 where
  pub behind : List ℕ
  pub begins : text ≡ label ++ behind
  pub front : BeginsWithNumber behind number rest

-- the text begins with this whole number, with a `-` where it is negative, and this stands behind it
abbrev pub BeginsWithSignedNumber : List ℕ → ℤ → List ℕ → Type 0
BeginsWithSignedNumber text (pos n) rest = BeginsWithNumber text n rest
BeginsWithSignedNumber text (negsuc n) rest = IsLabelled text (codes "-") (suc n) rest
