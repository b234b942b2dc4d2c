-- Lines whose spelling is canonical, whatever they read as.
use Rattle.std.specs.Prelude.{◌≡◌, ◌⊎◌, ℕ, ◌≤◌, false, List, [], ◌∷◌, ◌++◌, codes, decimal}
use Rattle.knit_base.specs.declared.needle.Bed.{Bed}
use Rattle.knit_base.specs.declared.needle.Dir.{Dir}
use Rattle.knit_base.specs.Spelling.{bed_word, dir_word}
use Rattle.knitout_reader.specs.Tokens.{is_blank, is_semicolon}

-- the text begins with the shortest spelling of a small number
pub record BeginsWithShortestNumber (text rest : List ℕ) : Type 0 where
  pub number : ℕ
  pub small : number ≤ 999
  pub text_is : text ≡ decimal number ++ rest

-- the text begins with a needle whose number is spelt so
pub record BeginsWithShortestNeedle (text rest : List ℕ) : Type 0 where
  pub bed : Bed
  pub behind : List ℕ
  pub number : BeginsWithShortestNumber behind rest
  pub text_is : text ≡ bed_word bed ++ behind

-- a space, and a name of one byte that is a token and begins no comment
pub record IsLastName (text : List ℕ) : Type 0 where
  pub name : ℕ
  pub plain : is_blank name ≡ false
  pub comment : is_semicolon name ≡ false
  pub text_is : text ≡ 32 ∷ name ∷ []

-- a direction, such a needle and such a name, with a space before each
pub record AreShortestOperands (text : List ℕ) : Type 0 where
  pub dir : Dir
  pub behind : List ℕ
  pub rest : List ℕ
  pub text_is : text ≡ 32 ∷ (dir_word dir ++ 32 ∷ behind)
  pub needle : BeginsWithShortestNeedle behind rest
  pub last : IsLastName rest

-- two such needles, with a space before each
pub record AreShortestNeedles (text : List ℕ) : Type 0 where
  pub behind : List ℕ
  pub behind2 : List ℕ
  pub text_is : text ≡ 32 ∷ behind
  pub needle : BeginsWithShortestNeedle behind (32 ∷ behind2)
  pub needle2 : BeginsWithShortestNeedle behind2 []

-- `knit` or `tuck` with such operands, or `xfer` with such needles
abbrev pub IsShortestSpelling : List ℕ → Type 0
IsShortestSpelling line =
    ((operands : List ℕ) × (line ≡ codes "knit" ++ operands) × AreShortestOperands operands)
    ⊎ ((operands : List ℕ) × (line ≡ codes "tuck" ++ operands) × AreShortestOperands operands)
    ⊎ ((operands : List ℕ) × (line ≡ codes "xfer" ++ operands) × AreShortestNeedles operands)
