-- The line of the machine's limits, and what stands at the fronts of its parts.
use Rattle.std.specs.Prelude.{◌≡◌, ℕ, ◌≤◌, ℤ, pos, ◌-ℤ◌, ◌≤ℤ◌, List, ◌++◌, codes}
use Rattle.knit_base.specs.Limits.{IsLawfulProfile}
use Rattle.knit_base.specs.declared.profile.Profile.{Profile}
use Rattle.journal_file.specs.Spelling.{profile_text}
use Rattle.journal_file.specs.Words.{IsLabelled, BeginsWithSignedNumber}

-- the line tells these limits
pub record IsProfile (profile : Profile) (line : List ℕ) : Type 0 where
  pub spelt : line ≡ profile_text profile
  pub lawful : IsLawfulProfile profile

-- the text begins with the number of a needle, and this stands behind it
pub record BeginsWithNeedleNumber (text : List ℕ) (number : ℤ) (rest : List ℕ) : Type 0 where
  pub front : BeginsWithSignedNumber text number rest
  pub least : (pos 0 -ℤ pos 4096) ≤ℤ number
  pub most : number ≤ℤ pos 4096

-- with the lowest and the highest needle
pub record AreNeedles (text : List ℕ) (low high : ℤ) (rest : List ℕ) : Type 0 where
  pub behind : List ℕ
  pub first : BeginsWithNeedleNumber text low (codes " " ++ behind)
  pub second : BeginsWithNeedleNumber behind high rest
  pub ordered : low ≤ℤ high

-- with a space and a number that is at most 64
pub record IsLimit (text : List ℕ) (number : ℕ) (rest : List ℕ) : Type 0 where
  pub front : IsLabelled text (codes " ") number rest
  pub few : number ≤ 64

-- with how far the beds rack, and how many loops a needle may hold
pub record AreLimits (text : List ℕ) (rack hold : ℕ) (rest : List ℕ) : Type 0 where
  pub behind : List ℕ
  pub first : IsLimit text rack behind
  pub second : IsLimit behind hold rest
  pub some : 1 ≤ hold
