-- Lines of counts.
use Rattle.std.specs.Prelude.{◌≡◌, ℕ, ◌≤◌, List}
use Rattle.knit_base.specs.Spelling.{labelled_number}

-- the line is the label and this number, which lies within these bounds
pub record IsCount (label : List ℕ) (least most : ℕ) (number : ℕ) (line : List ℕ) : Type 0 where
  pub spelt : line ≡ labelled_number label number
  pub enough : least ≤ number
  pub few : number ≤ most
