-- One whole head, by itself.
use Rattle.std.specs.Prelude.{◌≡◌, ℕ, List, [], length, Ok, unwrap_or}
use Rattle.knitout_reader.specs.Head.{declared_names, head_len, names_or_none}

-- the names that the lines of a head declare
abbrev pub names_in_head : List (List ℕ) → List (List ℕ)
names_in_head head = unwrap_or (names_or_none (declared_names head)) []

-- these lines are a whole head, and no more
pub record IsWholeHead (head : List (List ℕ)) : Type 0 where
  pub whole : head_len head ≡ length head
  pub declared : declared_names head ≡ Ok (names_in_head head)
