-- What lines say from one place of a file up to another. Places are counted from 0.
use Rattle.std.specs.Prelude.{◌≡◌, ◌≢◌, ℕ, ◌+◌, ◌<◌, ◌≤◌, List, [], ◌∷◌, ◌++◌, length, drop, filter, get_or}
use Rattle.script_reader.specs.Statements.{Statement, kind_of, says_something, statements_of}
use Rattle.script_reader.specs.declared.line.Kind.TheVariants as kind

-- the lines from the place `start` up to the place `next` say this, and lines that say nothing may stand among them
pub record Say (lines : List (List ℕ)) (start next : ℕ) (said : List Statement) : Type 0 where
  pub low : start ≤ next
  pub high : next ≤ length lines
  pub front : List Statement
  pub told : statements_of (drop start lines) ≡ front ++ statements_of (drop next lines)
  pub are : filter says_something front ≡ said

-- the line at the place `at` says `here`, and those before it, from the place `start` on, say `said`
pub record StandsBehind (lines : List (List ℕ)) (start at : ℕ) (said : List Statement) (here : Statement) : Type 0 where
  pub front : List Statement
  pub back : List Statement
  pub told : statements_of (drop start lines) ≡ front ++ here ∷ back
  pub placed : start + length front ≡ at
  pub are : filter says_something front ≡ said

-- the line at this place, if there is one, isn't skipped
abbrev pub IsAtSaid : List (List ℕ) → ℕ → Type 0
IsAtSaid lines at = at < length lines → kind_of (get_or lines at []) ≢ kind.Skipped
