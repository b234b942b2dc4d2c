-- A conversation in step: what is due for the lines that were heard is said before more is heard.
use Rattle.std.specs.Prelude.{◌≡◌, ℕ, ◌≤◌, List, [], ◌∷◌, ◌++◌, length}
use Rattle.knit_ports.specs.Pieces.{Piece, Heard, Said}
use Rattle.knit_ports.specs.WholeLines.{whole_lines}

-- What lines ask for: orders, each of which gets one answer, and what is said for it. More lines ask for what the first of them ask for, and then for more.
pub record Asking (Order Answer State : Type 0) : Type 1 where
  -- the number of the first line
  pub first : ℕ
  pub orders : List (List ℕ) → List Order
  -- how the conversation stands before the first line
  pub start : State
  -- the answer may be given to the order there
  pub is_given : State → Order → Answer → Type 0
  -- and it then stands so
  pub behind : State → Order → Answer → State
  pub text : State → Order → Answer → List ℕ

module _ {Order Answer State : Type 0} (asking : Asking Order Answer State) where
  -- these are answers to these orders, one each, from here on
  abbrev pub AreDeskAnswers : State → List Order → List Answer → Type 0
  AreDeskAnswers s [] [] = Unit {0}
  AreDeskAnswers s [] (a ∷ as_) = ⊥
  AreDeskAnswers s (o ∷ os) [] = ⊥
  AreDeskAnswers s (o ∷ os) (a ∷ as_) = asking.is_given s o a × AreDeskAnswers (asking.behind s o a) os as_

  -- what is said for them
  abbrev pub text_of : State → List Order → List Answer → List ℕ
  text_of s [] as_ = []
  text_of s (o ∷ os) [] = []
  text_of s (o ∷ os) (a ∷ as_) = asking.text s o a ++ text_of (asking.behind s o a) os as_

  -- and where the conversation then stands
  abbrev pub state_behind : State → List Order → List Answer → State
  state_behind s [] as_ = s
  state_behind s (o ∷ os) [] = s
  state_behind s (o ∷ os) (a ∷ as_) = state_behind (asking.behind s o a) os as_

  -- what is due for these lines
  abbrev pub due : List (List ℕ) → List Answer → List ℕ
  due lines as_ = text_of asking.start (asking.orders lines) as_

  -- Each time that more was heard, behind these bytes that were heard and these that were said, all was said that the whole lines heard by then ask for, and nothing else.
  abbrev pub IsInStep : List Answer → List ℕ → List ℕ → List Piece → Type 0
  IsInStep as_ heard said [] = Unit {0}
  IsInStep as_ heard said (Heard bytes ∷ pieces) =
      (length (asking.orders (whole_lines heard)) ≤ length as_) × (said ≡ due (whole_lines heard) as_) × IsInStep as_ (heard ++ bytes) said pieces
  IsInStep as_ heard said (Said bytes ∷ pieces) = IsInStep as_ heard (said ++ bytes) pieces
