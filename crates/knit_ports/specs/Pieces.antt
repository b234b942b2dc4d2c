-- What was heard and what was said, in one order.
use Rattle.std.specs.Prelude.{◌≡◌, ℕ, ◌≤◌, List, [], ◌∷◌, ◌++◌, length, take, ⊤, None, Some, MatchResult, Result}
use Rattle.std.specs.declared.option.Option.{Option}

-- Bytes that were heard at once, or that were said at once. Where none were heard, the input is at its end.
pub data Piece : Type 0 where
  Heard : List ℕ → Piece
  Said : List ℕ → Piece

-- the bytes that were heard, one piece after the other
abbrev pub heard_in : List Piece → List ℕ
heard_in [] = []
heard_in (Heard bytes ∷ pieces) = bytes ++ heard_in pieces
heard_in (Said bytes ∷ pieces) = heard_in pieces

-- the bytes that were said
abbrev pub said_in : List Piece → List ℕ
said_in [] = []
said_in (Heard bytes ∷ pieces) = said_in pieces
said_in (Said bytes ∷ pieces) = bytes ++ said_in pieces

-- What is told of a conversation goes on with these pieces. Of one that tells nothing, nothing is said.
abbrev pub PiecesGoOn : Option (List Piece) → Option (List Piece) → List Piece → Type 0
PiecesGoOn None new pieces = ⊤
PiecesGoOn (Some before) None pieces = ⊥
PiecesGoOn (Some before) (Some after) pieces = after ≡ before ++ pieces

-- a call that heard so many bytes, the front of these, tells that piece; one that failed tells nothing
abbrev pub TellsHeard : {E : Type 0} → Option (List Piece) → Option (List Piece) → Result ℕ E → List ℕ → Type 0
TellsHeard old new call bytes = MatchResult call (λ n. PiecesGoOn old new (Heard (take n bytes) ∷ [])) (λ _. PiecesGoOn old new [])

-- the same of a call that said a front of these bytes
abbrev pub TellsSaid : {E : Type 0} → Option (List Piece) → Option (List Piece) → Result ℕ E → List ℕ → Type 0
TellsSaid old new call bytes = MatchResult call (λ n. PiecesGoOn old new (Said (take n bytes) ∷ [])) (λ _. PiecesGoOn old new [])

-- none of the pieces was heard
abbrev pub AreSaid : List Piece → Type 0
AreSaid [] = Unit {0}
AreSaid (Heard bytes ∷ pieces) = ⊥
AreSaid (Said bytes ∷ pieces) = AreSaid pieces

-- the whole text was said, in some pieces, and nothing was heard meanwhile
abbrev pub Says : Option (List Piece) → Option (List Piece) → List ℕ → Type 0
Says old new text = (pieces : List Piece) × PiecesGoOn old new pieces × AreSaid pieces × (said_in pieces ≡ text)

-- a front of the text was said, and nothing was heard meanwhile
abbrev pub SaysFront : Option (List Piece) → Option (List Piece) → List ℕ → Type 0
SaysFront old new text = (n : ℕ) × (n ≤ length text) × Says old new (take n text)
