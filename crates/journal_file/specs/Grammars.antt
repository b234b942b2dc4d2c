-- Forms of texts in lines, and the first line with which no text of a form goes on.
use Rattle.std.specs.Prelude.{◌≡◌, ℕ, zero, suc, List, [], ◌∷◌, ◌++◌, length}

-- the lines of a text
abbrev pub Lines : Type 0
Lines = List (List ℕ)

-- the lines say this
abbrev pub Form : Type 0 → Type 1
Form A = A → Lines → Type 0

-- Whatever stands behind a text of the form, no other text of the form stands at the same place, and it says one thing.
abbrev pub IsUnambiguous : {A : Type 0} → Form A → Type 0
IsUnambiguous {A} P = (a b : A) (t u r s : Lines) → P a t → P b u → t ++ r ≡ u ++ s → (a ≡ b) × (t ≡ u)

-- So many of the lines are the front of a text of the form, which they don't end, and with the next one, if there is one, no text of the form goes on.
pub record FormStopsBehind {A : Type 0} (P : Form A) (lines : Lines) (number : ℕ) : Type 0 where
  pub before : Lines
  pub after : Lines
  pub lines_are : lines ≡ before ++ after
  pub counted : number ≡ length before
  pub said : A
  pub more : Lines
  pub goes_on : P said (before ++ more)
  pub unfinished : (a : A) → P a before → ⊥
  pub ends : (line : List ℕ) (rest : Lines) → after ≡ line ∷ rest → (a : A) (tail : Lines) → P a (before ++ line ∷ tail) → ⊥

-- a text of the one form and then one of the other, which what was said before may decide
pub record Both {A B : Type 0} (P : Form A) (Q : A → Form B) (said : A × B) (lines : Lines) : Type 0 where
  pub first : Lines
  pub second : Lines
  pub lines_are : lines ≡ first ++ second
  pub says_first : P said.0 first
  pub says_second : Q said.0 said.1 second

-- one line, which says this
pub record OneLine {A : Type 0} (L : A → List ℕ → Type 0) (said : A) (lines : Lines) : Type 0 where
  pub line : List ℕ
  pub lines_are : lines ≡ line ∷ []
  pub says : L said line

-- so many texts, one after the other, each of the form that what was said before it decides
abbrev pub Chain : {S A : Type 0} → (S → Form A) → (S → A → S) → ℕ → S → Form (List A)
Chain P next zero s [] lines = lines ≡ []
Chain P next zero s (x ∷ xs) lines = ⊥
Chain P next (suc n) s [] lines = ⊥
Chain P next (suc n) s (x ∷ xs) lines = Both (P s) (λ y. Chain P next n (next s y)) (x, xs) lines

-- what so many of them come to
abbrev pub behind_all : {S A : Type 0} → (S → A → S) → S → List A → S
behind_all next s [] = s
behind_all next s (x ∷ xs) = behind_all next (next s x) xs
