-- The lines of a head.
use Rattle.std.specs.Prelude.{◌≡◌, ℕ, ◌-◌, Bool, true, false, ◌||◌, if◌then◌else◌, List, IsSome}
use Rattle.knitout_reader.specs.Head.{is_carriers_line, is_head_line, is_magic, names_in_line}
use Rattle.journal_file.specs.declared.head.HeadSoFar.{HeadSoFar}
use Rattle.journal_file.specs.Grammars.{Form, OneLine, Chain}
use Rattle.journal_file.specs.Lines.{IsBarredLine}

-- the magic line comes first, and then comments and blanks
abbrev pub has_kind : Bool → List ℕ → Bool
has_kind first text = if first then is_magic text else is_head_line text

-- The text may be the next line of a head. One line names the carriers, as a head may, and none before or behind it does.
pub record MayStandInHead (s : HeadSoFar) (text : List ℕ) : Type 0 where
  pub kind : has_kind s.first text ≡ true
  pub once : is_carriers_line text ≡ true → s.named ≡ false
  pub names : is_carriers_line text ≡ true → IsSome (names_in_line text)
  pub last : s.left ≡ 1 → (s.named || is_carriers_line text) ≡ true

pub record IsHeadLine (s : HeadSoFar) (text line : List ℕ) : Type 0 where
  pub barred : IsBarredLine text line
  pub stands : MayStandInHead s text

abbrev pub head_form : HeadSoFar → Form (List ℕ)
head_form s = OneLine (IsHeadLine s)

abbrev pub head_with_line : HeadSoFar → List ℕ → HeadSoFar
head_with_line s text = record { first = false; left = s.left - 1; named = s.named || is_carriers_line text }

abbrev pub no_line_yet : ℕ → HeadSoFar
no_line_yet many = record { first = true; left = many; named = false }

-- so many lines that are a whole head
abbrev pub AreHeadLines : ℕ → Form (List (List ℕ))
AreHeadLines many = Chain head_form head_with_line many (no_line_yet many)
