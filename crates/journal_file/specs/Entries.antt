-- What the line of an entry says.
use Rattle.std.specs.Prelude.{◌≡◌, ℕ, ◌<◌, ◌≤◌, ◌^◌, List, ◌++◌, codes}
use Rattle.edit_journal.specs.declared.edit.Anchor.{Anchor}
use Rattle.edit_journal.specs.declared.edit.Anchor.TheVariants.{Start, After}
use Rattle.edit_journal.specs.EntryLine.{add_text, anchor_text, cut_text, put_text}
use Rattle.knit_base.specs.Spelling.{labelled_number}
use Rattle.journal_file.specs.declared.entry_words.EditWords.{EditWords}
use Rattle.journal_file.specs.declared.entry_words.EditWords.TheVariants.{Put, Add, Cut}
use Rattle.journal_file.specs.declared.entry_words.EntryWords.{EntryWords}

abbrev pub IsLawfulAnchor : Anchor → Type 0
IsLawfulAnchor Start = Unit {0}
IsLawfulAnchor (After id) = id < 2 ^ 32

-- the numbers fit 32 bits, and a text has at most 4,096 lines
abbrev pub IsLawfulEdit : EditWords → Type 0
IsLawfulEdit (Put block seen lines) = (block < 2 ^ 32) × (seen < 2 ^ 32) × (lines ≤ 4096)
IsLawfulEdit (Add anchor block lines) = IsLawfulAnchor anchor × (block < 2 ^ 32) × (lines ≤ 4096)
IsLawfulEdit (Cut block seen) = (block < 2 ^ 32) × (seen < 2 ^ 32)

abbrev pub edit_line : EditWords → List ℕ
edit_line (Put block seen lines) = put_text block seen lines
edit_line (Add anchor block lines) = add_text anchor block lines
edit_line (Cut block seen) = cut_text block seen

-- the text tells the edit
pub record IsEdit (e : EditWords) (text : List ℕ) : Type 0 where
  pub spelt : text ≡ edit_line e
  pub lawful : IsLawfulEdit e

-- the line tells the entry
pub record IsEntry (e : EntryWords) (line : List ℕ) : Type 0 where
  pub spelt : line ≡ labelled_number (codes "session ") e.session ++ edit_line e.edit
  pub session : e.session < 64
  pub lawful : IsLawfulEdit e.edit

-- two numbers, each behind its label
pub record IsPair (first second : List ℕ) (most a b : ℕ) (text : List ℕ) : Type 0 where
  pub spelt : text ≡ labelled_number first a ++ labelled_number second b
  pub fits : a < 2 ^ 32
  pub few : b ≤ most

-- what stands behind the word of an add
pub record IsAdd (anchor : Anchor) (block lines : ℕ) (text : List ℕ) : Type 0 where
  pub spelt : text ≡ anchor_text anchor ++ (labelled_number (codes " block ") block ++ labelled_number (codes " lines ") lines)
  pub lawful_anchor : IsLawfulAnchor anchor
  pub fits : block < 2 ^ 32
  pub few : lines ≤ 4096
