-- Text lines, one after the other.
use Rattle.std.specs.Prelude.{ℕ, List}
use Rattle.journal_file.specs.Grammars.{Form, OneLine, Chain}
use Rattle.journal_file.specs.Lines.{IsBarredLine}

-- the next line is a text line, whatever stood before
abbrev pub text_form : Unit {0} → Form (List ℕ)
text_form s = OneLine IsBarredLine

abbrev pub same_state : Unit {0} → List ℕ → Unit {0}
same_state s text = s

-- so many text lines, and what they tell
abbrev pub TextLinesForm : ℕ → Form (List (List ℕ))
TextLinesForm many = Chain text_form same_state many tt
