-- The lines of an entry: what its first line says, and the lines of its text.
use Rattle.std.specs.Prelude.{ℕ, List}
use Rattle.journal_file.specs.declared.entry_words.EditWords.{EditWords}
use Rattle.journal_file.specs.declared.entry_words.EditWords.TheVariants.{Put, Add, Cut}
use Rattle.journal_file.specs.declared.entry_line.EntryLine.{EntryLine}
use Rattle.journal_file.specs.declared.entry_line.EntryLine.TheVariants.{Block, Header}
use Rattle.journal_file.specs.Entries.{IsEntry}
use Rattle.journal_file.specs.Grammars.{Form, OneLine, Both, Chain}
use Rattle.journal_file.specs.Headers.{IsHeadEntry}
use Rattle.journal_file.specs.Texts.{TextLinesForm}

-- the line says this
abbrev pub IsEntryLine : EntryLine → List ℕ → Type 0
IsEntryLine (Block words) line = IsEntry words line
IsEntryLine (Header words) line = IsHeadEntry words.session words.seen words.names line

-- how many lines the text of an edit has
abbrev pub edit_lines : EditWords → ℕ
edit_lines (Put block seen lines) = lines
edit_lines (Add anchor block lines) = lines
edit_lines (Cut block seen) = 0

-- how many text lines stand behind the line
abbrev pub text_lines_behind : EntryLine → ℕ
text_lines_behind (Block words) = edit_lines words.edit
text_lines_behind (Header words) = 0

-- an entry: its line, and its text
abbrev pub IsEntryText : Form (EntryLine × List (List ℕ))
IsEntryText = Both (OneLine IsEntryLine) (λ line. TextLinesForm (text_lines_behind line))

abbrev pub entry_form : Unit {0} → Form (EntryLine × List (List ℕ))
entry_form s = IsEntryText

abbrev pub same_entries : Unit {0} → EntryLine × List (List ℕ) → Unit {0}
same_entries s entry = s

-- so many entries
abbrev pub AreEntries : ℕ → Form (List (EntryLine × List (List ℕ)))
AreEntries many = Chain entry_form same_entries many tt
