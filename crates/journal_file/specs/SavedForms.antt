-- The whole form of a saved text, in lines.
use Rattle.std.specs.Prelude.{ℕ, List, codes, length, map}
use Rattle.knit_base.specs.declared.profile.Profile.{Profile}
use Rattle.edit_journal.specs.declared.edit.BlockAt.{BlockAt}
use Rattle.edit_journal.specs.declared.edit.Edit.{Edit}
use Rattle.edit_journal.specs.declared.edit.Edit.TheVariants as edit
use Rattle.edit_journal.specs.declared.edit.Entry.{Entry}
use Rattle.journal_file.specs.declared.entry_line.EntryLine.{EntryLine}
use Rattle.journal_file.specs.declared.entry_line.EntryLine.TheVariants.{Block, Header}
use Rattle.journal_file.specs.declared.entry_words.EditWords.{EditWords}
use Rattle.journal_file.specs.declared.entry_words.EditWords.TheVariants.{Put, Add, Cut}
use Rattle.journal_file.specs.BlockForms.{BlocksForm}
use Rattle.journal_file.specs.CountLines.{IsCount}
use Rattle.journal_file.specs.EntryForms.{AreEntries}
use Rattle.journal_file.specs.Fronts.{AreFront}
use Rattle.journal_file.specs.Grammars.{Form, OneLine, Both}
use Rattle.journal_file.specs.HeadForms.{AreHeadLines}
use Rattle.journal_file.specs.SavedParts.{numbered_from}

-- how many lines the head has, and the lines
abbrev pub HeadSaid : Type 0
HeadSaid = ℕ × List (List ℕ)

abbrev pub HeadForm : Form HeadSaid
HeadForm = Both (OneLine (IsCount (codes "head ") 2 16777217)) (λ many. AreHeadLines many)

-- how many blocks there are first; of each, how many lines it has, and the lines
abbrev pub BlocksSaid : Type 0
BlocksSaid = ℕ × List (ℕ × List (List ℕ))

-- a block of this text, as the form says it
abbrev pub block_words : List (List ℕ) → ℕ × List (List ℕ)
block_words text = (length text, text)

abbrev pub AreFirst : Form BlocksSaid
AreFirst = Both (OneLine (IsCount (codes "blocks ") 0 65536)) (λ many. BlocksForm many)

-- how many entries there are
abbrev pub IsEntryCount : Form ℕ
IsEntryCount = OneLine (IsCount (codes "entries ") 0 4294967295)

-- what stands before the entries: the machine's limits, the head, the first blocks, and how many entries there are
abbrev pub OpeningSaid : Type 0
OpeningSaid = (Unit {0} × Profile) × (HeadSaid × (BlocksSaid × ℕ))

-- the first blocks, and how many entries there are
abbrev pub IsBehindHead : Form (BlocksSaid × ℕ)
IsBehindHead = Both AreFirst (λ blocks. IsEntryCount)

abbrev pub OpeningForm : Form OpeningSaid
OpeningForm = Both AreFront (λ front. Both HeadForm (λ head. IsBehindHead))

abbrev pub profile_said : OpeningSaid → Profile
profile_said said = said.0.1

abbrev pub head_said : OpeningSaid → List (List ℕ)
head_said said = said.1.0.1

abbrev pub blocks_said : OpeningSaid → List (ℕ × List (List ℕ))
blocks_said said = said.1.1.0.1

abbrev pub count_said : OpeningSaid → ℕ
count_said said = said.1.1.1

-- the first blocks: the ids are 0, 1, 2 and so on
abbrev pub blocks_told : OpeningSaid → List BlockAt
blocks_told said = numbered_from 0 (map (λ block. block.1) (blocks_said said))

-- what the line of an entry says, and the lines of its text
abbrev pub EntrySaid : Type 0
EntrySaid = EntryLine × List (List ℕ)

-- the edit of these words and this text
abbrev pub edit_said : EditWords → List (List ℕ) → Edit
edit_said (Put block seen lines) text = edit.Put block seen text
edit_said (Add anchor block lines) text = edit.Add anchor block text
edit_said (Cut block seen) text = edit.Cut block seen

abbrev pub line_edit : EntryLine → List (List ℕ) → Edit
line_edit (Block words) text = edit_said words.edit text
line_edit (Header words) text = edit.Head words.seen words.names

abbrev pub line_session : EntryLine → ℕ
line_session (Block words) = words.session
line_session (Header words) = words.session

-- the entry of this line and this text
abbrev pub entry_said : EntrySaid → Entry
entry_said said = record { session = line_session said.0; edit = line_edit said.0 said.1 }

-- a saved text: what stands before the entries, and so many entries
abbrev pub SavedForm : Form (OpeningSaid × List EntrySaid)
SavedForm = Both OpeningForm (λ said. AreEntries (count_said said))
