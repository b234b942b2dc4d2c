-- How an opening and a journal are spelt.
use Rattle.std.specs.Prelude.{ℕ, List, [], ◌++◌, length, flat_map, codes, unwrap_or}
use Rattle.std.specs.Fmt.{signed_decimal}
use Rattle.knit_base.specs.Spelling.{labelled_number}
use Rattle.knit_base.specs.declared.profile.Profile.{Profile}
use Rattle.edit_journal.specs.declared.edit.BlockAt.{BlockAt}
use Rattle.edit_journal.specs.declared.edit.Edit.{Edit}
use Rattle.edit_journal.specs.declared.edit.Edit.TheVariants as edit
use Rattle.edit_journal.specs.declared.edit.Entry.{Entry}
use Rattle.edit_journal.specs.EntryLine.{entry_line}

-- a text, as its bytes
abbrev pub Text : Type 0
Text = List ℕ

-- the line of a count
abbrev pub count_spelling : Text → ℕ → Text
count_spelling label number = labelled_number label number ++ codes "\n"

-- a text line: a bar, and the line behind it
abbrev pub text_line : Text → Text
text_line line = codes "|" ++ (line ++ codes "\n")

abbrev pub text_lines : List Text → Text
text_lines lines = flat_map text_line lines

-- the lowest and the highest needle
abbrev pub needle_limits : Profile → Text
needle_limits profile = signed_decimal profile.low ++ (codes " " ++ signed_decimal profile.high)

-- how far the beds rack, how many loops a needle may hold, and how far a float may go, 0 for no limit
abbrev pub other_limits : Profile → Text
other_limits profile = labelled_number (codes " ") profile.rack ++ (labelled_number (codes " ") profile.hold ++ labelled_number (codes " ") (unwrap_or profile.float 0))

-- the machine's limits
abbrev pub profile_text : Profile → Text
profile_text profile = codes "profile " ++ (needle_limits profile ++ other_limits profile)

abbrev pub profile_line : Profile → Text
profile_line profile = profile_text profile ++ codes "\n"

-- the lines of a head
abbrev pub head_lines : List Text → Text
head_lines head = count_spelling (codes "head ") (length head) ++ text_lines head

-- the lines of one of the first blocks
abbrev pub block_lines : BlockAt → Text
block_lines block = count_spelling (codes "block ") (length block.text) ++ text_lines block.text

abbrev pub blocks_lines : List BlockAt → Text
blocks_lines blocks = count_spelling (codes "blocks ") (length blocks) ++ flat_map block_lines blocks

-- the text that an edit gives to a block; a cut gives none, and the header has names, which stand in the entry's line
abbrev pub text_given : Edit → List Text
text_given (edit.Put block seen text) = text
text_given (edit.Add anchor block text) = text
text_given (edit.Cut block seen) = []
text_given (edit.Head seen names) = []

-- the lines of an entry
abbrev pub entry_lines : Entry → Text
entry_lines entry = entry_line entry ++ (codes "\n" ++ text_lines (text_given entry.edit))

abbrev pub entries_lines : List Entry → Text
entries_lines entries = count_spelling (codes "entries ") (length entries) ++ flat_map entry_lines entries

-- the one spelling of a head, the machine's limits, the first blocks and a journal
abbrev pub saved_spelling : List Text → Profile → List BlockAt → List Entry → Text
saved_spelling head profile blocks entries = codes "journal 1\n" ++ (profile_line profile ++ (head_lines head ++ (blocks_lines blocks ++ entries_lines entries)))
