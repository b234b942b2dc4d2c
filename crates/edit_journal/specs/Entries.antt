-- The entries of a journal.
use Rattle.std.specs.Prelude.{ℕ, zero, suc, ◌==◌, Bool, List, Option, Some, None, if◌then◌else◌}
use Rattle.std.specs.List.{slice_get}
use Rattle.edit_journal.specs.declared.edit.Edit.{Edit}
use Rattle.edit_journal.specs.declared.edit.Edit.TheVariants.{Put, Add, Cut, Head}
use Rattle.edit_journal.specs.declared.edit.Entry.{Entry}

-- a journal has at most so many entries
abbrev pub entry_limit : ℕ
entry_limit = 1048576

-- the id by which the header is named, which no block has
abbrev pub head_id : ℕ
head_id = 4294967295

-- the entries of a journal, and whether there is room for one more
pub record JournalView : Type 0 where
  pub entries : List Entry
  pub room : Bool

-- the entry with this number, from 1
abbrev pub entry_at : List Entry → ℕ → Option Entry
entry_at entries zero = None
entry_at entries (suc i) = slice_get entries i

-- the text that an edit gives to a block, if it gives it one
abbrev pub text_of_edit : ℕ → Edit → Option (List (List ℕ))
text_of_edit id (Put block seen text) = if block == id then Some text else None
text_of_edit id (Add anchor block text) = if block == id then Some text else None
text_of_edit id (Cut block seen) = None
text_of_edit id (Head seen names) = None

-- the text that an entry gives to a block, if it gives it one
abbrev pub text_for : ℕ → Entry → Option (List (List ℕ))
text_for id entry = text_of_edit id entry.edit

-- the names that an edit gives to the header, if it gives it some
abbrev pub header_names_in : Edit → Option (List (List ℕ))
header_names_in (Put block seen text) = None
header_names_in (Add anchor block text) = None
header_names_in (Cut block seen) = None
header_names_in (Head seen names) = Some names

-- the names that an entry gives to the header, if it gives it some
abbrev pub names_for : Entry → Option (List (List ℕ))
names_for entry = header_names_in entry.edit
