-- Which line of bytes is the first bad one, and why.
use Rattle.std.specs.Prelude.{◌≡◌, ◌≢◌, ℕ, ◌+◌, ◌<◌, ◌≤◌, ◌⊎◌, List, [], ◌∷◌, ◌++◌, length, map}
use Rattle.knit_base.specs.declared.profile.Profile.{Profile}
use Rattle.edit_journal.specs.declared.edit.BlockAt.{BlockAt}
use Rattle.edit_journal.specs.declared.edit.Entry.{Entry}
use Rattle.edit_journal.specs.declared.opening.Opening.{Opening}
use Rattle.edit_book.specs.Outlines.{MayCome}
use Rattle.journal_file.specs.declared.entry_line.EntryLine.{EntryLine}
use Rattle.journal_file.specs.declared.fault.JournalCause.TheVariants.{BadLine, NoFit}
use Rattle.journal_file.specs.declared.fault.JournalFault.{JournalFault}
use Rattle.journal_file.specs.declared.fault.JournalFault.TheVariants.{At, NoMemory}
use Rattle.journal_file.specs.declared.saved.Saved.{Saved}
use Rattle.journal_file.specs.EntryForms.{AreEntries, IsEntryLine, IsEntryText, text_lines_behind}
use Rattle.journal_file.specs.Grammars.{Lines, Form}
use Rattle.journal_file.specs.Lines.{HasLines}
use Rattle.journal_file.specs.Reading.{IsFormStop, IsFirstLineTaken}
use Rattle.journal_file.specs.SavedForms.{EntrySaid, OpeningForm, OpeningSaid, SavedForm, blocks_told, count_said, entry_said, head_said, line_edit, profile_said}
use Rattle.journal_file.specs.SavedParts.{IsLawfulSaved, MayAllCome, opening_of_saved}
use Rattle.journal_file.specs.Spelling.{saved_spelling}

-- the first lines are a whole text, so many lines stand there, and something is left behind it: lines, or bytes without a line feed
pub record GoesPast {A : Type 0} (P : Form A) (lines : Lines) (last : List ℕ) (number : ℕ) : Type 0 where
  pub said : A
  pub read : Lines
  pub more : Lines
  pub lines_are : lines ≡ read ++ more
  pub says : P said read
  pub counted : number ≡ length read
  pub left : (more ≢ []) ⊎ (last ≢ [])

-- the line with this number is the first behind a whole text, behind so many other lines
abbrev pub IsPast : {A : Type 0} → Form A → List ℕ → ℕ → ℕ → Type 0
IsPast P bytes taken number = (lines : Lines) (last : List ℕ) → HasLines bytes lines last → (k : ℕ) × (number ≡ taken + k + 1) × GoesPast P lines last k

-- the entry of this line may not come next, whatever its text
abbrev pub MayNotCome : Opening → List Entry → EntryLine → Type 0
MayNotCome opening entries line = (text : List (List ℕ)) → length text ≡ text_lines_behind line → MayCome opening entries (line_edit line text) → ⊥

-- So many lines are entries that may come one after the other, fewer than there are to be; the next line is that of an entry that may not come behind them.
pub record IsUnfitBehind (opening : Opening) (many : ℕ) (lines : Lines) (number : ℕ) : Type 0 where
  pub before : Lines
  pub line : List ℕ
  pub after : Lines
  pub lines_are : lines ≡ before ++ line ∷ after
  pub counted : number ≡ length before
  pub entries : List EntrySaid
  pub read : AreEntries (length entries) entries before
  pub few : length entries < many
  pub come : MayAllCome opening [] (map entry_said entries)
  pub next : EntryLine
  pub says : IsEntryLine next line
  pub never : MayNotCome opening (map entry_said entries) next

-- the line with this number is that of the first entry that may not come, behind so many other lines
abbrev pub IsUnfit : Opening → ℕ → List ℕ → ℕ → ℕ → Type 0
IsUnfit opening many bytes taken number = (lines : Lines) (last : List ℕ) → HasLines bytes lines last → (k : ℕ) × (number ≡ taken + k + 1) × IsUnfitBehind opening many lines k

-- what the document begins with that stands before the entries
abbrev pub opening_told : OpeningSaid → Opening
opening_told said = opening_of_saved (head_said said) (profile_said said) (blocks_told said)

-- behind the lines of an opening stand entries, of which the next may not come
pub record HasNoFit (lines : Lines) (number : ℕ) : Type 0 where
  pub opening : OpeningSaid
  pub first : Lines
  pub rest : Lines
  pub lines_are : lines ≡ first ++ rest
  pub says : OpeningForm opening first
  pub behind : ℕ
  pub counted : number ≡ length first + behind
  pub unfit : IsUnfitBehind (opening_told opening) (count_said opening) rest behind

-- the line with this number is that of the first entry that may not come
abbrev pub IsNoFit : List ℕ → ℕ → Type 0
IsNoFit bytes number = (lines : Lines) (last : List ℕ) → HasLines bytes lines last → (k : ℕ) × (number ≡ k + 1) × HasNoFit lines k

-- the first line that is bad, and why; want of memory says nothing of the bytes
abbrev pub IsBadJournal : List ℕ → JournalFault → Type 0
IsBadJournal bytes (At number BadLine) = (IsFormStop SavedForm bytes 0 number ⊎ IsPast SavedForm bytes 0 number) × ((k : ℕ) → k < number → IsNoFit bytes k → ⊥)
IsBadJournal bytes (At number NoFit) = IsNoFit bytes number
IsBadJournal bytes NoMemory = Unit {0}

-- no head, limits, blocks and entries that a saved text may tell are spelt so
abbrev pub HasNoSpelling : List ℕ → Type 0
HasNoSpelling bytes = (head : List (List ℕ)) (profile : Profile) (blocks : List BlockAt) (entries : List Entry) → IsLawfulSaved head profile blocks entries → bytes ≡ saved_spelling head profile blocks entries → ⊥

-- bytes that are refused are no saved text; want of memory says nothing of them
abbrev pub IsSavedTextRefused : List ℕ → JournalFault → Type 0
IsSavedTextRefused bytes (At number cause) = HasNoSpelling bytes
IsSavedTextRefused bytes NoMemory = Unit {0}

-- these parts are the only ones that are spelt so
abbrev pub IsOneSpelling : List ℕ → Saved → Type 0
IsOneSpelling bytes saved = (head : List (List ℕ)) (profile : Profile) (blocks : List BlockAt) (entries : List Entry) → IsLawfulSaved head profile blocks entries → bytes ≡ saved_spelling head profile blocks entries
    → (saved.head ≡ head) × (saved.profile ≡ profile) × (saved.blocks ≡ blocks) × (saved.journal.entries ≡ entries)

-- why the next lines are no entry that may come
abbrev pub IsEntryFault : Opening → List Entry → List ℕ → ℕ → JournalFault → Type 0
IsEntryFault opening entries bytes taken (At number BadLine) =
    IsFormStop IsEntryText bytes taken number × ((line : EntryLine) (rest : List ℕ) → IsFirstLineTaken IsEntryLine bytes line rest → MayNotCome opening entries line → number ≤ taken + 1)
IsEntryFault opening entries bytes taken (At number NoFit) = (number ≡ taken + 1) × ((line : EntryLine) × (rest : List ℕ) × IsFirstLineTaken IsEntryLine bytes line rest × MayNotCome opening entries line)
IsEntryFault opening entries bytes taken NoMemory = Unit {0}

-- why the next lines are no entries that may come one after the other
abbrev pub AreEntriesFault : Opening → ℕ → List ℕ → ℕ → JournalFault → Type 0
AreEntriesFault opening many bytes taken (At number BadLine) =
    (IsFormStop (AreEntries many) bytes taken number ⊎ IsPast (AreEntries many) bytes taken number) × ((k : ℕ) → k < number → IsUnfit opening many bytes taken k → ⊥)
AreEntriesFault opening many bytes taken (At number NoFit) = IsUnfit opening many bytes taken number
AreEntriesFault opening many bytes taken NoMemory = Unit {0}
