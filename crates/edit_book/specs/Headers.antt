-- The header: its names at an entry, its line, and what a book keeps of it.
use Rattle.std.specs.Prelude.{◌≡◌, ℕ, ◌+◌, ◌<◌, Bool, true, false, if◌then◌else◌, nat_le, List, [], ◌∷◌, filter, map, IfSome}
use Rattle.block_summary.specs.Prepared.{IsPreparedFor}
use Rattle.block_summary.specs.declared.prepared.Prepared.{Prepared}
use Rattle.edit_journal.specs.declared.edit.BlockAt.{BlockAt}
use Rattle.edit_journal.specs.declared.edit.Edit.{Edit}
use Rattle.edit_journal.specs.declared.edit.Edit.TheVariants as edit
use Rattle.edit_journal.specs.declared.edit.Entry.{Entry}
use Rattle.edit_journal.specs.declared.opening.Opening.{Opening}
use Rattle.edit_journal.specs.Documents.{Block, document_of, names_given, text_at}
use Rattle.edit_book.specs.declared.header.Header.{Header}
use Rattle.edit_book.specs.declared.reply.Again.{Again}
use Rattle.edit_book.specs.Verdicts.{setting_of}

-- the blocks as they stand
abbrev pub blocks_at : List Block → List BlockAt
blocks_at blocks = map (λ b. record { block = b.id; stamp = b.stamp; text = b.lines }) blocks

-- The text was prepared for the opening's profile and the names that the header got from the entry with this number, if it got some from it.
abbrev pub IsPreparedUnder : Opening → List Entry → ℕ → Prepared → Type 0
IsPreparedUnder opening entries head prepared = IfSome (names_given opening entries head) (λ names. IsPreparedFor opening.setting.profile names prepared)

-- A summary under these names, of the text that its block got from the entry with its stamp, if it got one from it.
abbrev pub IsPreparedAgain : Opening → List Entry → List (List ℕ) → Again → Type 0
IsPreparedAgain opening entries names again =
    IfSome (text_at opening entries again.block again.stamp) (λ text. (again.prepared.text ≡ text) × IsPreparedFor opening.setting.profile names again.prepared)

abbrev pub ArePreparedAgain : Opening → List Entry → List (List ℕ) → List Again → Type 0
ArePreparedAgain opening entries names [] = Unit {0}
ArePreparedAgain opening entries names (again ∷ more) = IsPreparedAgain opening entries names again × ArePreparedAgain opening entries names more

-- the edit gives the header other names
abbrev pub changes_header : Edit → Bool
changes_header (edit.Put block seen text) = false
changes_header (edit.Add anchor block text) = false
changes_header (edit.Cut block seen) = false
changes_header (edit.Head seen names) = true

-- the numbers of the entries that changed the header, the first of the entries with this number
abbrev pub header_entries : ℕ → List Entry → List ℕ
header_entries i [] = []
header_entries i (e ∷ es) = if changes_header e.edit then i ∷ header_entries (i + 1) es else header_entries (i + 1) es

-- each number is above those before it
abbrev pub AreNumbersRising : List ℕ → Type 0
AreNumbersRising [] = Unit {0}
AreNumbersRising (n ∷ []) = Unit {0}
AreNumbersRising (n ∷ m ∷ ns) = (n < m) × AreNumbersRising (m ∷ ns)

-- the last of these numbers, or else this one
abbrev pub last_or : ℕ → List ℕ → ℕ
last_or none [] = none
last_or none (n ∷ ns) = last_or n ns

-- the last of these numbers that isn't above this one, or else 0
abbrev pub last_not_above : ℕ → List ℕ → ℕ
last_not_above limit ns = last_or 0 (filter (λ n. nat_le n limit) ns)

-- the header's stamp, what the document is read by under its names, and which entries changed it
pub record HasHeader (opening : Opening) (entries : List Entry) (head : ℕ) (header : Header) : Type 0 where
  pub stamp : head ≡ (document_of opening entries).header.stamp
  pub setting : header.setting ≡ setting_of opening (document_of opening entries)
  pub changed : header.entries.items ≡ header_entries 1 entries
