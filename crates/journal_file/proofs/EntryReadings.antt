-- How far the reading of an entry has come, and where it stops.
use Rattle.std.proofs.Common.{◌≡◌, ◌∙◌, ℕ, ◌+◌, ◌≤◌, List, [], ◌∷◌, length, sym, subst, refl, arith, codes, ◌++◌}
use Rattle.knit_base.specs.Spelling.{labelled_number}
use Rattle.edit_journal.specs.declared.edit.Entry.{Entry}
use Rattle.edit_journal.specs.declared.opening.Opening.{Opening}
use Rattle.edit_book.specs.Outlines.{MayCome}
use Rattle.journal_file.specs.declared.entry_line.EntryLine.{EntryLine}
use Rattle.journal_file.specs.declared.entry_line.EntryLine.TheVariants.{Block, Header}
use Rattle.journal_file.specs.declared.entry_words.EditWords.{EditWords}
use Rattle.journal_file.specs.declared.entry_words.EditWords.TheVariants.{Put, Add, Cut}
use Rattle.journal_file.specs.declared.fault.JournalCause.TheVariants.{BadLine, NoFit}
use Rattle.journal_file.specs.declared.fault.JournalFault.{JournalFault}
use Rattle.journal_file.specs.declared.fault.JournalFault.TheVariants.{At, NoMemory}
use Rattle.journal_file.specs.Entries.{IsLawfulEdit, edit_line}
use Rattle.journal_file.specs.EntryForms.{IsEntryLine, IsEntryText, edit_lines, text_lines_behind}
use Rattle.journal_file.specs.Faults.{IsEntryFault, MayNotCome}
use Rattle.journal_file.specs.Grammars.{Lines, OneLine}
use Rattle.journal_file.specs.Reading.{FormHasRead, IsFault, IsFormStop, IsFirstLineTaken, NoneTaken}
use Rattle.journal_file.specs.SavedForms.{line_edit}
use Rattle.journal_file.specs.Texts.{TextLinesForm, same_state, text_form}
use Rattle.journal_file.proofs.EntryOnes.{one_line, said_one}
use Rattle.journal_file.proofs.FormReadings.{chain_length, both_read, both_stop_first, both_stop_second, line_read, line_stops}
use Rattle.journal_file.proofs.Lines.{one_feed}
use Rattle.journal_file.proofs.Readings.{some_texts}

-- an entry that may always be
abbrev a_cut : EntryLine
a_cut = Block (record { session = 0; edit = Cut 0 0 })

abbrev a_line : List ℕ
a_line = labelled_number (codes "session ") 0 ++ edit_line (Cut 0 0)

cut_is : IsEntryLine a_cut a_line
cut_is = record { spelt = refl; session = omega arith; lawful = (omega arith, omega arith) }

-- an entry can be
pub some_entry : (said : EntryLine × List (List ℕ)) × (u : Lines) × IsEntryText said u
some_entry = ((a_cut, []), a_line ∷ [], record { first = a_line ∷ []; second = []; lines_are = refl; says_first = record { line = a_line; lines_are = refl; says = cut_is }; says_second = refl })

-- an entry was read
pub entry_read : (bytes : List ℕ) (taken : ℕ) (said : EntryLine) (rest : List ℕ) (texts : List (List ℕ)) (behind : List ℕ) (now : ℕ)
    → IsFirstLineTaken IsEntryLine bytes said rest → FormHasRead (TextLinesForm (text_lines_behind said)) rest (taken + 1) texts behind now → FormHasRead IsEntryText bytes taken (said, texts) behind now
entry_read bytes taken said rest texts behind now took read =
    both_read (OneLine IsEntryLine) (λ line. TextLinesForm (text_lines_behind line)) bytes taken said rest (taken + 1) texts behind now (line_read IsEntryLine bytes taken said rest took) read

-- its first line isn't there
pub entry_stops : (bytes : List ℕ) (taken : ℕ) → NoneTaken IsEntryLine bytes → IsFormStop IsEntryText bytes taken (taken + 1)
entry_stops bytes taken none =
    both_stop_first (OneLine IsEntryLine) (λ line. TextLinesForm (text_lines_behind line)) one_line (λ said t p. some_texts (text_lines_behind said) tt) bytes taken (taken + 1)
    (line_stops IsEntryLine a_cut a_line cut_is bytes taken none)

-- the fault of its text lines is that of the entry
pub entry_fault : (bytes : List ℕ) (taken now : ℕ) (said : EntryLine) (rest : List ℕ) → now ≡ taken + 1 → IsFirstLineTaken IsEntryLine bytes said rest → (fault : JournalFault) → IsFault (TextLinesForm (text_lines_behind said)) rest now fault
    → IsFault IsEntryText bytes taken fault
entry_fault bytes taken now said rest is took (At number BadLine) stops =
    both_stop_second (OneLine IsEntryLine) (λ line. TextLinesForm (text_lines_behind line)) one_line bytes taken said rest (taken + 1) number (line_read IsEntryLine bytes taken said rest took)
    (subst (λ n. IsFormStop (TextLinesForm (text_lines_behind said)) rest n number) is stops)
entry_fault bytes taken now said rest is took (At number NoFit) stops = stops
entry_fault bytes taken now said rest is took NoMemory stops = tt

few_edit : (e : EditWords) → IsLawfulEdit e → edit_lines e ≤ 4096
few_edit (Put block seen lines) lawful = lawful.2
few_edit (Add anchor block lines) lawful = lawful.2
few_edit (Cut block seen) lawful = omega arith

-- a text has no more lines than a block may have
pub few_lines : (said : EntryLine) (line : List ℕ) → IsEntryLine said line → text_lines_behind said ≤ 4096
few_lines (Block words) line it = few_edit words.edit it.lawful
few_lines (Header words) line it = omega arith

-- a text of so many lines
some_text : (said : EntryLine) → (text : List (List ℕ)) × (length text ≡ text_lines_behind said)
some_text said = let w = some_texts (text_lines_behind said) tt in (w.0, chain_length text_form same_state (text_lines_behind said) tt w.0 w.1 w.2)

-- the entry may come, but one of its text lines isn't there
pub text_refused : (opening : Opening) (entries : List Entry) (bytes : List ℕ) (taken now : ℕ) (said : EntryLine) (rest : List ℕ) → now ≡ taken + 1 → IsFirstLineTaken IsEntryLine bytes said rest
    → ((text : List (List ℕ)) → length text ≡ text_lines_behind said → MayCome opening entries (line_edit said text)) → (fault : JournalFault) → IsFault (TextLinesForm (text_lines_behind said)) rest now fault
    → IsEntryFault opening entries bytes taken fault
text_refused opening entries bytes taken now said rest is took comes (At number BadLine) stops = (entry_fault bytes taken now said rest is took (At number BadLine) stops, other)
  where
    other : (line : EntryLine) (more : List ℕ) → IsFirstLineTaken IsEntryLine bytes line more → MayNotCome opening entries line → number ≤ taken + 1
    other line more it never =
        let same = one_feed took.line it.line rest more took.one it.one (sym took.bytes_are ∙ it.bytes_are) in
        let one : said ≡ line = said_one said line it.line (subst (IsEntryLine said) same.0 took.says) it.says in
        let text = some_text said in
        absurd (subst (MayNotCome opening entries) (sym one) never text.0 text.1 (comes text.0 text.1))
text_refused opening entries bytes taken now said rest is took comes (At number NoFit) stops = absurd stops
text_refused opening entries bytes taken now said rest is took comes NoMemory stops = tt

-- the line of an entry isn't there
pub line_refused : (opening : Opening) (entries : List Entry) (bytes : List ℕ) (taken : ℕ) → NoneTaken IsEntryLine bytes → IsEntryFault opening entries bytes taken (At (taken + 1) BadLine)
line_refused opening entries bytes taken none = (entry_stops bytes taken none, (λ line rest took never. absurd (none took.line rest took.one took.bytes_are line took.says)))
