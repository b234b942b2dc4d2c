-- A saved text that was read, in what stands before the entries and what stands behind.
use Rattle.std.proofs.Common.{◌≡◌, ◌∙◌, ℕ, Result, Ok, Err, IfOk, List, [], All, map, ap, sym, subst}
use Rattle.knit_base.specs.Lines.{HasNoLineEnd}
use Rattle.journal_file.specs.declared.fault.JournalFault.{JournalFault}
use Rattle.journal_file.specs.declared.opening.SavedOpening.{SavedOpening}
use Rattle.journal_file.specs.declared.saved.Saved.{Saved}
use Rattle.journal_file.specs.EntryForms.{AreEntries}
use Rattle.journal_file.specs.Faults.{AreEntriesFault, IsBadJournal, IsOneSpelling, opening_told}
use Rattle.journal_file.specs.Openings.{said_of}
use Rattle.journal_file.specs.Reading.{FormHasRead}
use Rattle.journal_file.specs.SavedForms.{EntrySaid, OpeningForm, blocks_told, entry_said}
use Rattle.edit_book.specs.Outlines.{block_texts_of}
use Rattle.journal_file.specs.SavedParts.{IsLawfulSaved, KeepsBounds, MayAllCome, numbered_from, opening_with}
use Rattle.journal_file.specs.Spelling.{saved_spelling}
use Rattle.journal_file.proofs.FormBounds.{all_first, opening_keeps, texts_numbered}
use Rattle.journal_file.proofs.JournalReadings.{entries_bad, one_spelling, whole_read}
use Rattle.journal_file.proofs.Lines.{lines_exist}
use Rattle.journal_file.proofs.SpeltForms.{texts_again}

-- the first blocks are those that were read
told_blocks : (o : SavedOpening) → blocks_told (said_of o) ≡ numbered_from 0 o.texts
told_blocks o = ap (numbered_from 0) (texts_again o.texts)

told_opening : (o : SavedOpening) → opening_told (said_of o) ≡ opening_with o.head o.profile o.texts
told_opening o = ap (opening_with o.head o.profile) (ap block_texts_of (told_blocks o) ∙ texts_numbered 0 o.texts)

-- what was read before the entries keeps its bounds
pub opening_bounds : (bytes : List ℕ) (o : SavedOpening) (rest : List ℕ) (now : ℕ) → FormHasRead OpeningForm bytes 0 (said_of o) rest now → KeepsBounds o.head o.profile (numbered_from 0 o.texts) []
opening_bounds bytes o rest now read =
    let l = lines_exist bytes in
    let w = read l.0 l.1 l.2 in
    subst (λ bs. KeepsBounds o.head o.profile bs []) (told_blocks o) (opening_keeps (said_of o) w.read w.says (all_first w.read w.more (subst (All HasNoLineEnd) w.lines_are l.2.each)))

-- the parts are spelt so, and are lawful
pub record IsSavedBy (bytes : List ℕ) (saved : Saved) : Type 0 where
  pub spelt : bytes ≡ saved_spelling saved.head saved.profile saved.blocks saved.journal.entries
  pub lawful : IsLawfulSaved saved.head saved.profile saved.blocks saved.journal.entries

pub spelt_so : (bytes : List ℕ) (found : Result Saved JournalFault) → IfOk found (IsSavedBy bytes) → IfOk found (λ saved. bytes ≡ saved_spelling saved.head saved.profile saved.blocks saved.journal.entries)
spelt_so bytes (Ok saved) is = is.spelt
spelt_so bytes (Err fault) is = tt

pub lawful_so : (bytes : List ℕ) (found : Result Saved JournalFault) → IfOk found (IsSavedBy bytes) → IfOk found (λ saved. IsLawfulSaved saved.head saved.profile saved.blocks saved.journal.entries)
lawful_so bytes (Ok saved) is = is.lawful
lawful_so bytes (Err fault) is = tt

-- there are no others
pub saved_once : (bytes : List ℕ) (saved : Saved) → IsSavedBy bytes saved → IsOneSpelling bytes saved
saved_once bytes saved is = λ head profile blocks entries lawful spelt.
    one_spelling bytes saved.head saved.profile saved.blocks saved.journal.entries is.lawful is.spelt head profile blocks entries lawful spelt

module _ (bytes : List ℕ) (o : SavedOpening) (rest : List ℕ) (now : ℕ) (read : FormHasRead OpeningForm bytes 0 (said_of o) rest now) where
  saved_parts : (saved : Saved) → saved.head ≡ o.head → saved.profile ≡ o.profile → saved.blocks ≡ numbered_from 0 o.texts
      → (said : List EntrySaid) → saved.journal.entries ≡ map entry_said said → (end : ℕ) → FormHasRead (AreEntries o.entries) rest now said [] end → MayAllCome (opening_with o.head o.profile o.texts) [] saved.journal.entries → IsSavedBy bytes saved
  saved_parts saved head_is profile_is blocks_are said entries_are end entries come =
      let w = whole_read bytes (said_of o) rest now read said end entries in
      let blocks_is = sym (blocks_are ∙ sym (told_blocks o)) in
      record {
        spelt = w.0 ∙ (λ i. saved_spelling (sym head_is i) (sym profile_is i) (blocks_is i) (sym entries_are i));
        lawful = record {
          bounds =
              subst (λ h. KeepsBounds h saved.profile saved.blocks saved.journal.entries) (sym head_is)
              (subst (λ p. KeepsBounds o.head p saved.blocks saved.journal.entries) (sym profile_is)
              (subst (λ bs. KeepsBounds o.head o.profile bs saved.journal.entries) blocks_is (subst (KeepsBounds o.head o.profile (blocks_told (said_of o))) (sym entries_are) w.1)));
          come =
              subst (λ a. MayAllCome a [] saved.journal.entries)
              ((λ i. opening_with (sym head_is i) (sym profile_is i) o.texts) ∙ ap (opening_with saved.head saved.profile) (sym (ap block_texts_of blocks_are ∙ texts_numbered 0 o.texts))) come;
        };
      }

  -- what was read to the end is a saved text
  pub saved_whole : (found : Result Saved JournalFault) → IfOk found (λ s. s.head ≡ o.head) → IfOk found (λ s. s.profile ≡ o.profile) → IfOk found (λ s. s.blocks ≡ numbered_from 0 o.texts)
      → IfOk found (λ s. (said : List EntrySaid) × (s.journal.entries ≡ map entry_said said) × (end : ℕ) × FormHasRead (AreEntries o.entries) rest now said [] end) → IfOk found (λ s. MayAllCome (opening_with o.head o.profile o.texts) [] s.journal.entries)
      → IfOk found (IsSavedBy bytes)
  saved_whole (Ok saved) head_is profile_is blocks_are entries come = saved_parts saved head_is profile_is blocks_are entries.0 entries.1 entries.2 entries.3 come
  saved_whole (Err fault) head_is profile_is blocks_are entries come = tt

  -- the fault of the entries is that of the whole
  pub whole_bad : (fault : JournalFault) → AreEntriesFault (opening_with o.head o.profile o.texts) o.entries rest now fault → IsBadJournal bytes fault
  whole_bad fault stops = entries_bad bytes (said_of o) rest now read fault (subst (λ a. AreEntriesFault a o.entries rest now fault) (sym (told_opening o)) stops)
