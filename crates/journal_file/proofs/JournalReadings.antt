-- A saved text that was read, and one that is refused.
use Rattle.std.proofs.Common.{◌≡◌, ◌≢◌, ◌∙◌, ◌⊎◌, inl, inr, ℕ, ◌+◌, ◌-◌, ◌<◌, ◌≤◌, List, [], ◌∷◌, ◌++◌, All, length, map, ap, sym, subst, refl, arith, append_assoc, append-nil, length-append}
use Rattle.std.proofs.lemmas.List.{append_cancel_left}
use Rattle.std.proofs.lemmas.List.Elements.{All-append, All-nil}
use Rattle.knit_base.specs.Lines.{HasNoLineEnd}
use Rattle.knit_base.specs.declared.profile.Profile.{Profile}
use Rattle.edit_journal.specs.declared.edit.BlockAt.{BlockAt}
use Rattle.edit_journal.specs.declared.edit.Entry.{Entry}
use Rattle.journal_file.specs.declared.fault.JournalCause.TheVariants.{BadLine, NoFit}
use Rattle.journal_file.specs.declared.fault.JournalFault.{JournalFault}
use Rattle.journal_file.specs.declared.fault.JournalFault.TheVariants.{At, NoMemory}
use Rattle.journal_file.specs.EntryForms.{AreEntries}
use Rattle.journal_file.specs.Faults.{AreEntriesFault, IsBadJournal, IsNoFit, IsPast, IsSavedTextRefused, IsUnfit, IsUnfitBehind, opening_told}
use Rattle.journal_file.specs.Grammars.{Lines, Form, FormStopsBehind}
use Rattle.journal_file.specs.Lines.{HasLines, lines_with_ends}
use Rattle.journal_file.specs.Reading.{FormHasRead, IsFault, IsFormStop}
use Rattle.journal_file.specs.SavedForms.{EntrySaid, OpeningForm, OpeningSaid, SavedForm, blocks_told, count_said, entry_said, head_said, profile_said}
use Rattle.journal_file.specs.SavedParts.{IsLawfulSaved, KeepsBounds, MayAllCome, opening_of_saved}
use Rattle.journal_file.specs.Spelling.{saved_spelling}
use Rattle.journal_file.proofs.Ahead.{ahead, no_shorter}
use Rattle.journal_file.proofs.EntriesReadings.{entries_counted, some_entries}
use Rattle.journal_file.proofs.FormBounds.{all_first, saved_keeps}
use Rattle.journal_file.proofs.FormReadings.{both_stop_first, both_stop_second}
use Rattle.journal_file.proofs.FormSpellings.{ended-append, saved_spelt}
use Rattle.journal_file.proofs.Grammars.{no_items}
use Rattle.journal_file.proofs.Lines.{lines_exist, lines_one, no_line}
use Rattle.journal_file.proofs.SavedOnes.{opening_one, saved_one}
use Rattle.journal_file.proofs.SpeltForms.{IsTold, told_whole}

-- what stands before the entries stops
pub opening_bad : (bytes : List ℕ) (fault : JournalFault) → IsFault OpeningForm bytes 0 fault → IsBadJournal bytes fault
opening_bad bytes (At number BadLine) stops = (inl (both_stop_first OpeningForm (λ said. AreEntries (count_said said)) opening_one (λ said t p. some_entries (count_said said)) bytes 0 number stops), none)
  where
    none : (k : ℕ) → k < number → IsNoFit bytes k → ⊥
    none k below unfit =
        let l = lines_exist bytes in
        let s = stops l.0 l.1 l.2 in
        let u = unfit l.0 l.1 l.2 in
        let counted = u.2.counted in
        let short = no_shorter OpeningForm opening_one l.0 s.0 s.2 u.2.opening u.2.first u.2.rest u.2.says u.2.lines_are in
        omega (arith, below, s.1, u.1, counted, short)
opening_bad bytes (At number NoFit) stops = absurd stops
opening_bad bytes NoMemory stops = tt

-- lines that were read, and lines of the bytes that are left, are lines of all bytes
joined_lines : (bytes rest : List ℕ) (read more : Lines) (last : List ℕ) → HasLines bytes (read ++ more) last → HasLines rest more last → (lines : Lines) (end : List ℕ) → HasLines rest lines end → HasLines bytes (read ++ lines) end
joined_lines bytes rest read more last h left lines end g = record {
  bytes_are =
      h.bytes_are ∙ ap (λ t. t ++ last) (ended-append read more) ∙ append_assoc (lines_with_ends read) (lines_with_ends more) last ∙ ap (λ t. lines_with_ends read ++ t) (sym left.bytes_are ∙ g.bytes_are)
      ∙ sym (append_assoc (lines_with_ends read) (lines_with_ends lines) end) ∙ ap (λ t. t ++ end) (sym (ended-append read lines));
  each = All-append HasNoLineEnd read lines (all_first read more h.each) g.each;
  none = g.none;
}

-- an entry that may not come, behind what was read, stands so behind the lines that are left
unfit_left : (bytes : List ℕ) (o : OpeningSaid) (rest : List ℕ) (now k : ℕ) → FormHasRead OpeningForm bytes 0 o rest now → IsNoFit bytes (now + k) → IsUnfit (opening_told o) (count_said o) rest now (now + k)
unfit_left bytes o rest now k read unfit lines last g =
    let l = lines_exist bytes in
    let w = read l.0 l.1 l.2 in
    let h = joined_lines bytes rest w.read w.more l.1 (subst (λ ls. HasLines bytes ls l.1) w.lines_are l.2) w.left lines last g in
    let u = unfit (w.read ++ lines) last h in
    let n = u.2 in
    let counted = n.counted in
    let same = opening_one n.opening o n.first w.read n.rest lines n.says w.says (sym n.lines_are) in
    let others : n.rest ≡ lines = append_cancel_left w.read n.rest lines (ap (λ f. f ++ n.rest) (sym same.1) ∙ sym n.lines_are) in
    (n.behind, omega (arith, u.1, counted, ap length same.1, w.counted), subst (λ ls. IsUnfitBehind (opening_told o) (count_said o) ls n.behind) others (subst (λ s. IsUnfitBehind (opening_told s) (count_said s) n.rest n.behind) same.0 n.unfit))

module _ (bytes : List ℕ) (o : OpeningSaid) (rest : List ℕ) (now : ℕ) (read : FormHasRead OpeningForm bytes 0 o rest now) where
  none_so : (number : ℕ) → ((k : ℕ) → k < number → IsUnfit (opening_told o) (count_said o) rest now k → ⊥) → now ≤ number → (k : ℕ) → k < number → IsNoFit bytes k → ⊥
  none_so number none far k below unfit =
      let l = lines_exist bytes in
      let w = read l.0 l.1 l.2 in
      let u = unfit l.0 l.1 l.2 in
      let n = u.2 in
      let counted = n.counted in
      let same = opening_one n.opening o n.first w.read n.rest w.more n.says w.says (sym n.lines_are ∙ w.lines_are) in
      let split : now + (k - now) ≡ k = omega (arith, u.1, counted, ap length same.1, w.counted) in
      none k below (subst (IsUnfit (opening_told o) (count_said o) rest now) split (unfit_left bytes o rest now (k - now) read (subst (IsNoFit bytes) (sym split) unfit)))

  past_so : (number : ℕ) → IsPast (AreEntries (count_said o)) rest now number → IsPast SavedForm bytes 0 number
  past_so number past lines last h =
      let w = read lines last h in
      let p = past w.more last w.left in
      let counted = p.2.counted in (
        length w.read + p.0,
        omega (arith, p.1, w.counted),
        record {
          said = (o, p.2.said);
          read = w.read ++ p.2.read;
          more = p.2.more;
          lines_are = w.lines_are ∙ ap (λ m. w.read ++ m) p.2.lines_are ∙ sym (append_assoc w.read p.2.read p.2.more);
          says = record { first = w.read; second = p.2.read; lines_are = refl; says_first = w.says; says_second = p.2.says };
          counted = omega (arith, counted, length-append w.read p.2.read);
          left = p.2.left;
        },
      )

  far_stop : (number : ℕ) → IsFormStop (AreEntries (count_said o)) rest now number → now ≤ number
  far_stop number stops = let l = lines_exist rest in let s = stops l.0 l.1 l.2 in omega (arith, s.1)

  far_past : (number : ℕ) → IsPast (AreEntries (count_said o)) rest now number → now ≤ number
  far_past number past = let l = lines_exist rest in let s = past l.0 l.1 l.2 in omega (arith, s.1)

  -- the fault of the entries is that of the whole
  pub entries_bad : (fault : JournalFault) → AreEntriesFault (opening_told o) (count_said o) rest now fault → IsBadJournal bytes fault
  entries_bad (At number BadLine) stops = elim stops.0 [
    | inl s ↦ (inl (both_stop_second OpeningForm (λ said. AreEntries (count_said said)) opening_one bytes 0 o rest now number read s), none_so number stops.1 (far_stop number s))
    | inr p ↦ (inr (past_so number p), none_so number stops.1 (far_past number p))
  ]
  entries_bad (At number NoFit) unfit = λ lines last h.
      let w = read lines last h in
      let u = unfit w.more last w.left in
      (length w.read + u.0, omega (arith, u.1, w.counted), record { opening = o; first = w.read; rest = w.more; lines_are = w.lines_are; says = w.says; behind = u.0; counted = refl; unfit = u.2 })
  entries_bad NoMemory stops = tt

  -- all was read
  pub whole_read : (said : List EntrySaid) (end : ℕ) → FormHasRead (AreEntries (count_said o)) rest now said [] end
      → (bytes ≡ saved_spelling (head_said o) (profile_said o) (blocks_told o) (map entry_said said)) × KeepsBounds (head_said o) (profile_said o) (blocks_told o) (map entry_said said)
  whole_read said end entries =
      let l = lines_exist bytes in
      let w = read l.0 l.1 l.2 in
      let v = entries w.more l.1 w.left in
      let none : v.more ≡ [] = no_line [] l.1 v.more (All-nil (λ byte. byte ≢ 10)) v.left in
      let last : l.1 ≡ [] = sym (v.left.bytes_are ∙ ap (λ m. lines_with_ends m ++ l.1) none) in
      let lines_are : l.0 ≡ w.read ++ v.read = w.lines_are ∙ ap (λ m. w.read ++ m) (v.lines_are ∙ ap (λ m. v.read ++ m) none ∙ append-nil v.read) in
      let form : SavedForm (o, said) (w.read ++ v.read) = record { first = w.read; second = v.read; lines_are = refl; says_first = w.says; says_second = v.says } in (
        l.2.bytes_are ∙ (λ i. lines_with_ends (lines_are i) ++ last i) ∙ append-nil (lines_with_ends (w.read ++ v.read)) ∙ saved_spelt (o, said) (w.read ++ v.read) form,
        saved_keeps (o, said) (w.read ++ v.read) form (subst (All HasNoLineEnd) lines_are l.2.each),
      )

-- a whole text isn't a text that stops
no_stop : {A : Type 0} (P : Form A) (lines : Lines) (number : ℕ) → FormStopsBehind P lines number → (a : A) → P a lines → ⊥
no_stop {A} P lines number s a p = go s.after refl
  where
    go : (after : Lines) → s.after ≡ after → ⊥
    go [] is = s.unfinished a (subst (P a) (s.lines_are ∙ ap (λ b. s.before ++ b) is ∙ append-nil s.before) p)
    go (line ∷ rest) is = s.ends line rest is a rest (subst (P a) (s.lines_are ∙ ap (λ b. s.before ++ b) is) p)

module _ (bytes : List ℕ) (head : List (List ℕ)) (profile : Profile) (blocks : List BlockAt) (entries : List Entry) (lawful : IsLawfulSaved head profile blocks entries) (spelt : bytes ≡ saved_spelling head profile blocks entries) where
  -- a journal has no more entries than may come
  few_come : (before more : List Entry) → MayAllCome (opening_of_saved head profile blocks) before more → length before ≤ 1048576 → length before + length more ≤ 1048576
  few_come before [] come few = omega (arith, few)
  few_come before (e ∷ es) come few =
      let room = come.0.room in
      let rest = few_come (before ++ e ∷ []) es come.1 (omega (arith, room, length-append before (e ∷ []))) in
      omega (arith, rest, length-append before (e ∷ []))

  spelt_told : IsTold head profile blocks entries
  spelt_told = told_whole head profile blocks entries lawful.bounds (let few = few_come [] entries lawful.come (omega arith) in omega (arith, few))

  -- the lines of the bytes are those that tell the parts
  spelt_lines : HasLines bytes spelt_told.lines []
  spelt_lines =
      let t = spelt_told in
      record {
        bytes_are =
            spelt ∙ sym (λ i. saved_spelling (t.head_is i) (t.profile_is i) (t.blocks_are i) (t.entries_are i))
            ∙ sym (saved_spelt (t.opening, t.said) t.lines t.form) ∙ sym (append-nil (lines_with_ends t.lines));
        each = t.each;
        none = All-nil (λ byte. byte ≢ 10);
      }

  no_bad_line : (number : ℕ) → IsFormStop SavedForm bytes 0 number ⊎ IsPast SavedForm bytes 0 number → ⊥
  no_bad_line number (inl stops) =
      let t = spelt_told in
      let s = stops t.lines [] spelt_lines in
      no_stop SavedForm t.lines s.0 s.2 (t.opening, t.said) t.form
  no_bad_line number (inr past) =
      let t = spelt_told in
      let p = (past t.lines [] spelt_lines).2 in
      let same = saved_one p.said (t.opening, t.said) p.read t.lines p.more [] p.says t.form (sym p.lines_are ∙ sym (append-nil t.lines)) in
      let none : length p.more ≡ 0 = omega (arith, ap length same.1, ap length p.lines_are, length-append p.read p.more) in
      elim p.left [ inl some ↦ some (no_items p.more none) | inr some ↦ some refl ]

  no_unfit : (number : ℕ) → IsNoFit bytes number → ⊥
  no_unfit number unfit =
      let t = spelt_told in
      let n = (unfit t.lines [] spelt_lines).2 in
      let u = n.unfit in
      let same = opening_one n.opening t.opening n.first t.form.first n.rest t.form.second n.says t.form.says_first (sym n.lines_are ∙ t.form.lines_are) in
      let others : n.rest ≡ t.form.second = append_cancel_left t.form.first n.rest t.form.second (ap (λ f. f ++ n.rest) (sym same.1) ∙ sym n.lines_are ∙ t.form.lines_are) in
      let opening_is : opening_of_saved head profile blocks ≡ opening_told n.opening = sym (ap opening_told same.0 ∙ (λ i. opening_of_saved (t.head_is i) (t.profile_is i) (t.blocks_are i))) in
      let come : MayAllCome (opening_told n.opening) [] (map entry_said t.said) = subst (λ o. MayAllCome o [] (map entry_said t.said)) opening_is (subst (MayAllCome (opening_of_saved head profile blocks) []) (sym t.entries_are) lawful.come) in
      let a = ahead (opening_told n.opening) [] u.entries t.said u.before u.after t.form.second [] u.line u.next u.read (entries_counted (count_said t.opening) t.said t.form.second t.form.says_second) (sym u.lines_are ∙ others ∙ sym (append-nil t.form.second)) come u.says u.never in
      omega (arith, ap length a.behind_is, length-append a.lines (u.line ∷ u.after))

-- what is refused has no spelling
pub bad_refused : (bytes : List ℕ) (fault : JournalFault) → IsBadJournal bytes fault → IsSavedTextRefused bytes fault
bad_refused bytes (At number BadLine) bad = λ head profile blocks entries lawful spelt. no_bad_line bytes head profile blocks entries lawful spelt number bad.0
bad_refused bytes (At number NoFit) unfit = λ head profile blocks entries lawful spelt. no_unfit bytes head profile blocks entries lawful spelt number unfit
bad_refused bytes NoMemory bad = tt

-- what has a spelling has no other parts
pub one_spelling : (bytes : List ℕ) (head : List (List ℕ)) (profile : Profile) (blocks : List BlockAt) (entries : List Entry) → IsLawfulSaved head profile blocks entries → bytes ≡ saved_spelling head profile blocks entries
    → (head' : List (List ℕ)) (profile' : Profile) (blocks' : List BlockAt) (entries' : List Entry) → IsLawfulSaved head' profile' blocks' entries' → bytes ≡ saved_spelling head' profile' blocks' entries'
    → (head ≡ head') × (profile ≡ profile') × (blocks ≡ blocks') × (entries ≡ entries')
one_spelling bytes head profile blocks entries lawful spelt head' profile' blocks' entries' lawful' spelt' =
    let t = spelt_told bytes head profile blocks entries lawful spelt in
    let u = spelt_told bytes head' profile' blocks' entries' lawful' spelt' in
    let lines = lines_one t.lines bytes [] u.lines [] (spelt_lines bytes head profile blocks entries lawful spelt) (spelt_lines bytes head' profile' blocks' entries' lawful' spelt') in
    let same = (saved_one (t.opening, t.said) (u.opening, u.said) t.lines u.lines [] [] t.form u.form (ap (λ l. l ++ []) lines)).0 in (
      sym t.head_is ∙ ap (λ s. head_said s.0) same ∙ u.head_is,
      sym t.profile_is ∙ ap (λ s. profile_said s.0) same ∙ u.profile_is,
      sym t.blocks_are ∙ ap (λ s. blocks_told s.0) same ∙ u.blocks_are,
      sym t.entries_are ∙ ap (λ s. map entry_said s.1) same ∙ u.entries_are,
    )
