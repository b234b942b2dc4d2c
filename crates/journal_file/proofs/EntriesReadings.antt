-- How far the reading of entries has come, and where it stops.
use Rattle.std.proofs.Common.{◌≡◌, ◌≢◌, ◌∙◌, ◌⊎◌, inl, inr, ℕ, zero, suc, ◌+◌, ◌-◌, ◌<◌, ◌≤◌, List, [], ◌∷◌, ◌++◌, All, length, map, ap, sym, subst, refl, arith, append_assoc, append-nil, length-append}
use Rattle.std.proofs.lemmas.List.Elements.{All-head}
use Rattle.knit_base.specs.Lines.{HasNoLineEnd}
use Rattle.edit_journal.specs.declared.edit.Entry.{Entry}
use Rattle.edit_journal.specs.declared.opening.Opening.{Opening}
use Rattle.edit_book.specs.Outlines.{MayCome}
use Rattle.journal_file.specs.declared.entry_line.EntryLine.{EntryLine}
use Rattle.journal_file.specs.declared.fault.JournalCause.TheVariants.{BadLine, NoFit}
use Rattle.journal_file.specs.declared.fault.JournalFault.{JournalFault}
use Rattle.journal_file.specs.declared.fault.JournalFault.TheVariants.{At, NoMemory}
use Rattle.journal_file.specs.EntryForms.{AreEntries, IsEntryLine, IsEntryText, entry_form, same_entries}
use Rattle.journal_file.specs.Faults.{AreEntriesFault, IsEntryFault, IsPast, IsUnfit, IsUnfitBehind, MayNotCome}
use Rattle.journal_file.specs.Grammars.{Lines}
use Rattle.journal_file.specs.Lines.{HasLines, lines_with_ends}
use Rattle.journal_file.specs.Reading.{FormHasRead, IsFormStop, IsFirstLineTaken, Went}
use Rattle.journal_file.specs.SavedForms.{EntrySaid, entry_said}
use Rattle.journal_file.specs.SavedParts.{MayAllCome}
use Rattle.journal_file.proofs.Ahead.{IsAhead, ahead, entry_one, no_shorter}
use Rattle.journal_file.proofs.EntryReadings.{some_entry}
use Rattle.journal_file.proofs.FormReadings.{chain_length, chain_more, chain_none, chain_stops}
use Rattle.journal_file.proofs.Lines.{line_first, lines_exist}

-- so many entries can be
pub some_entries : (n : ℕ) → (xs : List EntrySaid) × (u : Lines) × AreEntries n xs u
some_entries zero = ([], [], refl)
some_entries (suc n) =
    let w = some_entries n in
    (some_entry.0 ∷ w.0, some_entry.1 ++ w.1, record { first = some_entry.1; second = w.1; lines_are = refl; says_first = some_entry.2; says_second = w.2 })

pub entries_counted : (n : ℕ) (xs : List EntrySaid) (t : Lines) → AreEntries n xs t → AreEntries (length xs) xs t
entries_counted n xs t p = subst (λ k. AreEntries k xs t) (sym (chain_length entry_form same_entries n tt xs t p)) p

-- nothing was read yet
pub entries_none : (bytes : List ℕ) (taken : ℕ) → FormHasRead (AreEntries 0) bytes taken [] bytes taken
entries_none bytes taken = chain_none entry_form same_entries tt bytes taken

-- one more entry was read
pub entries_more : (n : ℕ) (bytes : List ℕ) (taken : ℕ) (xs : List EntrySaid) (rest : List ℕ) (now : ℕ) (x : EntrySaid) (behind : List ℕ) (then_ : ℕ) → FormHasRead (AreEntries n) bytes taken xs rest now
    → FormHasRead IsEntryText rest now x behind then_ → FormHasRead (AreEntries (n + 1)) bytes taken (xs ++ x ∷ []) behind then_
entries_more n bytes taken xs rest now x behind then_ p q = chain_more entry_form same_entries n tt bytes taken xs rest now x behind then_ p q

-- one more may come
pub come_more : (opening : Opening) (before entries : List Entry) (entry : Entry) → MayAllCome opening before entries → MayCome opening (before ++ entries) entry.edit → MayAllCome opening before (entries ++ entry ∷ [])
come_more opening before [] entry all next = (subst (λ b. MayCome opening b entry.edit) (append-nil before) next, tt)
come_more opening before (e ∷ es) entry all next = (all.0, come_more opening (before ++ e ∷ []) es entry all.1 (subst (λ b. MayCome opening b entry.edit) (sym (append_assoc before (e ∷ []) es)) next))

module _ (opening : Opening) (many : ℕ) (bytes : List ℕ) (taken : ℕ) (said : List EntrySaid) (rest : List ℕ) (now : ℕ) where
  -- an entry that may not come stands behind those that were read
  behind_read : (done : ℕ) → FormHasRead (AreEntries done) bytes taken said rest now → MayAllCome opening [] (map entry_said said) → (lines : Lines) (last : List ℕ) (h : HasLines bytes lines last) (k : ℕ) (u : IsUnfitBehind opening many lines k)
      → (w : Went (AreEntries done) lines last taken said rest now) → IsAhead u.entries said u.before w.read w.more u.line u.after
  behind_read done read come lines last h k u w =
      ahead opening [] u.entries said u.before u.after w.read w.more u.line u.next u.read (entries_counted done said w.read w.says) (sym u.lines_are ∙ w.lines_are) come u.says u.never

  -- where the next entry stops, none of them that may not come stands before
  none_before : (done number : ℕ) → FormHasRead (AreEntries done) bytes taken said rest now → MayAllCome opening [] (map entry_said said) → IsFormStop IsEntryText rest now number
      → ((line : EntryLine) (more : List ℕ) → IsFirstLineTaken IsEntryLine rest line more → MayNotCome opening (map entry_said said) line → number ≤ now + 1) → (k : ℕ) → k < number → IsUnfit opening many bytes taken k → ⊥
  none_before done number read come stops first k below unfit =
      let l = lines_exist bytes in
      let u = unfit l.0 l.1 l.2 in
      let w = read l.0 l.1 l.2 in
      let a = behind_read done read come l.0 l.1 l.2 u.0 u.2 w in
      let counted = u.2.counted in
      let front = ap length a.front_is in
      let far = no_less w.more l.1 w.left u.2.line u.2.after u.2.next u.2.says a.more (subst (λ es. MayNotCome opening es u.2.next) (ap (map entry_said) a.entries_are) u.2.never) a.lines a.form a.behind_is in
      omega (arith, below, u.1, counted, front, length-append w.read a.lines, w.counted, far)
    where
      no_less : (more : Lines) (last : List ℕ) → HasLines rest more last → (line : List ℕ) (after : Lines) (next : EntryLine) → IsEntryLine next line → (es : List EntrySaid) → MayNotCome opening (map entry_said (said ++ es)) next → (v : Lines) → AreEntries (length es) es v → more ≡ v ++ line ∷ after → number ≤ now + length v + 1
      no_less more last left line after next says [] never v p is =
          let lines_are : more ≡ line ∷ after = is ∙ ap (λ x. x ++ line ∷ after) p in
          let each : All HasNoLineEnd (line ∷ after) = subst (All HasNoLineEnd) lines_are left.each in
          let took : IsFirstLineTaken IsEntryLine rest next (lines_with_ends after ++ last) = record { line = line; one = All-head HasNoLineEnd line after each; bytes_are = left.bytes_are ∙ ap (λ m. lines_with_ends m ++ last) lines_are ∙ append_assoc line (10 ∷ lines_with_ends after) last; says = says } in
          let near = first next (lines_with_ends after ++ last) took (subst (λ s. MayNotCome opening (map entry_said s) next) (append-nil said) never) in
          omega (arith, near)
      no_less more last left line after next says (e ∷ es) never v p is =
          let s = stops more last left in
          let short = no_shorter IsEntryText entry_one more s.0 s.2 e p.first (p.second ++ line ∷ after) p.says_first (is ∙ ap (λ x. x ++ line ∷ after) p.lines_are ∙ append_assoc p.first p.second (line ∷ after)) in
          omega (arith, s.1, short, ap length p.lines_are, length-append p.first p.second)

  -- the fault of the next entry is that of all
  pub entries_fault : (done : ℕ) → done < many → FormHasRead (AreEntries done) bytes taken said rest now → MayAllCome opening [] (map entry_said said) → (fault : JournalFault) → IsEntryFault opening (map entry_said said) rest now fault
      → AreEntriesFault opening many bytes taken fault
  entries_fault done below read come (At number BadLine) stops =
      let all : done + suc (many - done - 1) ≡ many = omega (arith, below) in (
        inl (subst (λ n. IsFormStop (AreEntries n) bytes taken number) all (chain_stops entry_form same_entries (λ s. entry_one) done (many - done - 1) tt bytes taken said rest now number (λ a t p. some_entries (many - done - 1)) read stops.0)),
        none_before done number read come stops.0 stops.1,
      )
  entries_fault done below read come (At number NoFit) stops = λ lines last h.
      let w = read lines last h in
      let took = stops.1.2 in
      let f = line_first rest took.line stops.1.1 last w.more took.one took.bytes_are w.left in
      let many_read = chain_length entry_form same_entries done tt said w.read w.says in (
        length w.read,
        omega (arith, stops.0, w.counted),
        record {
          before = w.read;
          line = took.line;
          after = f.0;
          lines_are = w.lines_are ∙ ap (λ m. w.read ++ m) f.1;
          counted = refl;
          entries = said;
          read = entries_counted done said w.read w.says;
          few = omega (arith, many_read, below);
          come = come;
          next = stops.1.0;
          says = took.says;
          never = stops.1.3;
        },
      )
  entries_fault done below read come NoMemory stops = tt

  -- something is left behind all entries
  pub entries_past : FormHasRead (AreEntries many) bytes taken said rest now → MayAllCome opening [] (map entry_said said) → 0 < length rest → AreEntriesFault opening many bytes taken (At (now + 1) BadLine)
  entries_past read come some = (inr past, none)
    where
      left_over : (more : Lines) (last : List ℕ) → HasLines rest more last → (more ≢ []) ⊎ (last ≢ [])
      left_over [] last h = inr (λ is. omega (arith, some, ap length (h.bytes_are ∙ is)))
      left_over (line ∷ more) last h = inl (λ is. omega (arith, ap length is))

      past : IsPast (AreEntries many) bytes taken (now + 1)
      past lines last h =
          let w = read lines last h in
          (length w.read, omega (arith, w.counted), record { said = said; read = w.read; more = w.more; lines_are = w.lines_are; says = w.says; counted = refl; left = left_over w.more last w.left })

      none : (k : ℕ) → k < now + 1 → IsUnfit opening many bytes taken k → ⊥
      none k below unfit =
          let l = lines_exist bytes in
          let u = unfit l.0 l.1 l.2 in
          let w = read l.0 l.1 l.2 in
          let a = behind_read many read come l.0 l.1 l.2 u.0 u.2 w in
          let few = u.2.few in
          let all = chain_length entry_form same_entries many tt said w.read w.says in
          omega (arith, few, all, ap length a.entries_are, length-append said a.more)
