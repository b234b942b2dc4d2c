-- Entries that may all come, and the first entry that may not.
use Rattle.std.proofs.Common.{◌≡◌, ◌∙◌, ℕ, ◌≤◌, ◌⊎◌, inl, inr, List, [], ◌∷◌, ◌++◌, length, map, ap, sym, subst, refl, arith, append_assoc, append-nil, length-append}
use Rattle.std.proofs.lemmas.List.{append_cancel_left}
use Rattle.edit_journal.specs.declared.edit.Entry.{Entry}
use Rattle.edit_journal.specs.declared.opening.Opening.{Opening}
use Rattle.edit_book.specs.Outlines.{MayCome}
use Rattle.journal_file.specs.declared.entry_line.EntryLine.{EntryLine}
use Rattle.journal_file.specs.EntryForms.{AreEntries, IsEntryLine, IsEntryText, text_lines_behind}
use Rattle.journal_file.specs.Faults.{MayNotCome}
use Rattle.journal_file.specs.Grammars.{Lines, Form, IsUnambiguous, OneLine, FormStopsBehind}
use Rattle.journal_file.specs.SavedForms.{EntrySaid, entry_said}
use Rattle.journal_file.specs.SavedParts.{MayAllCome}
use Rattle.journal_file.specs.Texts.{TextLinesForm, same_state, text_form}
use Rattle.journal_file.proofs.EntryOnes.{one_line, said_one}
use Rattle.journal_file.proofs.FormSpellings.{lines_spelt}
use Rattle.journal_file.proofs.Grammars.{both_one, chain_one, same_head, two_fronts}
use Rattle.journal_file.proofs.Readings.{text_form_is_one}

pub entry_one : IsUnambiguous IsEntryText
entry_one = both_one (OneLine IsEntryLine) (λ line. TextLinesForm (text_lines_behind line)) one_line (λ line. chain_one text_form same_state text_form_is_one (text_lines_behind line) tt)

-- A whole text is no shorter than the lines behind which a text stops.
pub no_shorter : {A : Type 0} (P : Form A) → IsUnambiguous P → (lines : Lines) (number : ℕ) → FormStopsBehind P lines number → (a : A) (t r : Lines) → P a t → lines ≡ t ++ r → number ≤ length t
no_shorter {A} P one lines number s a t r p is = go (two_fronts s.before s.after t r (sym s.lines_are ∙ is))
  where
    go : ((more : Lines) × (t ≡ s.before ++ more)) ⊎ ((line : List ℕ) × (more : Lines) × (s.before ≡ t ++ line ∷ more)) → number ≤ length t
    go (inl w) = let counted = s.counted in omega (arith, counted, ap length w.1, length-append s.before w.0)
    go (inr w) =
        let same = (one s.said a (s.before ++ s.more) t [] (w.0 ∷ (w.1 ++ s.more)) s.goes_on p (append-nil (s.before ++ s.more) ∙ ap (λ b. b ++ s.more) w.2 ∙ append_assoc t (w.0 ∷ w.1) s.more)).1 in
        absurd (omega (arith, ap length same, length-append s.before s.more, ap length w.2, length-append t (w.0 ∷ w.1)))

-- the entries that may not be first stand behind those that may
pub record IsAhead (xs ys : List EntrySaid) (t u s : Lines) (line : List ℕ) (r : Lines) : Type 0 where
  pub more : List EntrySaid
  pub lines : Lines
  pub entries_are : xs ≡ ys ++ more
  pub front_is : t ≡ u ++ lines
  pub form : AreEntries (length more) more lines
  pub behind_is : s ≡ lines ++ line ∷ r

-- the next line is that of an entry that came, so it isn't that of one that may not come
came : (opening : Opening) (done : List Entry) (y : EntrySaid) (u r s : Lines) (line : List ℕ) (next : EntryLine) → IsEntryText y u → line ∷ r ≡ u ++ s → MayCome opening done (entry_said y).edit → IsEntryLine next line → MayNotCome opening done next → ⊥
came opening done y u r s line next p is come says never =
    let same : line ≡ p.says_first.line = same_head line p.says_first.line r (p.second ++ s) (is ∙ ap (λ l. l ++ s) (p.lines_are ∙ ap (λ f. f ++ p.second) p.says_first.lines_are)) in
    let one : y.0 ≡ next = said_one y.0 next line (subst (IsEntryLine y.0) (sym same) p.says_first.says) says in
    let many = (lines_spelt (text_lines_behind y.0) y.1 p.second p.says_second).1 in
    subst (MayNotCome opening done) (sym one) never y.1 many come

-- the same lines, with what stands behind the first part taken together
parted : (t u first second tail first' second' s : Lines) → t ≡ first ++ second → u ≡ first' ++ second' → t ++ tail ≡ u ++ s → first ++ (second ++ tail) ≡ first' ++ (second' ++ s)
parted t u first second tail first' second' s p q is = sym (append_assoc first second tail) ∙ ap (λ l. l ++ tail) (sym p) ∙ is ∙ ap (λ l. l ++ s) q ∙ append_assoc first' second' s

-- Where the one and the other stand at the front of the same lines, the first that may not come is behind those that came.
pub ahead : (opening : Opening) (done : List Entry) (xs ys : List EntrySaid) (t r u s : Lines) (line : List ℕ) (next : EntryLine) → AreEntries (length xs) xs t → AreEntries (length ys) ys u → t ++ line ∷ r ≡ u ++ s
    → MayAllCome opening done (map entry_said ys) → IsEntryLine next line → MayNotCome opening (done ++ map entry_said xs) next → IsAhead xs ys t u s line r
ahead opening done xs [] t r u s line next p q is come says never =
    record { more = xs; lines = t; entries_are = refl; front_is = ap (λ l. l ++ t) (sym q); form = p; behind_is = sym (is ∙ ap (λ l. l ++ s) q) }
ahead opening done [] (y ∷ ys) t r u s line next p q is come says never =
    absurd (came opening done y q.first r (q.second ++ s) line next q.says_first (parted t u [] [] (line ∷ r) q.first q.second s p q.lines_are is) come.0 says (subst (λ d. MayNotCome opening d next) (append-nil done) never))
ahead opening done (x ∷ xs) (y ∷ ys) t r u s line next p q is come says never =
    let both : p.first ++ (p.second ++ line ∷ r) ≡ q.first ++ (q.second ++ s) = parted t u p.first p.second (line ∷ r) q.first q.second s p.lines_are q.lines_are is in
    let same : (x ≡ y) × (p.first ≡ q.first) = entry_one x y p.first q.first (p.second ++ line ∷ r) (q.second ++ s) p.says_first q.says_first both in
    let rest : p.second ++ line ∷ r ≡ q.second ++ s = append_cancel_left p.first (p.second ++ line ∷ r) (q.second ++ s) (both ∙ ap (λ l. l ++ (q.second ++ s)) (sym same.1)) in
    let before : done ++ map entry_said (x ∷ xs) ≡ (done ++ entry_said y ∷ []) ++ map entry_said xs = ap (λ z. done ++ entry_said z ∷ map entry_said xs) same.0 ∙ sym (append_assoc done (entry_said y ∷ []) (map entry_said xs)) in
    let w = ahead opening (done ++ entry_said y ∷ []) xs ys p.second r q.second s line next p.says_second q.says_second rest come.1 says (subst (λ d. MayNotCome opening d next) before never) in
    record {
      more = w.more;
      lines = w.lines;
      entries_are = (λ i. same.0 i ∷ w.entries_are i);
      front_is = p.lines_are ∙ (λ i. same.1 i ++ w.front_is i) ∙ sym (append_assoc q.first q.second w.lines) ∙ ap (λ l. l ++ w.lines) (sym q.lines_are);
      form = w.form;
      behind_is = w.behind_is;
    }
