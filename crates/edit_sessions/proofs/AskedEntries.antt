-- A command of its session asks for each entry of a legal journal.
use Rattle.std.proofs.Common.{◌≡◌, ℕ, zero, suc, ◌+◌, ◌<◌, Bool, true, false, cond, ◌==◌, eq-eqb, List, [], ◌∷◌, ◌++◌, length, Option, Some, None, sym, ap, ◌∙◌, refl, subst, arith}
use Rattle.std.specs.Prelude.{slice_get}
use Rattle.edit_journal.specs.declared.edit.Edit.{Edit}
use Rattle.edit_journal.specs.declared.edit.Entry.{Entry}
use Rattle.edit_journal.specs.declared.opening.Opening.{Opening}
use Rattle.script_reader.specs.declared.command.Command.{Command}
use Rattle.edit_book.specs.declared.reply.Reply.{Reply}
use Rattle.edit_book.specs.Memory.{Memory, asked_of_book, asked_entry, first_memory, memory_after}
use Rattle.turn_book.specs.Journal.{Each, entry_list}
use Rattle.turn_book.specs.Legal.{AreSessions, entries_of_session, entries_by_session}
use Rattle.edit_sessions.specs.Core.{document_core}
use Rattle.edit_sessions.specs.Laws.{IsEditOfScript, IsAskedIn, IsLegal}
use Rattle.edit_sessions.proofs.AskedEdits.{answer_wanted}

module _ {A : Type 0} where
  each_append : (P : A → Type 0) (xs ys : List A) → Each P xs → Each P ys → Each P (xs ++ ys)
  each_append P [] ys a b = b
  each_append P (x ∷ xs) ys a b = (a.0, each_append P xs ys a.1 b)

  each_weaker : (P Q : A → Type 0) → ((x : A) → P x → Q x) → (xs : List A) → Each P xs → Each Q xs
  each_weaker P Q f [] a = tt
  each_weaker P Q f (x ∷ xs) a = (f x a.0, each_weaker P Q f xs a.1)

-- a command that stands in the rest of a script stands in the script
asked_later : (c : Command) (cs : List Command) (e : Edit) → IsEditOfScript cs e → IsEditOfScript (c ∷ cs) e
asked_later c cs e a = record { place = suc a.place; asking = a.asking; stands = a.stands; asks = a.asks; short = a.short }

module _ (o : Opening) where
  -- the entries of a session's accepted replies
  entries_asked : (n : ℕ) (m : Memory) (cs : List Command) (rs : List Reply) → Each (λ (e : Entry). IsEditOfScript cs e.edit) (entries_of_session (document_core o) n m cs rs)
  entries_asked n m [] rs = tt
  entries_asked n m (c ∷ cs) [] = tt
  entries_asked n m (c ∷ cs) (r ∷ rs) =
      each_append (λ (e : Entry). IsEditOfScript (c ∷ cs) e.edit) (entry_list (asked_entry n (asked_of_book m c) r)) (entries_of_session (document_core o) n (memory_after m c r) cs rs) (first (asked_entry n (asked_of_book m c) r) refl)
      (each_weaker (λ (e : Entry). IsEditOfScript cs e.edit) (λ (e : Entry). IsEditOfScript (c ∷ cs) e.edit) (λ e. asked_later c cs e.edit) (entries_of_session (document_core o) n (memory_after m c r) cs rs) (entries_asked n (memory_after m c r) cs rs))
    where
      first : (x : Option Entry) → asked_entry n (asked_of_book m c) r ≡ x → Each (λ (e : Entry). IsEditOfScript (c ∷ cs) e.edit) (entry_list x)
      first None is = tt
      first (Some e) is = let w = answer_wanted n m r e c is in (record { place = 0; asking = c; stands = refl; asks = w.asks; short = w.short }, tt)

  -- the entries of the session with this number
  record AreOwnAsked (scripts : List (List Command)) (k : ℕ) (entries : List Entry) : Type 0 where
    script : List Command
    found : slice_get scripts k ≡ Some script
    each : Each (λ (e : Entry). IsEditOfScript script e.edit) entries

  sessions_asked : (n : ℕ) (journal : List Entry) (m : Memory) (scripts : List (List Command)) (replies : List (List Reply)) → AreSessions (document_core o) n journal m scripts replies → (k : ℕ) → k < length scripts
      → AreOwnAsked scripts k (entries_by_session (document_core o) (n + k) journal)
  sessions_asked n journal m [] replies are k within = absurd (omega (arith, within))
  sessions_asked n journal m (cs ∷ scripts) [] are k within = absurd are
  sessions_asked n journal m (cs ∷ scripts) (rs ∷ replies) are zero within =
      let number : n ≡ n + 0 = omega arith in
      subst (λ (i : ℕ). AreOwnAsked (cs ∷ scripts) 0 (entries_by_session (document_core o) i journal)) number (record {
        script = cs;
        found = refl;
        each = subst (Each (λ (e : Entry). IsEditOfScript cs e.edit)) (sym are.1) (entries_asked n m cs rs);
      })
  sessions_asked n journal m (cs ∷ scripts) (rs ∷ replies) are (suc k) within =
      let number : n + 1 + k ≡ n + suc k = omega arith in
      let a = sessions_asked (n + 1) journal m scripts replies are.2 k (omega (arith, within)) in
      subst (λ (i : ℕ). AreOwnAsked (cs ∷ scripts) (suc k) (entries_by_session (document_core o) i journal)) number (record { script = a.script; found = a.found; each = a.each })

  -- what holds of each session's own entries holds of all
  owned : (P : ℕ → Entry → Type 0) (count : ℕ) (journal : List Entry) → ((n : ℕ) → n < count → Each (P n) (entries_by_session (document_core o) n journal)) → Each (λ (e : Entry). e.session < count) journal → Each (λ (e : Entry). P e.session e) journal
  owned P count [] each few = tt
  owned P count (e ∷ journal) each few = (
    (subst (λ (t : Bool). Each (P e.session) (cond t (e ∷ entries_by_session (document_core o) e.session journal) (entries_by_session (document_core o) e.session journal))) (eq-eqb e.session e.session refl) (each e.session few.0)).0,
    owned P count journal (λ n within. behind n (e.session == n) (each n within)) few.1,
  )
    where
      behind : (n : ℕ) (t : Bool) → Each (P n) (cond t (e ∷ entries_by_session (document_core o) n journal) (entries_by_session (document_core o) n journal)) → Each (P n) (entries_by_session (document_core o) n journal)
      behind n true h = h.1
      behind n false h = h

  in_scripts : (scripts : List (List Command)) (n : ℕ) (e : Entry) → e.session ≡ n → (script : List Command) → slice_get scripts n ≡ Some script → IsEditOfScript script e.edit → IsAskedIn scripts e
  in_scripts scripts n e is script found asked = record { script = script; session = ap (slice_get scripts) is ∙ found; asked = asked }

  -- each entry of a legal journal
  pub all_asked : (scripts : List (List Command)) (journal : List Entry) (replies : List (List Reply)) → IsLegal o scripts journal replies → Each (IsAskedIn scripts) journal
  all_asked scripts journal replies legal =
      each_weaker (λ (e : Entry). (e.session ≡ e.session → IsAskedIn scripts e)) (IsAskedIn scripts) (λ e f. f refl) journal
      (owned (λ n e. e.session ≡ n → IsAskedIn scripts e) (length scripts) journal
      (λ n within. let a = sessions_asked 0 journal (first_memory o) scripts replies legal.sessions n within in
      subst (λ (i : ℕ). Each (λ (e : Entry). (e.session ≡ n → IsAskedIn scripts e)) (entries_by_session (document_core o) i journal)) (omega arith)
      (each_weaker (λ (e : Entry). IsEditOfScript a.script e.edit) (λ (e : Entry). (e.session ≡ n → IsAskedIn scripts e)) (λ e h is. in_scripts scripts n e is a.script a.found h) (entries_by_session (document_core o) (0 + n) journal) a.each))
      legal.numbers)
