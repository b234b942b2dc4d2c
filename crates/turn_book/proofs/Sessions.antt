-- A session's replies are legal exactly where it walks along the journal.
use Rattle.std.proofs.Common.{◌≡◌, ◌≢◌, inl, inr, ⊎_elim, ℕ, zero, suc, ◌+◌, ◌≤◌, Bool, true, false, cond, eqb, eq-eqb, ne_eqb, List, [], ◌∷◌, ◌++◌, length, take, drop, Option, Some, None, IfSome, slice_get, unwrap_or, sym, ap, ◌∙◌, refl, subst, append_assoc, append-nil, length-append, arith}
use Rattle.std.proofs.lemmas.List.{take_at, take-take, take-append-drop, append_cancel_left, length-take-le}
use Rattle.turn_book.specs.Core.{Core, IsCore}
use Rattle.turn_book.specs.Legal.{seen_after, entries_by_session, entries_of_session, IsAnswerAt, AreSessionAnswers}
use Rattle.turn_book.specs.Journal.{entry_list}
use Rattle.turn_book.specs.Interleavings.{IsInPlace}
use Rattle.turn_book.specs.Walk.{IsReplyGiven, Walks, ends, passes, hears, enters}

-- lists
found_at : {A : Type 0} (xs ys : List A) (x : A) → slice_get (xs ++ x ∷ ys) (length xs) ≡ Some x
found_at [] ys x = refl
found_at (y ∷ xs) ys x = found_at xs ys x

drop_found : {A : Type 0} (xs : List A) (k : ℕ) (x : A) → slice_get xs k ≡ Some x → drop k xs ≡ x ∷ drop (suc k) xs
drop_found [] k x h = absurd (cc)
drop_found (y ∷ ys) zero x h = let e : y ≡ x = cc in ap (λ z. z ∷ ys) e
drop_found (y ∷ ys) (suc k) x h = drop_found ys k x h

cond_longer : {A : Type 0} (b : Bool) (x : A) (xs : List A) → length xs ≤ length (cond b (x ∷ xs) xs)
cond_longer true x xs = omega arith
cond_longer false x xs = omega arith

-- the part of xs ++ ys between the end of xs and place b
hop : {A : Type 0} (all xs ys : List A) (b : ℕ) → all ≡ xs ++ ys → length xs ≤ b → b ≤ length all → (mid : List A) × (take b all ≡ xs ++ mid) × (ys ≡ mid ++ drop b all) × (length (take b all) ≡ b)
hop all xs ys b is low high =
    let mid = drop (length xs) (take b all) in
    let front : take (length xs) (take b all) ≡ xs = take-take (length xs) b all low ∙ (ap (take (length xs)) is ∙ take_at xs ys (length xs) refl) in
    let here : take b all ≡ xs ++ mid = sym (take-append-drop (length xs) (take b all)) ∙ ap (λ l. l ++ mid) front in
    let whole : xs ++ ys ≡ xs ++ (mid ++ drop b all) = sym is ∙ (sym (take-append-drop b all) ∙ (ap (λ l. l ++ drop b all) here ∙ append_assoc xs mid (drop b all))) in
    (mid, here, append_cancel_left xs ys (mid ++ drop b all) whole, length-take-le b all high)

module _ {Entry Command Reply Memory : Type 0} (core : Core Entry Command Reply Memory) (laws : IsCore core) (rule : ℕ → ℕ → Reply → Type 0) where
  own_here : (n : ℕ) (e : Entry) (rest : List Entry) → core.number_of e ≡ n → entries_by_session core n (e ∷ rest) ≡ e ∷ entries_by_session core n rest
  own_here n e rest is = ap (λ (b : Bool). cond b (e ∷ entries_by_session core n rest) (entries_by_session core n rest)) (eq-eqb (core.number_of e) n is)

  own_other : (n : ℕ) (e : Entry) (rest : List Entry) → core.number_of e ≢ n → entries_by_session core n (e ∷ rest) ≡ entries_by_session core n rest
  own_other n e rest ne = ap (λ (b : Bool). cond b (e ∷ entries_by_session core n rest) (entries_by_session core n rest)) (ne_eqb (core.number_of e) n ne)

  -- A walk's replies are legal.
  heard_at : (n : ℕ) (before rest : List Entry) (seen : ℕ) (memory : Memory) (c : Command) (r : Reply) → seen ≤ length before → core.entry_of n memory c r ≡ None → core.answers n before memory c r
      → IsAnswerAt core (core.base_of r) n (before ++ rest) seen memory c r × (unwrap_or (core.version_of r) seen ≤ length before)
  heard_at n before rest seen memory c r low none right = ⊎_elim
      (λ h. (
        subst (λ (o : Option ℕ). IsAnswerAt core o n (before ++ rest) seen memory c r) (sym h.0) (
          low,
          omega (arith, length-append before rest),
          subst (λ (j : List Entry). core.answers n j memory c r) (sym (take_at before rest (length before) refl)) right,
          subst (λ (o : Option Entry). IfSome o (λ e. slice_get (before ++ rest) (length before) ≡ Some e)) (sym none) tt,
        ),
        subst (λ (o : Option ℕ). unwrap_or o seen ≤ length before) (sym h.1) (omega arith),
      ))
      (λ h. (
        subst (λ (o : Option ℕ). IsAnswerAt core o n (before ++ rest) seen memory c r) (sym h.0) (laws.free n before [] memory c r right h.0),
        subst (λ (o : Option ℕ). unwrap_or o seen ≤ length before) (sym h.1) low,
      ))
      (laws.stays n before memory c r right none)

  entered_at : (n : ℕ) (before : List Entry) (e : Entry) (rest : List Entry) (seen : ℕ) (memory : Memory) (c : Command) (r : Reply) → seen ≤ length before → core.entry_of n memory c r ≡ Some e → core.answers n before memory c r
      → IsAnswerAt core (core.base_of r) n (before ++ e ∷ rest) seen memory c r × (unwrap_or (core.version_of r) seen ≡ length before + 1)
  entered_at n before e rest seen memory c r low some right = let h = laws.enters n before memory c r e right some in (
    subst (λ (o : Option ℕ). IsAnswerAt core o n (before ++ e ∷ rest) seen memory c r) (sym h.0) (
      low,
      omega (arith, length-append before (e ∷ rest)),
      subst (λ (j : List Entry). core.answers n j memory c r) (sym (take_at before (e ∷ rest) (length before) refl)) right,
      subst (λ (o : Option Entry). IfSome o (λ x. slice_get (before ++ e ∷ rest) (length before) ≡ Some x)) (sym some) (found_at before rest e),
    ),
    ap (λ (o : Option ℕ). unwrap_or o seen) h.1,
  )

  abbrev Answered : ℕ → List Entry → List Entry → ℕ → Memory → List Command → List Reply → Type 0
  Answered n before rest seen memory cs rs = AreSessionAnswers core n (before ++ rest) seen memory cs rs × (entries_by_session core n rest ≡ entries_of_session core n memory cs rs)

  pub walk_answers : (n : ℕ) (before rest : List Entry) (memory : Memory) (cs : List Command) (rs : List Reply) (seen : ℕ) → seen ≤ length before → Walks core rule n before rest seen memory cs rs → Answered n before rest seen memory cs rs
  walk_answers n before rest memory cs rs seen low (ends _ _ _) = (tt, refl)
  walk_answers n before rest memory cs rs seen low (passes _ e rest' _ _ _ _ ne walk) =
      let h = walk_answers n (before ++ e ∷ []) rest' memory cs rs seen (omega (arith, length-append before (e ∷ []))) walk in
      (subst (λ (j : List Entry). AreSessionAnswers core n j seen memory cs rs) (append_assoc before (e ∷ []) rest') h.0, own_other n e rest' ne ∙ h.1)
  walk_answers n before rest memory cs rs seen low (hears _ _ _ _ c cs' r rs' none given place walk) =
      let memory' = core.memory_after memory c r in
      let same : entries_of_session core n memory (c ∷ cs') (r ∷ rs') ≡ entries_of_session core n memory' cs' rs' = ap (λ (o : Option Entry). entry_list o ++ entries_of_session core n memory' cs' rs') none in
      ⊎_elim
      (λ h. let is : unwrap_or (core.version_of r) seen ≡ seen = ap (λ (q : Reply). unwrap_or (core.version_of q) seen) h ∙ ap (λ (o : Option ℕ). unwrap_or o seen) laws.short_version in
      let i = walk_answers n before rest memory' cs' rs' (unwrap_or (core.version_of r) seen) (omega (arith, is)) walk in
      ((inl h, i.0), i.1 ∙ sym same))
      (λ h. let a = heard_at n before rest seen memory c r low none h in
      let i = walk_answers n before rest memory' cs' rs' (unwrap_or (core.version_of r) seen) a.1 walk in
      ((inr a.0, i.0), i.1 ∙ sym same))
      given
  walk_answers n before rest memory cs rs seen low (enters _ e rest' _ _ c cs' r rs' some right place walk) =
      let memory' = core.memory_after memory c r in
      let a = entered_at n before e rest' seen memory c r low some right in
      let i = walk_answers n (before ++ e ∷ []) rest' memory' cs' rs' (unwrap_or (core.version_of r) seen) (omega (arith, a.1, length-append before (e ∷ []))) walk in
      let same : entries_of_session core n memory (c ∷ cs') (r ∷ rs') ≡ e ∷ entries_of_session core n memory' cs' rs' = ap (λ (o : Option Entry). entry_list o ++ entries_of_session core n memory' cs' rs') some in (
        (inr a.0, subst (λ (j : List Entry). AreSessionAnswers core n j (unwrap_or (core.version_of r) seen) memory' cs' rs') (append_assoc before (e ∷ []) rest') i.0),
        own_here n e rest' (laws.number n memory c r e some) ∙ (ap (λ (l : List Entry). e ∷ l) i.1 ∙ sym same),
      )

  -- Legal replies stray along the journal: they may pass own entries. Where none is left over, that is a walk.
  data Strays (n : ℕ) : List Entry → List Entry → ℕ → Memory → List Command → List Reply → Type 0 where
    ended : (before : List Entry) (seen : ℕ) (memory : Memory) → Strays n before [] seen memory [] []
    passed : (before : List Entry) (e : Entry) (rest : List Entry) (seen : ℕ) (memory : Memory) (cs : List Command) (rs : List Reply) → Strays n (before ++ e ∷ []) rest seen memory cs rs → Strays n before (e ∷ rest) seen memory cs rs
    heard : (before rest : List Entry) (seen : ℕ) (memory : Memory) (c : Command) (cs : List Command) (r : Reply) (rs : List Reply) → core.entry_of n memory c r ≡ None → IsReplyGiven core n before memory c r → IsInPlace core (length before) seen r
        → Strays n before rest (seen_after core seen r) (core.memory_after memory c r) cs rs → Strays n before rest seen memory (c ∷ cs) (r ∷ rs)
    entered : (before : List Entry) (e : Entry) (rest : List Entry) (seen : ℕ) (memory : Memory) (c : Command) (cs : List Command) (r : Reply) (rs : List Reply) → core.entry_of n memory c r ≡ Some e → core.answers n before memory c r → IsInPlace core (length before) seen r
        → Strays n (before ++ e ∷ []) rest (seen_after core seen r) (core.memory_after memory c r) cs rs → Strays n before (e ∷ rest) seen memory (c ∷ cs) (r ∷ rs)

  own_more : (n : ℕ) (e : Entry) (rest : List Entry) → length (entries_by_session core n rest) ≤ length (entries_by_session core n (e ∷ rest))
  own_more n e rest = cond_longer (eqb (core.number_of e) n) e (entries_by_session core n rest)

  few_entries : (n : ℕ) (before rest : List Entry) (seen : ℕ) (memory : Memory) (cs : List Command) (rs : List Reply) → Strays n before rest seen memory cs rs → length (entries_of_session core n memory cs rs) ≤ length (entries_by_session core n rest)
  few_entries n before rest seen memory cs rs (ended _ _ _) = omega arith
  few_entries n before rest seen memory cs rs (passed _ e rest' _ _ _ _ s) = omega (arith, few_entries n (before ++ e ∷ []) rest' seen memory cs rs s, own_more n e rest')
  few_entries n before rest seen memory cs rs (heard _ _ _ _ c cs' r rs' none given place s) =
      let same : entries_of_session core n memory (c ∷ cs') (r ∷ rs') ≡ entries_of_session core n (core.memory_after memory c r) cs' rs' = ap (λ (o : Option Entry). entry_list o ++ entries_of_session core n (core.memory_after memory c r) cs' rs') none in
      omega (arith, few_entries n before rest (seen_after core seen r) (core.memory_after memory c r) cs' rs' s, ap length same)
  few_entries n before rest seen memory cs rs (entered _ e rest' _ _ c cs' r rs' some right place s) =
      let same : entries_of_session core n memory (c ∷ cs') (r ∷ rs') ≡ e ∷ entries_of_session core n (core.memory_after memory c r) cs' rs' = ap (λ (o : Option Entry). entry_list o ++ entries_of_session core n (core.memory_after memory c r) cs' rs') some in
      omega (arith, few_entries n (before ++ e ∷ []) rest' (seen_after core seen r) (core.memory_after memory c r) cs' rs' s, ap length same, ap length (own_here n e rest' (laws.number n memory c r e some)))

  strays_walk : (n : ℕ) (before rest : List Entry) (seen : ℕ) (memory : Memory) (cs : List Command) (rs : List Reply) → Strays n before rest seen memory cs rs → length (entries_by_session core n rest) ≤ length (entries_of_session core n memory cs rs) → Walks core (IsInPlace core) n before rest seen memory cs rs
  strays_walk n before rest seen memory cs rs (ended _ _ _) few = ends before seen memory
  strays_walk n before rest seen memory cs rs (passed _ e rest' _ _ _ _ s) few =
      let entries = few_entries n (before ++ e ∷ []) rest' seen memory cs rs s in
      let ne : core.number_of e ≢ n = λ is. omega (arith, few, entries, ap length (own_here n e rest' is)) in
      passes before e rest' seen memory cs rs ne (strays_walk n (before ++ e ∷ []) rest' seen memory cs rs s (omega (arith, few, own_more n e rest')))
  strays_walk n before rest seen memory cs rs (heard _ _ _ _ c cs' r rs' none given place s) few =
      let same : entries_of_session core n memory (c ∷ cs') (r ∷ rs') ≡ entries_of_session core n (core.memory_after memory c r) cs' rs' = ap (λ (o : Option Entry). entry_list o ++ entries_of_session core n (core.memory_after memory c r) cs' rs') none in
      hears before rest seen memory c cs' r rs' none given place (strays_walk n before rest (seen_after core seen r) (core.memory_after memory c r) cs' rs' s (omega (arith, few, ap length same)))
  strays_walk n before rest seen memory cs rs (entered _ e rest' _ _ c cs' r rs' some right place s) few =
      let same : entries_of_session core n memory (c ∷ cs') (r ∷ rs') ≡ e ∷ entries_of_session core n (core.memory_after memory c r) cs' rs' = ap (λ (o : Option Entry). entry_list o ++ entries_of_session core n (core.memory_after memory c r) cs' rs') some in
      enters before e rest' seen memory c cs' r rs' some right place (strays_walk n (before ++ e ∷ []) rest' (seen_after core seen r) (core.memory_after memory c r) cs' rs' s (omega (arith, few, ap length same, ap length (own_here n e rest' (laws.number n memory c r e some)))))

  stray_past : (n : ℕ) (mid before rest : List Entry) (seen : ℕ) (memory : Memory) (cs : List Command) (rs : List Reply) → Strays n (before ++ mid) rest seen memory cs rs → Strays n before (mid ++ rest) seen memory cs rs
  stray_past n [] before rest seen memory cs rs s = subst (λ (j : List Entry). Strays n j rest seen memory cs rs) (append-nil before) s
  stray_past n (e ∷ mid) before rest seen memory cs rs s = passed before e (mid ++ rest) seen memory cs rs (stray_past n mid (before ++ e ∷ []) rest seen memory cs rs (subst (λ (j : List Entry). Strays n j rest seen memory cs rs) (sym (append_assoc before (e ∷ []) mid)) s))

  -- from the place b of the journal back to an earlier one
  stray_back : (n : ℕ) (all before rest : List Entry) (b seen : ℕ) (memory : Memory) (cs : List Command) (rs : List Reply) → all ≡ before ++ rest → length before ≤ b → b ≤ length all → Strays n (take b all) (drop b all) seen memory cs rs → Strays n before rest seen memory cs rs
  stray_back n all before rest b seen memory cs rs is low high s = let h = hop all before rest b is low high in
      subst (λ (j : List Entry). Strays n before j seen memory cs rs) (sym h.2) (stray_past n h.0 before (drop b all) seen memory cs rs (subst (λ (j : List Entry). Strays n j (drop b all) seen memory cs rs) h.1 s))

  -- the replies that come after
  abbrev Later : ℕ → List Entry → Memory → List Command → List Reply → Type 0
  Later n all memory cs rs = (seen : ℕ) → AreSessionAnswers core n all seen memory cs rs → (before rest : List Entry) → all ≡ before ++ rest → length before ≡ seen → Strays n before rest seen memory cs rs

  stray_heard : (n : ℕ) (all : List Entry) (memory : Memory) (c : Command) (cs : List Command) (r : Reply) (rs : List Reply) (seen b : ℕ) (before rest : List Entry) → all ≡ before ++ rest → length before ≡ seen → seen ≤ b → b ≤ length all → core.answers n (take b all) memory c r
      → core.entry_of n memory c r ≡ None → core.base_of r ≡ Some b → AreSessionAnswers core n all (seen_after core seen r) (core.memory_after memory c r) cs rs → Later n all (core.memory_after memory c r) cs rs → Strays n before rest seen memory (c ∷ cs) (r ∷ rs)
  stray_heard n all memory c cs r rs seen b before rest is len low high right none base more later =
      let length_is : length (take b all) ≡ b = length-take-le b all high in
      let version : seen_after core seen r ≡ b = ⊎_elim (λ h. ap (λ (o : Option ℕ). unwrap_or o seen) h.1 ∙ length_is) (λ h. absurd (cc)) (laws.stays n (take b all) memory c r right none) in
      stray_back n all before rest b seen memory (c ∷ cs) (r ∷ rs) is (omega arith) high
      (heard (take b all) (drop b all) seen memory c cs r rs none (inr right) (length_is ∙ sym (ap (λ (o : Option ℕ). unwrap_or o seen) base)) (later (seen_after core seen r) more (take b all) (drop b all) (sym (take-append-drop b all)) (length_is ∙ sym version)))

  stray_entered : (n : ℕ) (all : List Entry) (e : Entry) (memory : Memory) (c : Command) (cs : List Command) (r : Reply) (rs : List Reply) (seen b : ℕ) (before rest : List Entry) → all ≡ before ++ rest → length before ≡ seen → seen ≤ b → b ≤ length all → core.answers n (take b all) memory c r
      → core.entry_of n memory c r ≡ Some e → slice_get all b ≡ Some e → AreSessionAnswers core n all (seen_after core seen r) (core.memory_after memory c r) cs rs → Later n all (core.memory_after memory c r) cs rs → Strays n before rest seen memory (c ∷ cs) (r ∷ rs)
  stray_entered n all e memory c cs r rs seen b before rest is len low high right some at more later =
      let length_is : length (take b all) ≡ b = length-take-le b all high in
      let version : seen_after core seen r ≡ b + 1 = ap (λ (o : Option ℕ). unwrap_or o seen) (laws.enters n (take b all) memory c r e right some).1 ∙ ap (λ (k : ℕ). k + 1) length_is in
      let next : drop b all ≡ e ∷ drop (suc b) all = drop_found all b e at in
      let whole : all ≡ (take b all ++ e ∷ []) ++ drop (suc b) all = sym (take-append-drop b all) ∙ (ap (λ (l : List Entry). take b all ++ l) next ∙ sym (append_assoc (take b all) (e ∷ []) (drop (suc b) all))) in
      stray_back n all before rest b seen memory (c ∷ cs) (r ∷ rs) is (omega arith) high
      (subst (λ (j : List Entry). Strays n (take b all) j seen memory (c ∷ cs) (r ∷ rs)) (sym next)
      (entered (take b all) e (drop (suc b) all) seen memory c cs r rs some right (sym (ap (λ (o : Option ℕ). unwrap_or o seen) (laws.enters n (take b all) memory c r e right some).0))
      (later (seen_after core seen r) more (take b all ++ e ∷ []) (drop (suc b) all) whole (length-append (take b all) (e ∷ []) ∙ (ap (λ (k : ℕ). k + 1) length_is ∙ sym version)))))

  stray_short : (n : ℕ) (all : List Entry) (memory : Memory) (c : Command) (cs : List Command) (r : Reply) (rs : List Reply) (seen : ℕ) (before rest : List Entry) → all ≡ before ++ rest → length before ≡ seen → core.entry_of n memory c r ≡ None → core.version_of r ≡ None → core.base_of r ≡ None → IsReplyGiven core n before memory c r
      → AreSessionAnswers core n all (seen_after core seen r) (core.memory_after memory c r) cs rs → Later n all (core.memory_after memory c r) cs rs → Strays n before rest seen memory (c ∷ cs) (r ∷ rs)
  stray_short n all memory c cs r rs seen before rest is len none version base given more later =
      heard before rest seen memory c cs r rs none given (len ∙ sym (ap (λ (o : Option ℕ). unwrap_or o seen) base)) (later (seen_after core seen r) more before rest is (len ∙ sym (ap (λ (o : Option ℕ). unwrap_or o seen) version)))

  stray_answer : (n : ℕ) (all : List Entry) (memory : Memory) (c : Command) (cs : List Command) (r : Reply) (rs : List Reply) (seen : ℕ) (before rest : List Entry) → all ≡ before ++ rest → length before ≡ seen
      → (base : Option ℕ) → core.base_of r ≡ base → (entry : Option Entry) → core.entry_of n memory c r ≡ entry → IsAnswerAt core base n all seen memory c r
      → AreSessionAnswers core n all (seen_after core seen r) (core.memory_after memory c r) cs rs → Later n all (core.memory_after memory c r) cs rs → Strays n before rest seen memory (c ∷ cs) (r ∷ rs)
  stray_answer n all memory c cs r rs seen before rest is len None base None none a more later =
      stray_short n all memory c cs r rs seen before rest is len none (⊎_elim (λ h. absurd (cc)) (λ h. h.1) (laws.stays n [] memory c r a none)) base (inr (laws.free n [] before memory c r a base)) more later
  stray_answer n all memory c cs r rs seen before rest is len None base (Some e) some a more later = let h = laws.enters n [] memory c r e a some in absurd (cc)
  stray_answer n all memory c cs r rs seen before rest is len (Some b) base None none a more later = stray_heard n all memory c cs r rs seen b before rest is len a.0 a.1 a.2 none base more later
  stray_answer n all memory c cs r rs seen before rest is len (Some b) base (Some e) some a more later =
      stray_entered n all e memory c cs r rs seen b before rest is len a.0 a.1 a.2 some (subst (λ (o : Option Entry). IfSome o (λ x. slice_get all b ≡ Some x)) some a.3) more later

  strays : (n : ℕ) (all : List Entry) (memory : Memory) (cs : List Command) (rs : List Reply) → Later n all memory cs rs
  strays n all memory [] [] seen a before rest is len = subst (λ (j : List Entry). Strays n before j seen memory [] []) (append-nil rest) (stray_past n rest before [] seen memory [] [] (ended (before ++ rest) seen memory))
  strays n all memory [] (r ∷ rs) seen a before rest is len = absurd a
  strays n all memory (c ∷ cs) [] seen a before rest is len = absurd a
  strays n all memory (c ∷ cs) (r ∷ rs) seen a before rest is len = ⊎_elim
      (λ h. stray_short n all memory c cs r rs seen before rest is len (ap (core.entry_of n memory c) h ∙ laws.short_entry n memory c) (ap core.version_of h ∙ laws.short_version) (ap core.base_of h ∙ laws.short_base) (inl h) a.1 (strays n all (core.memory_after memory c r) cs rs))
      (λ h. stray_answer n all memory c cs r rs seen before rest is len (core.base_of r) refl (core.entry_of n memory c r) refl h a.1 (strays n all (core.memory_after memory c r) cs rs))
      a.0

  pub answers_walk : (n : ℕ) (all : List Entry) (memory : Memory) (cs : List Command) (rs : List Reply) → AreSessionAnswers core n all 0 memory cs rs → entries_by_session core n all ≡ entries_of_session core n memory cs rs → Walks core (IsInPlace core) n [] all 0 memory cs rs
  answers_walk n all memory cs rs a owned = strays_walk n [] all 0 memory cs rs (strays n all memory cs rs 0 a [] all refl refl) (omega (arith, ap length owned))
