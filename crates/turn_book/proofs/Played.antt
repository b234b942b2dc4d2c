-- In a play each session walks along the journal that it leaves.
use Rattle.std.proofs.Common.{◌≡◌, inl, inr, ⊎_elim, ℕ, ◌+◌, ◌<◌, Bool, true, false, List, [], ◌∷◌, ◌++◌, length, Option, Some, None, sym, ap, ◌∙◌, refl, subst, append_assoc, append-nil, length-append, arith}
use Rattle.turn_book.specs.Core.{Core, IsCore}
use Rattle.turn_book.specs.Legal.{seen_after}
use Rattle.turn_book.specs.Journal.{Each, entry_list}
use Rattle.turn_book.specs.Interleavings.{Event, Waiting, TakesNextCommand, sessions_after, journal_after, IsSessionDone, Plays}
use Rattle.turn_book.specs.Walk.{IsReplyGiven, Walks, ends, passes, hears, enters, AllWalk}

module _ {Entry Command Reply Memory : Type 0} (core : Core Entry Command Reply Memory) (laws : IsCore core) (rule : ℕ → ℕ → Reply → Type 0) where
  abbrev W : Type 0
  W = Waiting Command Reply Memory

  abbrev Way : ℕ → List Entry → List Entry → W → Type 0
  Way n before rest w = Walks core rule n before rest w.seen w.memory w.commands w.replies

  done_walk : (n : ℕ) (before : List Entry) (w : W) → IsSessionDone core rule w → Way n before [] w
  done_walk n before w d = subst (λ (p : List Command × List Reply). Walks core rule n before [] w.seen w.memory p.0 p.1) (sym (λ i. (d.0 i, d.1 i))) (ends before w.seen w.memory)

  all_done : (n : ℕ) (before : List Entry) (ws : List W) → Each (IsSessionDone core rule) ws → AllWalk core rule n before [] ws
  all_done n before [] a = tt
  all_done n before (w ∷ ws) a = (done_walk n before w a.0, all_done (n + 1) before ws a.1)

  given : (b : Bool) (n : ℕ) (before : List Entry) (memory : Memory) (c : Command) (r : Reply) → (b ≡ true → r ≡ core.short) → (b ≡ false → core.answers n before memory c r) → IsReplyGiven core n before memory c r
  given true n before memory c r f g = inl (f refl)
  given false n before memory c r f g = inr (g refl)

  -- one session of several walks otherwise
  changed : (k n : ℕ) (before rest : List Entry) (front back : List W) (v w : W) → k + length front ≡ n → (Way n before rest v → Way n before rest w) → AllWalk core rule k before rest (front ++ v ∷ back) → AllWalk core rule k before rest (front ++ w ∷ back)
  changed k n before rest [] back v w is f a = let same : k ≡ n = omega (arith, is) in
      (subst (λ (j : ℕ). Way j before rest w) (sym same) (f (subst (λ (j : ℕ). Way j before rest v) same a.0)), a.1)
  changed k n before rest (x ∷ front) back v w is f a = (a.0, changed (k + 1) n before rest front back v w (omega (arith, is)) f a.1)

  all_pass : (k : ℕ) (before : List Entry) (e : Entry) (rest : List Entry) (ws : List W) → core.number_of e < k → AllWalk core rule k (before ++ e ∷ []) rest ws → AllWalk core rule k before (e ∷ rest) ws
  all_pass k before e rest [] lt a = tt
  all_pass k before e rest (w ∷ ws) lt a = (passes before e rest w.seen w.memory w.commands w.replies (λ q. omega (arith, q)) a.0, all_pass (k + 1) before e rest ws (omega arith) a.1)

  -- one session of several enters the next entry, and the others pass it
  entered : (k n : ℕ) (before : List Entry) (e : Entry) (rest : List Entry) (front back : List W) (v w : W) → k + length front ≡ n → core.number_of e ≡ n → (Way n (before ++ e ∷ []) rest v → Way n before (e ∷ rest) w)
      → AllWalk core rule k (before ++ e ∷ []) rest (front ++ v ∷ back) → AllWalk core rule k before (e ∷ rest) (front ++ w ∷ back)
  entered k n before e rest [] back v w is own f a = let same : k ≡ n = omega (arith, is) in
      (subst (λ (j : ℕ). Way j before (e ∷ rest) w) (sym same) (f (subst (λ (j : ℕ). Way j (before ++ e ∷ []) rest v) same a.0)), all_pass (k + 1) before e rest back (omega (arith, own)) a.1)
  entered k n before e rest (x ∷ front) back v w is own f a =
      (passes before e rest x.seen x.memory x.commands x.replies (λ q. omega (arith, q, own, is)) a.0, entered (k + 1) n before e rest front back v w (omega (arith, is)) own f a.1)

  -- what a play from this journal shows
  abbrev Shows : List Entry → List W → List Entry → Type 0
  Shows before ws after = (rest : List Entry) × (after ≡ before ++ rest) × AllWalk core rule 0 before rest ws × Each (λ e. core.number_of e < length ws) rest

  same_length : (front back : List W) (v w : W) → length (front ++ v ∷ back) ≡ length (front ++ w ∷ back)
  same_length front back v w = length-append front (v ∷ back) ∙ sym (length-append front (w ∷ back))

  -- a turn that enters nothing
  heard : (n : ℕ) (before : List Entry) (front back : List W) (seen : ℕ) (memory : Memory) (c : Command) (cs : List Command) (r : Reply) (rs : List Reply) (after : List Entry) → length front ≡ n → core.entry_of n memory c r ≡ None → IsReplyGiven core n before memory c r → rule (length before) seen r
      → Shows before (front ++ record { seen = seen_after core seen r; memory = core.memory_after memory c r; commands = cs; replies = rs } ∷ back) after → Shows before (front ++ record { seen = seen; memory = memory; commands = c ∷ cs; replies = r ∷ rs } ∷ back) after
  heard n before front back seen memory c cs r rs after is none g place s =
      let v : W = record { seen = seen_after core seen r; memory = core.memory_after memory c r; commands = cs; replies = rs } in
      let w : W = record { seen = seen; memory = memory; commands = c ∷ cs; replies = r ∷ rs } in (
        s.0,
        s.1,
        changed 0 n before s.0 front back v w (omega (arith, is)) (λ walk. hears before s.0 seen memory c cs r rs none g place walk) s.2,
        subst (λ (k : ℕ). Each (λ e. core.number_of e < k) s.0) (same_length front back v w) s.3,
      )

  -- a turn that enters e
  entering : (n : ℕ) (before : List Entry) (e : Entry) (front back : List W) (seen : ℕ) (memory : Memory) (c : Command) (cs : List Command) (r : Reply) (rs : List Reply) (after : List Entry) → length front ≡ n → core.entry_of n memory c r ≡ Some e → core.answers n before memory c r → rule (length before) seen r
      → Shows (before ++ e ∷ []) (front ++ record { seen = seen_after core seen r; memory = core.memory_after memory c r; commands = cs; replies = rs } ∷ back) after → Shows before (front ++ record { seen = seen; memory = memory; commands = c ∷ cs; replies = r ∷ rs } ∷ back) after
  entering n before e front back seen memory c cs r rs after is some g place s =
      let v : W = record { seen = seen_after core seen r; memory = core.memory_after memory c r; commands = cs; replies = rs } in
      let w : W = record { seen = seen; memory = memory; commands = c ∷ cs; replies = r ∷ rs } in
      let own : core.number_of e ≡ n = laws.number n memory c r e some in
      let len : length (front ++ v ∷ back) ≡ length (front ++ w ∷ back) = same_length front back v w in
      let few : core.number_of e < length (front ++ w ∷ back) = omega (arith, length-append front (w ∷ back), is, own) in (
        e ∷ s.0,
        s.1 ∙ append_assoc before (e ∷ []) s.0,
        entered 0 n before e s.0 front back v w (omega (arith, is)) own (λ walk. enters before e s.0 seen memory c cs r rs some g place walk) s.2,
        (few, subst (λ (k : ℕ). Each (λ x. core.number_of x < k) s.0) len s.3),
      )

  -- want of memory enters nothing
  pub right : (b : Bool) (n : ℕ) (before : List Entry) (memory : Memory) (c : Command) (r : Reply) (e : Entry) → core.entry_of n memory c r ≡ Some e → (b ≡ true → r ≡ core.short) → (b ≡ false → core.answers n before memory c r) → core.answers n before memory c r
  right false n before memory c r e some f g = g refl
  right true n before memory c r e some f g = let none : core.entry_of n memory c r ≡ None = ap (core.entry_of n memory c) (f refl) ∙ laws.short_entry n memory c in absurd (cc)

  turn : (event : Event) (before : List Entry) (ws : List W) (t : TakesNextCommand core rule event before ws) (after : List Entry) (o : Option Entry) → core.entry_of event.session t.memory t.command t.reply ≡ o
      → Shows (before ++ entry_list o) (sessions_after core rule t) after → Shows before ws after
  turn event before ws t after None none s = subst (λ (l : List W). Shows before l after) (sym t.found)
      (heard event.session before t.front t.back t.seen t.memory t.command t.commands t.reply t.replies after t.number none (given event.is_short event.session before t.memory t.command t.reply t.is_short t.is_answer) t.placed
      (subst (λ (j : List Entry). Shows j (sessions_after core rule t) after) (append-nil before) s))
  turn event before ws t after (Some e) some s = subst (λ (l : List W). Shows before l after) (sym t.found)
      (entering event.session before e t.front t.back t.seen t.memory t.command t.commands t.reply t.replies after t.number some
      (right event.is_short event.session before t.memory t.command t.reply e some t.is_short t.is_answer) t.placed s)

  -- in a play each session walks along the journal that it leaves
  pub played : (events : List Event) (before : List Entry) (ws : List W) (after : List Entry) → Plays core rule events before ws after → Shows before ws after
  played [] before ws after p = ([], p.0 ∙ sym (append-nil before), all_done 0 before ws p.1, tt)
  played (event ∷ events) before ws after p = ⊎_elim
      (λ q. turn event before ws q.0 after (core.entry_of event.session q.0.memory q.0.command q.0.reply) refl (played events (journal_after core rule q.0) (sessions_after core rule q.0) after q.1))
      (λ q. played events before ws after q.1) p
