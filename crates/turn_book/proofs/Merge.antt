-- Walks along one journal are the play of one order.
use Rattle.std.proofs.Common.{◌≡◌, ◌≢◌, ◌⊎◌, inl, inr, ⊎_elim, ℕ, suc, ◌+◌, ◌<◌, ◌≤◌, Bool, true, false, List, [], ◌∷◌, ◌++◌, length, Option, Some, None, sym, ap, ◌∙◌, refl, subst, append_assoc, append-nil, length-append, arith}
use Rattle.turn_book.specs.Core.{Core, IsCore}
use Rattle.turn_book.specs.Legal.{seen_after}
use Rattle.turn_book.specs.Journal.{Each, entry_list}
use Rattle.turn_book.specs.Interleavings.{Event, Waiting, TakesNextCommand, sessions_after, journal_after, IsSessionDone, Plays}
use Rattle.turn_book.specs.Walk.{IsReplyGiven, Walks, ends, passes, hears, enters, AllWalk}

module _ {Entry Command Reply Memory : Type 0} (core : Core Entry Command Reply Memory) (laws : IsCore core) (rule : ℕ → ℕ → Reply → Type 0) where
  abbrev W : Type 0
  W = Waiting Command Reply Memory

  abbrev waits : ℕ → Memory → List Command → List Reply → W
  waits seen memory cs rs = record { seen = seen; memory = memory; commands = cs; replies = rs }

  -- some events play the sessions from this journal
  abbrev Played : List Entry → List W → List Entry → Type 0
  Played before ws after = (events : List Event) × Plays core rule events before ws after

  -- session n has taken all replies that it takes at this journal
  abbrev Stopped : ℕ → List Entry → List Entry → W → Type 0
  Stopped n before [] w = IsSessionDone core rule w
  Stopped n before (e ∷ rest) w = ((core.number_of e ≢ n) × Walks core rule n (before ++ e ∷ []) rest w.seen w.memory w.commands w.replies)
      ⊎ ((c : Command) × (cs : List Command) × (r : Reply) × (rs : List Reply) × (w ≡ waits w.seen w.memory (c ∷ cs) (r ∷ rs)) × (core.entry_of n w.memory c r ≡ Some e) × core.answers n before w.memory c r × rule (length before) w.seen r
      × Walks core rule n (before ++ e ∷ []) rest (seen_after core w.seen r) (core.memory_after w.memory c r) cs rs)

  abbrev AllStopped : ℕ → List Entry → List Entry → List W → Type 0
  AllStopped n before rest [] = Unit {0}
  AllStopped n before rest (w ∷ ws) = Stopped n before rest w × AllStopped (n + 1) before rest ws

  event_of : (n : ℕ) (before : List Entry) (memory : Memory) (c : Command) (r : Reply) → IsReplyGiven core n before memory c r → (b : Bool) × (b ≡ true → r ≡ core.short) × (b ≡ false → core.answers n before memory c r)
  event_of n before memory c r g = ⊎_elim (λ h. (true, (λ e. h), (λ e. absurd (cc)))) (λ h. (false, (λ e. absurd (cc)), (λ e. h))) g

  -- a reply that enters nothing
  heard : (front back : List W) (before : List Entry) (seen : ℕ) (memory : Memory) (c : Command) (cs : List Command) (r : Reply) (rs : List Reply) (after : List Entry) → core.entry_of (length front) memory c r ≡ None → IsReplyGiven core (length front) before memory c r → rule (length before) seen r
      → Played before (front ++ waits (seen_after core seen r) (core.memory_after memory c r) cs rs ∷ back) after → Played before (front ++ waits seen memory (c ∷ cs) (r ∷ rs) ∷ back) after
  heard front back before seen memory c cs r rs after none g place p =
      let b = event_of (length front) before memory c r g in
      let event : Event = record { session = length front; is_short = b.0 } in
      let t : TakesNextCommand core rule event before (front ++ waits seen memory (c ∷ cs) (r ∷ rs) ∷ back) = record { front = front; seen = seen; placed = place; memory = memory; command = c; commands = cs; reply = r; replies = rs; back = back; number = refl; found = refl; is_short = b.1; is_answer = b.2 } in
      let same : journal_after core rule t ≡ before = ap (λ (o : Option Entry). before ++ entry_list o) none ∙ append-nil before in
      (event ∷ p.0, inl (t, subst (λ (j : List Entry). Plays core rule p.0 j (sessions_after core rule t) after) (sym same) p.1))

  entered : (front back : List W) (before : List Entry) (e : Entry) (seen : ℕ) (memory : Memory) (c : Command) (cs : List Command) (r : Reply) (rs : List Reply) (after : List Entry) → core.entry_of (length front) memory c r ≡ Some e → core.answers (length front) before memory c r → rule (length before) seen r
      → Played (before ++ e ∷ []) (front ++ waits (seen_after core seen r) (core.memory_after memory c r) cs rs ∷ back) after → Played before (front ++ waits seen memory (c ∷ cs) (r ∷ rs) ∷ back) after
  entered front back before e seen memory c cs r rs after some g place p =
      let event : Event = record { session = length front; is_short = false } in
      let t : TakesNextCommand core rule event before (front ++ waits seen memory (c ∷ cs) (r ∷ rs) ∷ back) = record { front = front; seen = seen; placed = place; memory = memory; command = c; commands = cs; reply = r; replies = rs; back = back; number = refl; found = refl; is_short = (λ e. absurd (cc)); is_answer = (λ e. g) } in
      let same : journal_after core rule t ≡ before ++ e ∷ [] = ap (λ (o : Option Entry). before ++ entry_list o) some in
      (event ∷ p.0, inl (t, subst (λ (j : List Entry). Plays core rule p.0 j (sessions_after core rule t) after) (sym same) p.1))

  -- one session takes all that it takes at this journal
  drained : (front back : List W) (n : ℕ) (before rest : List Entry) (seen : ℕ) (memory : Memory) (cs : List Command) (rs : List Reply) → length front ≡ n → Walks core rule n before rest seen memory cs rs
      → (w : W) × Stopped n before rest w × ((after : List Entry) → Played before (front ++ w ∷ back) after → Played before (front ++ waits seen memory cs rs ∷ back) after)
  drained front back n before rest seen memory cs rs len (ends _ _ _) = (waits seen memory [] [], (refl, refl), (λ after p. p))
  drained front back n before rest seen memory cs rs len (passes _ e rest' _ _ _ _ other walk) = (waits seen memory cs rs, inl (other, walk), (λ after p. p))
  drained front back n before rest seen memory cs rs len (enters _ e rest' _ _ c cs' r rs' some right place walk) = (waits seen memory cs rs, inr (c, cs', r, rs', refl, some, right, place, walk), (λ after p. p))
  drained front back n before rest seen memory cs rs len (hears _ _ _ _ c cs' r rs' none given place walk) =
      let d = drained front back n before rest (seen_after core seen r) (core.memory_after memory c r) cs' rs' len walk in
      (d.0, d.1, (λ after p. heard front back before seen memory c cs' r rs' after (subst (λ (k : ℕ). core.entry_of k memory c r ≡ None) (sym len) none) (subst (λ (k : ℕ). IsReplyGiven core k before memory c r) (sym len) given) place (d.2 after p)))

  all_drained : (front : List W) (n : ℕ) (before rest : List Entry) (ws : List W) → length front ≡ n → AllWalk core rule n before rest ws
      → (vs : List W) × (length vs ≡ length ws) × AllStopped n before rest vs × ((after : List Entry) → Played before (front ++ vs) after → Played before (front ++ ws) after)
  all_drained front n before rest [] len a = ([], refl, tt, (λ after p. p))
  all_drained front n before rest (w ∷ ws) len a =
      let d = drained front ws n before rest w.seen w.memory w.commands w.replies len a.0 in
      let m : length (front ++ d.0 ∷ []) ≡ n + 1 = length-append front (d.0 ∷ []) ∙ ap (λ (k : ℕ). k + 1) len in
      let h = all_drained (front ++ d.0 ∷ []) (n + 1) before rest ws m a.1 in
      (d.0 ∷ h.0, ap suc h.1, (d.1, h.2), (λ after p. d.2 after (subst (λ (l : List W). Played before l after) (append_assoc front (d.0 ∷ []) ws) (h.3 after (subst (λ (l : List W). Played before l after) (sym (append_assoc front (d.0 ∷ []) h.0)) p)))))

  all_done : (n : ℕ) (before : List Entry) (ws : List W) → AllStopped n before [] ws → Each (IsSessionDone core rule) ws
  all_done n before [] a = tt
  all_done n before (w ∷ ws) a = (a.0, all_done (n + 1) before ws a.1)

  -- who doesn't enter the next entry passes it
  passed : (n : ℕ) (before : List Entry) (e : Entry) (rest : List Entry) (w : W) → Stopped n before (e ∷ rest) w → core.number_of e ≢ n → Walks core rule n (before ++ e ∷ []) rest w.seen w.memory w.commands w.replies
  passed n before e rest w s ne = ⊎_elim (λ h. h.1) (λ h. absurd (ne (laws.number n w.memory h.0 h.2 e h.5))) s

  all_passed : (n : ℕ) (before : List Entry) (e : Entry) (rest : List Entry) (ws : List W) → AllStopped n before (e ∷ rest) ws → core.number_of e < n → AllWalk core rule n (before ++ e ∷ []) rest ws
  all_passed n before e rest [] a lt = tt
  all_passed n before e rest (w ∷ ws) a lt = (passed n before e rest w a.0 (λ q. omega (arith, q)), all_passed (n + 1) before e rest ws a.1 (omega arith))

  -- the session that enters the next entry, and the walks after it
  pub record Picked (n : ℕ) (before : List Entry) (e : Entry) (rest : List Entry) (ws : List W) : Type 0 where
    pub front : List W
    pub seen : ℕ
    pub memory : Memory
    pub c : Command
    pub cs : List Command
    pub r : Reply
    pub rs : List Reply
    pub back : List W
    pub found : ws ≡ front ++ waits seen memory (c ∷ cs) (r ∷ rs) ∷ back
    pub number : core.number_of e ≡ n + length front
    pub some : core.entry_of (core.number_of e) memory c r ≡ Some e
    pub right : core.answers (core.number_of e) before memory c r
    pub placed : rule (length before) seen r
    pub walks : AllWalk core rule n (before ++ e ∷ []) rest (front ++ waits (seen_after core seen r) (core.memory_after memory c r) cs rs ∷ back)

  picked : (n : ℕ) (before : List Entry) (e : Entry) (rest : List Entry) (ws : List W) → AllStopped n before (e ∷ rest) ws → n ≤ core.number_of e → core.number_of e < n + length ws → Picked n before e rest ws
  picked n before e rest [] a low high = absurd (omega arith)
  picked n before e rest (w ∷ ws) a low high = ⊎_elim
      (λ h. let ne : n + 1 ≤ core.number_of e = omega (arith, (λ (q : n ≡ core.number_of e). h.0 (sym q))) in
      let p = picked (n + 1) before e rest ws a.1 ne (omega arith) in
      record { front = w ∷ p.front; seen = p.seen; placed = p.placed; memory = p.memory; c = p.c; cs = p.cs; r = p.r; rs = p.rs; back = p.back; found = ap (λ (l : List W). w ∷ l) p.found; number = omega (arith, p.number); some = p.some; right = p.right; walks = (h.1, p.walks) })
      (λ h. let is : core.number_of e ≡ n = laws.number n w.memory h.0 h.2 e h.5 in
      record { front = []; seen = w.seen; placed = h.7; memory = w.memory; c = h.0; cs = h.1; r = h.2; rs = h.3; back = ws; found = ap (λ (v : W). v ∷ ws) h.4; number = omega arith; some = subst (λ (k : ℕ). core.entry_of k w.memory h.0 h.2 ≡ Some e) (sym is) h.5; right = subst (λ (k : ℕ). core.answers k before w.memory h.0 h.2) (sym is) h.6; walks = (h.8, all_passed (n + 1) before e rest ws a.1 (omega arith)) })
      a.0

  same_length : (front back : List W) (v w : W) → length (front ++ v ∷ back) ≡ length (front ++ w ∷ back)
  same_length front back v w = length-append front (v ∷ back) ∙ sym (length-append front (w ∷ back))

  -- the next entry is entered, and the play goes on
  next_entered : (before : List Entry) (e : Entry) (rest : List Entry) (ws : List W) (p : Picked 0 before e rest ws) → Played (before ++ e ∷ []) (p.front ++ waits (seen_after core p.seen p.r) (core.memory_after p.memory p.c p.r) p.cs p.rs ∷ p.back) ((before ++ e ∷ []) ++ rest) → Played before ws (before ++ e ∷ rest)
  next_entered before e rest ws p h =
      let is : core.number_of e ≡ length p.front = omega (arith, p.number) in
      subst (λ (l : List W). Played before l (before ++ e ∷ rest)) (sym p.found)
      (entered p.front p.back before e p.seen p.memory p.c p.cs p.r p.rs (before ++ e ∷ rest) (subst (λ (k : ℕ). core.entry_of k p.memory p.c p.r ≡ Some e) is p.some) (subst (λ (k : ℕ). core.answers k before p.memory p.c p.r) is p.right) p.placed
      (subst (λ (j : List Entry). Played (before ++ e ∷ []) (p.front ++ waits (seen_after core p.seen p.r) (core.memory_after p.memory p.c p.r) p.cs p.rs ∷ p.back) j) (append_assoc before (e ∷ []) rest) h))

  next_count : (before : List Entry) (e : Entry) (rest : List Entry) (ws : List W) (p : Picked 0 before e rest ws) → length (p.front ++ waits (seen_after core p.seen p.r) (core.memory_after p.memory p.c p.r) p.cs p.rs ∷ p.back) ≡ length ws
  next_count before e rest ws p = same_length p.front p.back (waits (seen_after core p.seen p.r) (core.memory_after p.memory p.c p.r) p.cs p.rs) (waits p.seen p.memory (p.c ∷ p.cs) (p.r ∷ p.rs)) ∙ ap length (sym p.found)

  -- one session enters the next entry, and the play goes on
  goes_on : (before : List Entry) (e : Entry) (rest : List Entry) (ws vs : List W) → length vs ≡ length ws → Picked 0 before e rest vs
      → ((us : List W) → length us ≡ length ws → AllWalk core rule 0 (before ++ e ∷ []) rest us → Played (before ++ e ∷ []) us ((before ++ e ∷ []) ++ rest)) → Played before vs (before ++ e ∷ rest)
  goes_on before e rest ws vs len p on =
      next_entered before e rest vs p (on (p.front ++ waits (seen_after core p.seen p.r) (core.memory_after p.memory p.c p.r) p.cs p.rs ∷ p.back) (next_count before e rest vs p ∙ len) p.walks)

  -- walks along one journal are the play of one order
  pub merged : (rest before : List Entry) (ws : List W) → AllWalk core rule 0 before rest ws → Each (λ e. core.number_of e < length ws) rest → Played before ws (before ++ rest)
  merged [] before ws a few =
      let d = all_drained [] 0 before [] ws refl a in
      d.3 (before ++ []) ([], (append-nil before, all_done 0 before d.0 d.2))
  merged (e ∷ rest) before ws a few =
      let d = all_drained [] 0 before (e ∷ rest) ws refl a in
      d.3 (before ++ e ∷ rest) (goes_on before e rest ws d.0 d.1 (picked 0 before e rest d.0 d.2 (omega arith) (omega (arith, d.1, few.0))) (λ us len walk. merged rest (before ++ e ∷ []) us walk (subst (λ (k : ℕ). Each (λ x. core.number_of x < k) rest) (sym len) few.1)))
