-- Histories stay as the journal goes on, join, and are legal at the end.
use Rattle.std.proofs.Common.{◌≡◌, ◌≢◌, ℕ, ◌+◌, ◌<◌, ◌≤◌, List, [], ◌∷◌, ◌++◌, length, Option, Some, None, sym, ◌∙◌, subst, append-nil, arith}
use Rattle.std.specs.Prelude.{⊤}
use Rattle.turn_book.specs.Core.{Core, IsCore}
use Rattle.turn_book.specs.Legal.{AreSessions, IsLegalHistory}
use Rattle.turn_book.specs.Journal.{Each, Foreign, entry_list}
use Rattle.turn_book.specs.Walk.{IsReplyGiven, memory_of}
use Rattle.turn_book.specs.Histories.{IsHistory, AreHistories}
use Rattle.turn_book.proofs.Longer.{idle, walk_longer, walk_turn}
use Rattle.turn_book.proofs.Sessions.{walk_answers}

module _ {Entry Command Reply Memory : Type 0} (core : Core Entry Command Reply Memory) (laws : IsCore core) where
  others : (low high n : ℕ) (more : List Entry) → low ≤ n → n < high → Foreign core.number_of low high more → Each (λ e. core.number_of e ≢ n) more
  others low high n [] a b f = tt
  others low high n (e ∷ more) a b f = ((λ q. f.0 (omega (arith, q)) (omega (arith, q))), others low high n more a b f.1)

  -- before its first command
  pub history_starts : (n low high : ℕ) (known : List Entry) (start : Memory) → low ≤ n → n < high → Foreign core.number_of low high known → IsHistory core n known start [] []
  history_starts n low high known start a b f = idle core laws n [] known 0 start (others low high n known a b f)

  -- one more turn of the session
  pub history_turns : (n low high : ℕ) (known : List Entry) (start : Memory) (cs : List Command) (rs : List Reply) (more : List Entry) (c : Command) (r : Reply) (added : Option Entry) → low ≤ n → n < high → IsHistory core n known start cs rs → Foreign core.number_of low high more
      → core.entry_of n (memory_of core start cs rs) c r ≡ added → IsReplyGiven core n (known ++ more) (memory_of core start cs rs) c r → IsHistory core n ((known ++ more) ++ entry_list added) start (cs ++ c ∷ []) (rs ++ r ∷ [])
  history_turns n low high known start cs rs more c r added a b s f is g = walk_turn core laws n known start cs rs more c r added s (others low high n more a b f) is g

  pub histories_longer : (n low high : ℕ) (known : List Entry) (start : Memory) (cs : List (List Command)) (rs : List (List Reply)) (more : List Entry) → low ≤ n → n + length cs ≤ high → Foreign core.number_of low high more → AreHistories core n known start cs rs → AreHistories core n (known ++ more) start cs rs
  histories_longer n low high known start [] [] more a b f h = tt
  histories_longer n low high known start [] (r ∷ rs) more a b f h = absurd h
  histories_longer n low high known start (c ∷ cs) [] more a b f h = absurd h
  histories_longer n low high known start (c ∷ cs) (r ∷ rs) more a b f h =
      (walk_longer core laws n [] known 0 start c r more h.0 (others low high n more a (omega arith) f), histories_longer (n + 1) low high known start cs rs more (omega arith) (omega arith) f h.1)

  pub histories_append : (n : ℕ) (known : List Entry) (start : Memory) (cs : List (List Command)) (rs : List (List Reply)) (cs' : List (List Command)) (rs' : List (List Reply)) → AreHistories core n known start cs rs → AreHistories core (n + length cs) known start cs' rs' → AreHistories core n known start (cs ++ cs') (rs ++ rs')
  histories_append n known start [] [] cs' rs' h k = subst (λ (m : ℕ). AreHistories core m known start cs' rs') (omega arith) k
  histories_append n known start [] (r ∷ rs) cs' rs' h k = absurd h
  histories_append n known start (c ∷ cs) [] cs' rs' h k = absurd h
  histories_append n known start (c ∷ cs) (r ∷ rs) cs' rs' h k = (h.0, histories_append (n + 1) known start cs rs cs' rs' h.1 (subst (λ (m : ℕ). AreHistories core m known start cs' rs') (omega arith) k))

  histories_sessions : (n : ℕ) (known : List Entry) (start : Memory) (cs : List (List Command)) (rs : List (List Reply)) → AreHistories core n known start cs rs → AreSessions core n known start cs rs
  histories_sessions n known start [] [] h = tt
  histories_sessions n known start [] (r ∷ rs) h = absurd h
  histories_sessions n known start (c ∷ cs) [] h = absurd h
  histories_sessions n known start (c ∷ cs) (r ∷ rs) h =
      let a = walk_answers core laws (λ version seen q. ⊤) n [] known start c r 0 (omega arith) h.0 in
      (a.0, a.1, histories_sessions (n + 1) known start cs rs h.1)

  -- all sessions, at the end
  pub histories_legal : (known : List Entry) (start : Memory) (cs : List (List Command)) (rs : List (List Reply)) → AreHistories core 0 known start cs rs → Each (λ e. core.number_of e < length cs) known → IsLegalHistory core start cs known rs
  histories_legal known start cs rs h few = record { sessions = histories_sessions 0 known start cs rs h; numbers = few }

  -- who isn't n passes what n adds
  adds_others : (n m : ℕ) (memory : Memory) (c : Command) (r : Reply) (added : Option Entry) → m ≢ n → core.entry_of n memory c r ≡ added → Each (λ e. core.number_of e ≢ m) (entry_list added)
  adds_others n m memory c r None ne is = tt
  adds_others n m memory c r (Some e) ne is = ((λ q. ne (sym q ∙ laws.number n memory c r e is)), tt)

  histories_passes : (k n : ℕ) (known : List Entry) (start memory : Memory) (c : Command) (r : Reply) (added : Option Entry) (cs : List (List Command)) (rs : List (List Reply)) → n < k → core.entry_of n memory c r ≡ added → AreHistories core k known start cs rs → AreHistories core k (known ++ entry_list added) start cs rs
  histories_passes k n known start memory c r added [] [] lt is h = tt
  histories_passes k n known start memory c r added [] (q ∷ rs) lt is h = absurd h
  histories_passes k n known start memory c r added (b ∷ cs) [] lt is h = absurd h
  histories_passes k n known start memory c r added (b ∷ cs) (q ∷ rs) lt is h =
      (walk_longer core laws k [] known 0 start b q (entry_list added) h.0 (adds_others n k memory c r added (λ e. omega (arith, e)) is), histories_passes (k + 1) n known start memory c r added cs rs (omega arith) is h.1)

  -- on one thread: session n of the crew takes one turn at the journal that all know
  pub histories_turns : (k n : ℕ) (known : List Entry) (start : Memory) (before after : List (List Command)) (cs : List Command) (before' after' : List (List Reply)) (rs : List Reply) (c : Command) (r : Reply) (added : Option Entry) → length before ≡ length before' → k + length before ≡ n
      → core.entry_of n (memory_of core start cs rs) c r ≡ added → IsReplyGiven core n known (memory_of core start cs rs) c r → AreHistories core k known start (before ++ cs ∷ after) (before' ++ rs ∷ after') → AreHistories core k (known ++ entry_list added) start (before ++ (cs ++ c ∷ []) ∷ after) (before' ++ (rs ++ r ∷ []) ∷ after')
  histories_turns k n known start [] after cs [] after' rs c r added len place is given h =
      let same : k ≡ n = omega (arith, place) in
      let own : IsHistory core n known start cs rs = subst (λ (j : ℕ). IsHistory core j known start cs rs) same h.0 in
      let turned : IsHistory core n ((known ++ []) ++ entry_list added) start (cs ++ c ∷ []) (rs ++ r ∷ []) =
      history_turns n n (n + 1) known start cs rs [] c r added (omega arith) (omega arith) own tt is (subst (λ (j : List Entry). IsReplyGiven core n j (memory_of core start cs rs) c r) (sym (append-nil known)) given) in (
        subst (λ (j : ℕ). IsHistory core j (known ++ entry_list added) start (cs ++ c ∷ []) (rs ++ r ∷ [])) (sym same) (subst (λ (j : List Entry). IsHistory core n (j ++ entry_list added) start (cs ++ c ∷ []) (rs ++ r ∷ [])) (append-nil known) turned),
        histories_passes (k + 1) n known start (memory_of core start cs rs) c r added after after' (omega arith) is h.1,
      )
  histories_turns k n known start [] after cs (q ∷ before') after' rs c r added len place is given h = absurd (cc)
  histories_turns k n known start (b ∷ before) after cs [] after' rs c r added len place is given h = absurd (cc)
  histories_turns k n known start (b ∷ before) after cs (q ∷ before') after' rs c r added len place is given h = (
    walk_longer core laws k [] known 0 start b q (entry_list added) h.0 (adds_others n k (memory_of core start cs rs) c r added (λ e. omega (arith, e, place)) is),
    histories_turns (k + 1) n known start before after cs before' after' rs c r added (omega (arith, len)) (omega (arith, place)) is given h.1,
  )
