-- Each play is legal, and each legal pair of a journal and replies is a play.
use Rattle.std.proofs.Common.{◌≡◌, ℕ, suc, ◌+◌, ◌<◌, List, [], ◌∷◌, length, sym, ap, refl, subst, arith}
use Rattle.turn_book.specs.Core.{Core, IsCore}
use Rattle.turn_book.specs.Legal.{AreSessions, IsLegalHistory}
use Rattle.turn_book.specs.Journal.{Each}
use Rattle.turn_book.specs.Interleavings.{Event, sessions_at_start, PlaysBy, IsInPlace, IsOrderOfEvents}
use Rattle.turn_book.specs.Walk.{AllWalk}
use Rattle.turn_book.proofs.Merge.{merged}
use Rattle.turn_book.proofs.Played.{played}
use Rattle.turn_book.proofs.Sessions.{walk_answers, answers_walk}

module _ {Entry Command Reply Memory : Type 0} (core : Core Entry Command Reply Memory) (laws : IsCore core) (start : Memory) where
  sessions_walk : (n : ℕ) (journal : List Entry) (scripts : List (List Command)) (replies : List (List Reply)) → AreSessions core n journal start scripts replies → AllWalk core (IsInPlace core) n [] journal (sessions_at_start core (IsInPlace core) start scripts replies)
  sessions_walk n journal [] rs a = tt
  sessions_walk n journal (c ∷ cs) [] a = absurd a
  sessions_walk n journal (c ∷ cs) (r ∷ rs) a = (answers_walk core laws (IsInPlace core) n journal start c r a.0 a.1, sessions_walk (n + 1) journal cs rs a.2)

  one_each : (n : ℕ) (journal : List Entry) (scripts : List (List Command)) (replies : List (List Reply)) → AreSessions core n journal start scripts replies → length replies ≡ length scripts
  one_each n journal [] [] a = refl
  one_each n journal [] (r ∷ rs) a = absurd a
  one_each n journal (c ∷ cs) [] a = absurd a
  one_each n journal (c ∷ cs) (r ∷ rs) a = ap suc (one_each (n + 1) journal cs rs a.2)

module _ {Entry Command Reply Memory : Type 0} (core : Core Entry Command Reply Memory) (laws : IsCore core) (rule : ℕ → ℕ → Reply → Type 0) (start : Memory) where
  walks_sessions : (n : ℕ) (journal : List Entry) (scripts : List (List Command)) (replies : List (List Reply)) → length replies ≡ length scripts → AllWalk core rule n [] journal (sessions_at_start core rule start scripts replies) → AreSessions core n journal start scripts replies
  walks_sessions n journal [] [] len a = tt
  walks_sessions n journal [] (r ∷ rs) len a = absurd (cc)
  walks_sessions n journal (c ∷ cs) [] len a = absurd (cc)
  walks_sessions n journal (c ∷ cs) (r ∷ rs) len a =
      let h = walk_answers core laws rule n [] journal start c r 0 (omega arith) a.0 in
      (h.0, h.1, walks_sessions (n + 1) journal cs rs (omega (arith, len)) a.1)

  same_count : (scripts : List (List Command)) (replies : List (List Reply)) → length replies ≡ length scripts → length (sessions_at_start core rule start scripts replies) ≡ length scripts
  same_count [] rs len = refl
  same_count (c ∷ cs) [] len = absurd (cc)
  same_count (c ∷ cs) (r ∷ rs) len = ap suc (same_count cs rs (omega (arith, len)))

  pub play_is_legal : (scripts : List (List Command)) (events : List Event) (journal : List Entry) (replies : List (List Reply)) → PlaysBy core rule start scripts events journal replies → IsLegalHistory core start scripts journal replies
  play_is_legal scripts events journal replies p =
      let h = played core laws rule events [] (sessions_at_start core rule start scripts replies) journal p.1 in
      record {
        sessions = walks_sessions 0 journal scripts replies p.0 (subst (λ (j : List Entry). AllWalk core rule 0 [] j (sessions_at_start core rule start scripts replies)) (sym h.1) h.2);
        numbers = subst (λ (k : ℕ). Each (λ e. core.number_of e < k) journal) (same_count scripts replies p.0) (subst (λ (j : List Entry). Each (λ e. core.number_of e < length (sessions_at_start core rule start scripts replies)) j) (sym h.1) h.3);
      }

module _ {Entry Command Reply Memory : Type 0} (core : Core Entry Command Reply Memory) (laws : IsCore core) (start : Memory) where
  -- in the order of the versions at which the replies were given
  pub legal_has_order : (scripts : List (List Command)) (journal : List Entry) (replies : List (List Reply)) → IsLegalHistory core start scripts journal replies → (events : List Event) × IsOrderOfEvents core start scripts events journal replies
  legal_has_order scripts journal replies l =
      let one = one_each core laws start 0 journal scripts replies l.sessions in
      let few = subst (λ (k : ℕ). Each (λ e. core.number_of e < k) journal) (sym (same_count core laws (IsInPlace core) start scripts replies one)) l.numbers in
      let p = merged core laws (IsInPlace core) journal [] (sessions_at_start core (IsInPlace core) start scripts replies) (sessions_walk core laws start 0 journal scripts replies l.sessions) few in
      (p.0, (one, p.1))
