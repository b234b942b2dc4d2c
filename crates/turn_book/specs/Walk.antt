-- One session's way along the journal: it passes the entries of others, and takes its replies on the way.
use Rattle.std.specs.Prelude.{◌≡◌, ◌≢◌, ◌⊎◌, ℕ, ◌+◌, List, [], ◌∷◌, ◌++◌, length, Some, None}
use Rattle.turn_book.specs.Core.{Core}
use Rattle.turn_book.specs.Legal.{seen_after}
use Rattle.turn_book.specs.Interleavings.{Waiting}

module _ {Entry Command Reply Memory : Type 0} (core : Core Entry Command Reply Memory) where
  -- what the reply is at this journal: want of memory, or the answer
  abbrev pub IsReplyGiven : ℕ → List Entry → Memory → Command → Reply → Type 0
  IsReplyGiven n before memory c r = (r ≡ core.short) ⊎ core.answers n before memory c r

  -- what the session remembers after these replies
  abbrev pub memory_of : Memory → List Command → List Reply → Memory
  memory_of memory [] rs = memory
  memory_of memory (c ∷ cs) [] = memory
  memory_of memory (c ∷ cs) (r ∷ rs) = memory_of (core.memory_after memory c r) cs rs

module _ {Entry Command Reply Memory : Type 0} (core : Core Entry Command Reply Memory) (rule : ℕ → ℕ → Reply → Type 0) where
  -- session n, at the journal `before`, to which `rest` is still to come
  pub data Walks (n : ℕ) : List Entry → List Entry → ℕ → Memory → List Command → List Reply → Type 0 where
    ends : (before : List Entry) (seen : ℕ) (memory : Memory) → Walks n before [] seen memory [] []
    passes : (before : List Entry) (e : Entry) (rest : List Entry) (seen : ℕ) (memory : Memory) (cs : List Command) (rs : List Reply) → core.number_of e ≢ n
        → Walks n (before ++ e ∷ []) rest seen memory cs rs → Walks n before (e ∷ rest) seen memory cs rs
    hears : (before rest : List Entry) (seen : ℕ) (memory : Memory) (c : Command) (cs : List Command) (r : Reply) (rs : List Reply) → core.entry_of n memory c r ≡ None → IsReplyGiven core n before memory c r → rule (length before) seen r
        → Walks n before rest (seen_after core seen r) (core.memory_after memory c r) cs rs → Walks n before rest seen memory (c ∷ cs) (r ∷ rs)
    enters : (before : List Entry) (e : Entry) (rest : List Entry) (seen : ℕ) (memory : Memory) (c : Command) (cs : List Command) (r : Reply) (rs : List Reply) → core.entry_of n memory c r ≡ Some e → core.answers n before memory c r → rule (length before) seen r
        → Walks n (before ++ e ∷ []) rest (seen_after core seen r) (core.memory_after memory c r) cs rs → Walks n before (e ∷ rest) seen memory (c ∷ cs) (r ∷ rs)

  -- each of the sessions n, n + 1 and so on walks
  abbrev pub AllWalk : ℕ → List Entry → List Entry → List (Waiting Command Reply Memory) → Type 0
  AllWalk n before rest [] = Unit {0}
  AllWalk n before rest (w ∷ ws) = Walks n before rest w.seen w.memory w.commands w.replies × AllWalk (n + 1) before rest ws
