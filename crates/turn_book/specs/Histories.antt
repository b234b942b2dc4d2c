-- What several sessions' replies say of the journal that is known after them.
use Rattle.std.specs.Prelude.{ℕ, ◌+◌, List, [], ◌∷◌, ⊤}
use Rattle.turn_book.specs.Core.{Core}
use Rattle.turn_book.specs.Walk.{Walks}

module _ {Entry Command Reply Memory : Type 0} (core : Core Entry Command Reply Memory) where
  -- session n gave these replies to these commands; the journal that is known after them has just the entries of these replies as its own
  abbrev pub IsHistory : ℕ → List Entry → Memory → List Command → List Reply → Type 0
  IsHistory n known start cs rs = Walks core (λ version seen r. ⊤) n [] known 0 start cs rs

  -- the same of each of the sessions n, n + 1 and so on
  abbrev pub AreHistories : ℕ → List Entry → Memory → List (List Command) → List (List Reply) → Type 0
  AreHistories n known start [] [] = Unit {0}
  AreHistories n known start [] (r ∷ rs) = ⊥
  AreHistories n known start (c ∷ cs) [] = ⊥
  AreHistories n known start (c ∷ cs) (r ∷ rs) = IsHistory n known start c r × AreHistories (n + 1) known start cs rs
