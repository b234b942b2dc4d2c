-- Sessions that haven't begun.
use Rattle.std.specs.Prelude.{ℕ, ◌+◌, List, [], ◌∷◌}

module _ {Command Talk : Type 0} (IsReady : ℕ → List Command → Talk → Type 0) where
  -- each of the sessions n, n + 1 and so on is ready for its script
  abbrev pub AreReady : ℕ → List (List Command) → List Talk → Type 0
  AreReady n [] [] = Unit {0}
  AreReady n [] (t ∷ ts) = ⊥
  AreReady n (c ∷ cs) [] = ⊥
  AreReady n (c ∷ cs) (t ∷ ts) = IsReady n c t × AreReady (n + 1) cs ts
