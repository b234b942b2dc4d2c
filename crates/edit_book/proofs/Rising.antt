-- Rising numbers, and the last of them that isn't above a limit.
use Rattle.std.proofs.Common.{◌≡◌, ℕ, zero, suc, ◌+◌, ◌<◌, ◌≤◌, Bool, true, false, cond, nat_le, List, [], ◌∷◌, filter, take, length, get_or, subst, sym, ap, ◌∙◌, refl, arith}
use Rattle.edit_book.specs.Headers.{AreNumbersRising, last_not_above, last_or}

next_at_least : (xs : List ℕ) → AreNumbersRising xs → (k d : ℕ) → suc k < length xs → get_or xs k d ≤ get_or xs (suc k) d
next_at_least [] r k d within = absurd (omega arith)
next_at_least (n ∷ []) r k d within = absurd (omega arith)
next_at_least (n ∷ m ∷ ns) r zero d within = let less = r.0 in omega arith
next_at_least (n ∷ m ∷ ns) r (suc k) d within = next_at_least (m ∷ ns) r.1 k d (omega arith)

-- each is at most the next
pub rising_next : (xs : List ℕ) → AreNumbersRising xs → (k d : ℕ) → k + 1 < length xs → get_or xs k d ≤ get_or xs (k + 1) d
rising_next xs r k d within =
    let same : suc k ≡ k + 1 = omega arith in
    subst (λ (m : ℕ). get_or xs k d ≤ get_or xs m d) same (next_at_least xs r k d (omega arith))

module _ (limit : ℕ) where
  -- where those up to a place pass and the others don't, those that pass are the ones up to the place
  filtered : (xs : List ℕ) (i : ℕ) → i ≤ length xs → ((k d : ℕ) → k < i → nat_le (get_or xs k d) limit ≡ true) → ((k d : ℕ) → i ≤ k → k < length xs → nat_le (get_or xs k d) limit ≡ false)
      → filter (λ n. nat_le n limit) xs ≡ take i xs
  filtered [] zero within pass fail = refl
  filtered [] (suc i) within pass fail = absurd (omega arith)
  filtered (x ∷ xs) zero within pass fail =
      ap (λ (b : Bool). cond b (x ∷ filter (λ n. nat_le n limit) xs) (filter (λ n. nat_le n limit) xs)) (fail 0 0 (omega arith) (omega arith))
      ∙ filtered xs zero (omega arith) (λ k d below. absurd (omega arith)) (λ k d above below. fail (suc k) d (omega arith) (omega arith))
  filtered (x ∷ xs) (suc i) within pass fail =
      ap (λ (b : Bool). cond b (x ∷ filter (λ n. nat_le n limit) xs) (filter (λ n. nat_le n limit) xs)) (pass 0 0 (omega arith))
      ∙ ap (λ (l : List ℕ). x ∷ l) (filtered xs i (omega arith) (λ k d below. pass (suc k) d (omega arith)) (λ k d above below. fail (suc k) d (omega arith) (omega arith)))

  last_taken : (none : ℕ) (xs : List ℕ) (i d : ℕ) → i < length xs → last_or none (take (suc i) xs) ≡ get_or xs i d
  last_taken none [] i d within = absurd (omega arith)
  last_taken none (x ∷ xs) zero d within = refl
  last_taken none (x ∷ xs) (suc i) d within = last_taken x xs i d (omega arith)

  pub last_none : (xs : List ℕ) (i : ℕ) → i ≡ 0 → ((k d : ℕ) → i ≤ k → k < length xs → nat_le (get_or xs k d) limit ≡ false) → 0 ≡ last_not_above limit xs
  last_none xs i is fail = sym (ap (last_or 0) (filtered xs 0 (omega arith) (λ k d below. absurd (omega arith)) (λ k d above below. fail k d (omega arith) below)))

  pub last_some : (xs : List ℕ) (i d : ℕ) → i < length xs → ((k d : ℕ) → k < i + 1 → nat_le (get_or xs k d) limit ≡ true) → ((k d : ℕ) → i + 1 ≤ k → k < length xs → nat_le (get_or xs k d) limit ≡ false)
      → get_or xs i d ≡ last_not_above limit xs
  last_some xs i d within pass fail =
      sym (ap (last_or 0) (filtered xs (suc i) (omega arith) (λ k d below. pass k d (omega arith)) (λ k d above below. fail k d (omega arith) below)) ∙ last_taken 0 xs i d within)
