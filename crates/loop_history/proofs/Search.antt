-- A search for a row in a table whose offsets rise.
use Rattle.std.proofs.Common.{◌≡◌, ℕ, ◌+◌, ◌-◌, ◌*◌, ◌/◌, ◌^◌, ◌<◌, ◌≤◌, Bool, true, false, cond, nat_lt, List, [], ◌∷◌, length, get_or, Some, None, position, refl, sym, ap, subst, ◌∙◌, inl, inr, arith, add-one, lt-ltb}
use Rattle.std.specs.Prelude.{nat_eq, slice_get}
use Rattle.std.proofs.lemmas.Bool.{cases_lt, eq-eqb, le-ltb, ne_eqb}
use Rattle.std.proofs.lemmas.List.Sums.{position_or_len_is}
use Rattle.std.proofs.lemmas.Option.{get_or_from_slice_get}
use Rattle.std.proofs.Math.Nat.{mul-le-mul_right, pow-suc}
use Rattle.loop_history.specs.declared.row.LoopRow.{LoopRow}
use Rattle.loop_history.specs.Rows.{OffsetsRise}

-- the row is of the line with this offset
abbrev pub is_at : ℕ → LoopRow → Bool
is_at offset row = nat_eq row.offset offset

-- half of what was left, with one probe more
halved : (old new probes : ℕ) → 2 * new ≤ old → old * 2 ^ probes ≤ 4096 → new * 2 ^ (probes + 1) ≤ 4096
halved old new probes half few =
    let more : 2 ^ (probes + 1) ≡ 2 ^ probes * 2 = ap (λ n. 2 ^ n) (add-one probes) ∙ pow-suc 2 probes in
    let less : (2 * new) * 2 ^ probes ≤ old * 2 ^ probes = mul-le-mul_right (2 ^ probes) half in
    omega (arith, few, less, turned new (2 ^ probes), ap (λ n. new * n) more)
  where
    turned : (n p : ℕ) → n * (p * 2) ≡ (2 * n) * p
    turned n p = grind arith

-- after so many probes rows before `low` are of earlier lines than the one that is looked for, rows from `high` on of later ones,
-- and few are left between
pub record Probing (rows : List LoopRow) (offset low high probes : ℕ) : Type 0 where
  pub ordered : low ≤ high
  pub within : high ≤ length rows
  pub below : (k : ℕ) (d : LoopRow) → k < low → (get_or rows k d).offset < offset
  pub above : (k : ℕ) (d : LoopRow) → high ≤ k → k < length rows → offset < (get_or rows k d).offset
  pub few : (high - low) * 2 ^ probes ≤ 4096

-- the row at a place
at_place : (rows : List LoopRow) (i : ℕ) (row d : LoopRow) → slice_get rows i ≡ Some row → get_or rows i d ≡ row
at_place rows i row d is = get_or_from_slice_get rows i row d is

-- nothing is known yet
pub probing-start : (rows : List LoopRow) (offset high : ℕ) → high ≡ length rows → length rows ≤ 4096 → Probing rows offset 0 high 0
probing-start rows offset high all few = record {
  ordered = omega arith;
  within = omega arith;
  below = λ k d before. absurd (omega arith);
  above = λ k d from within. absurd (omega arith);
  few = omega arith;
}

-- the row in the middle is of an earlier line
pub probing-above : (rows : List LoopRow) (offset low high probes i newer same : ℕ) (row : LoopRow) → OffsetsRise rows → Probing rows offset low high probes → low < high →
    i ≡ low + (high - low) / 2 → slice_get rows i ≡ Some row → row.offset < offset → newer ≡ i + 1 → same ≡ high → Probing rows offset newer same (probes + 1)
probing-above rows offset low high probes i newer same row rising here some middle is early next kept = record {
  ordered = omega arith;
  within = omega (arith, here.within);
  below = below;
  above = λ k d from within. here.above k d (omega arith) within;
  few = halved (high - low) (same - newer) probes (omega arith) here.few;
}
  where
    below : (k : ℕ) (d : LoopRow) → k < newer → (get_or rows k d).offset < offset
    below k d before = grind (arith, rising k i d, at_place rows i row d is, here.within)

-- the row in the middle is of a later line
pub probing-below : (rows : List LoopRow) (offset low high probes i same newer : ℕ) (row : LoopRow) → OffsetsRise rows → Probing rows offset low high probes → low < high →
    i ≡ low + (high - low) / 2 → slice_get rows i ≡ Some row → offset < row.offset → same ≡ low → newer ≡ i → Probing rows offset same newer (probes + 1)
probing-below rows offset low high probes i same newer row rising here some middle is late kept next = record {
  ordered = omega arith;
  within = omega (arith, here.within);
  below = λ k d before. here.below k d (omega arith);
  above = above;
  few = halved (high - low) (newer - same) probes (omega arith) here.few;
}
  where
    above : (k : ℕ) (d : LoopRow) → newer ≤ k → k < length rows → offset < (get_or rows k d).offset
    above k d from before = grind (arith, rising i k d, at_place rows i row d is, here.within)

-- the row at this place is the one that is looked for
pub row_found_at_place : (rows : List LoopRow) (offset i : ℕ) (row : LoopRow) → OffsetsRise rows → i < length rows → slice_get rows i ≡ Some row → row.offset ≡ offset → position (is_at offset) rows ≡ Some i
row_found_at_place rows offset i row rising within is own =
    ap (λ n. cond (nat_lt n (length rows)) (Some n) None) (position_or_len_is (is_at offset) rows i row (omega arith) before here)
    ∙ ap (λ b. cond b (Some i) None) (lt-ltb i (length rows) within)
  where
    before : (k : ℕ) → k < i → is_at offset (get_or rows k row) ≡ false
    before k below = ne_eqb (get_or rows k row).offset offset (λ same. omega (arith, rising k i row below within, ap (λ (x : LoopRow). x.offset) (at_place rows i row row is), own, same))

    here : i < length rows → is_at offset (get_or rows i row) ≡ true
    here inside = eq-eqb (get_or rows i row).offset offset (ap (λ (x : LoopRow). x.offset) (at_place rows i row row is) ∙ own)

apart : (a b : ℕ) → a < b → a ≡ b → ⊥
apart a b less same = absurd (omega arith)

missed_at : (rows : List LoopRow) (offset low high probes : ℕ) → Probing rows offset low high probes → high ≤ low → (d : LoopRow) (k : ℕ) → k < length rows → is_at offset (get_or rows k d) ≡ false
missed_at rows offset low high probes here over d k within = elim (cases_lt k low) [
  | inl early ↦ ne_eqb (get_or rows k d).offset offset (apart (get_or rows k d).offset offset (here.below k d early))
  | inr late ↦ ne_eqb (get_or rows k d).offset offset (λ same. apart offset (get_or rows k d).offset (here.above k d (omega arith) within) (sym same))
]

-- nothing is left between the rows of earlier and those of later lines
pub row_not_found : (rows : List LoopRow) (offset low high probes : ℕ) → Probing rows offset low high probes → high ≤ low → position (is_at offset) rows ≡ None
row_not_found [] offset low high probes here over = refl
row_not_found (row ∷ rows) offset low high probes here over =
    ap (λ n. cond (nat_lt n (length (row ∷ rows))) (Some n) None)
    (position_or_len_is (is_at offset) (row ∷ rows) (length (row ∷ rows)) row (omega arith) (missed_at (row ∷ rows) offset low high probes here over row) (λ past. absurd (omega arith)))
    ∙ ap (λ b. cond b (Some (length (row ∷ rows))) None) (le-ltb (length (row ∷ rows)) (length (row ∷ rows)) (omega arith))

-- after thirteen probes nothing is left
pub missed_all : (rows : List LoopRow) (offset low high probes : ℕ) → Probing rows offset low high probes → probes ≡ 13 → position (is_at offset) rows ≡ None
missed_all rows offset low high probes here all =
    let few : (high - low) * 2 ^ 13 ≤ 4096 = subst (λ n. (high - low) * 2 ^ n ≤ 4096) all here.few in
    row_not_found rows offset low high probes here (omega arith)
