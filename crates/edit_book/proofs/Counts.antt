-- How many lines a document has after an edit.
use Rattle.std.proofs.Common.{◌≡◌, ℕ, ◌+◌, ◌≤◌, Bool, true, false, cond, ◌==◌, List, [], ◌∷◌, ◌++◌, length, Some, None, option_map, ap, refl, length-append, arith}
use Rattle.edit_journal.specs.Documents.{Block, block_of, with_text, blocks_without, lines_in}

put_counts : (bs : List Block) (id i n : ℕ) (text : List (List ℕ)) → Some n ≡ option_map (λ b. length b.lines) (block_of bs id)
    → (length (lines_in (with_text id i text bs)) + n ≡ length (lines_in bs) + length text) × (n ≤ length (lines_in bs))
put_counts [] id i n text h = absurd (cc)
put_counts (b ∷ bs) id i n text h = go (b.id == id) (put_counts bs id i n text) h
  where
    go : (t : Bool) → (Some n ≡ option_map (λ x. length x.lines) (block_of bs id) → (length (lines_in (with_text id i text bs)) + n ≡ length (lines_in bs) + length text) × (n ≤ length (lines_in bs)))
        → Some n ≡ option_map (λ x. length x.lines) (cond t (Some b) (block_of bs id))
        → (length (lines_in (cond t (record { id = id; stamp = i; lines = text } ∷ bs) (b ∷ with_text id i text bs))) + n ≡ length (b.lines ++ lines_in bs) + length text) × (n ≤ length (b.lines ++ lines_in bs))
    go true ih h = let is : n ≡ length b.lines = cc in
        (omega (arith, length-append text (lines_in bs), length-append b.lines (lines_in bs)), omega (arith, length-append b.lines (lines_in bs)))
    go false ih h = let i' = ih h in
        (omega (arith, i'.0, length-append b.lines (lines_in (with_text id i text bs)), length-append b.lines (lines_in bs)), omega (arith, i'.1, length-append b.lines (lines_in bs)))

pub put_keeps : (bs : List Block) (id i : ℕ) (text : List (List ℕ)) → None ≡ option_map (λ b. length b.lines) (block_of bs id) → with_text id i text bs ≡ bs
put_keeps [] id i text h = refl
put_keeps (b ∷ bs) id i text h = go (b.id == id) (put_keeps bs id i text) h
  where
    go : (t : Bool) → (None ≡ option_map (λ x. length x.lines) (block_of bs id) → with_text id i text bs ≡ bs)
        → None ≡ option_map (λ x. length x.lines) (cond t (Some b) (block_of bs id)) → cond t (record { id = id; stamp = i; lines = text } ∷ bs) (b ∷ with_text id i text bs) ≡ b ∷ bs
    go true ih h = absurd (cc)
    go false ih h = ap (λ (l : List Block). b ∷ l) (ih h)

pub lines_put : (bs : List Block) (id i n : ℕ) (text : List (List ℕ)) → Some n ≡ option_map (λ b. length b.lines) (block_of bs id) → length (lines_in (with_text id i text bs)) + n ≡ length (lines_in bs) + length text
lines_put bs id i n text h = (put_counts bs id i n text h).0

pub lines_had : (bs : List Block) (id n : ℕ) → Some n ≡ option_map (λ b. length b.lines) (block_of bs id) → n ≤ length (lines_in bs)
lines_had bs id n h = (put_counts bs id 0 n [] h).1

pub ruleset put_counted = (lines_had, lines_put, put_keeps)

pub lines_cut : (bs : List Block) (id n : ℕ) → Some n ≡ option_map (λ b. length b.lines) (block_of bs id) → length (lines_in (blocks_without id bs)) + n ≡ length (lines_in bs)
lines_cut [] id n h = absurd (cc)
lines_cut (b ∷ bs) id n h = go (b.id == id) (lines_cut bs id n) h
  where
    go : (t : Bool) → (Some n ≡ option_map (λ x. length x.lines) (block_of bs id) → length (lines_in (blocks_without id bs)) + n ≡ length (lines_in bs))
        → Some n ≡ option_map (λ x. length x.lines) (cond t (Some b) (block_of bs id)) → length (lines_in (cond t bs (b ∷ blocks_without id bs))) + n ≡ length (b.lines ++ lines_in bs)
    go true ih h = let is : n ≡ length b.lines = cc in omega (arith, length-append b.lines (lines_in bs))
    go false ih h = omega (arith, ih h, length-append b.lines (lines_in bs), length-append b.lines (lines_in (blocks_without id bs)))

pub cut_keeps : (bs : List Block) (id : ℕ) → None ≡ option_map (λ b. length b.lines) (block_of bs id) → blocks_without id bs ≡ bs
cut_keeps [] id h = refl
cut_keeps (b ∷ bs) id h = go (b.id == id) (cut_keeps bs id) h
  where
    go : (t : Bool) → (None ≡ option_map (λ x. length x.lines) (block_of bs id) → blocks_without id bs ≡ bs)
        → None ≡ option_map (λ x. length x.lines) (cond t (Some b) (block_of bs id)) → cond t bs (b ∷ blocks_without id bs) ≡ b ∷ bs
    go true ih h = absurd (cc)
    go false ih h = ap (λ (l : List Block). b ∷ l) (ih h)

pub ruleset cut_counted = (lines_cut, cut_keeps, lines_had)

pub cut_fewer : (bs : List Block) (id : ℕ) → length (lines_in (blocks_without id bs)) ≤ length (lines_in bs)
cut_fewer [] id = omega arith
cut_fewer (b ∷ bs) id = go (b.id == id) (cut_fewer bs id)
  where
    go : (t : Bool) → length (lines_in (blocks_without id bs)) ≤ length (lines_in bs) → length (lines_in (cond t bs (b ∷ blocks_without id bs))) ≤ length (b.lines ++ lines_in bs)
    go true ih = omega (arith, length-append b.lines (lines_in bs))
    go false ih = omega (arith, ih, length-append b.lines (lines_in bs), length-append b.lines (lines_in (blocks_without id bs)))
