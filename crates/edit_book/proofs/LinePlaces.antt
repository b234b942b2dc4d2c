-- Where the lines of a body stand among its blocks.
use Rattle.std.proofs.Common.{◌≡◌, ◌≢◌, ℕ, zero, suc, ◌+◌, ◌-◌, ◌<◌, ◌≤◌, Bool, true, false, cond, not, nat_lt, ◌==◌, List, [], ◌∷◌, ◌++◌, length, take, find, Option, Some, None, unwrap_or, sym, ap, ◌∙◌, refl, one-add, arith}
use Rattle.std.specs.List.{AllZip, position_or_len, slice_get}
use Rattle.std.proofs.lemmas.Bool.{eqb-true, ltb-true, ltb-false}
use Rattle.std.proofs.lemmas.Bool.{eq-eqb}
use Rattle.knit_base.specs.declared.setting.Setting.{Setting}
use Rattle.edit_journal.specs.Documents.{Block, block_of, lines_in}
use Rattle.value_tree.specs.Found.{found_in, place_further}
use Rattle.edit_book.specs.Books.{AreDistinct, IsLeafOf, ids_of}
use Rattle.edit_book.specs.Orders.{is_id}
use Rattle.edit_book.specs.Replies.{lines_before}
use Rattle.edit_book.proofs.Trees.{leaf_count}
use Rattle.summary_tree.specs.Leaves.{Leaf, leaf_lines, leaf_line_count, place_of_line}

-- the lines before a block are those of the leaves before its own
pub lines_at : (setting : Setting) (leaves : List Leaf) (bs : List Block) (id : ℕ) (b : Block) → AllZip (λ (l : Leaf) (x : Block). IsLeafOf setting l x.lines) leaves bs → block_of bs id ≡ Some b
    → leaf_line_count (take (position_or_len (is_id id) (ids_of bs)) leaves) ≡ lines_before id bs
lines_at setting [] [] id b h there = absurd (cc)
lines_at setting [] (x ∷ bs) id b h there = absurd h
lines_at setting (l ∷ leaves) [] id b h there = absurd h
lines_at setting (l ∷ leaves) (x ∷ bs) id b h there = go (x.id == id) (lines_at setting leaves bs id b h.1) there
  where
    go : (t : Bool) → (block_of bs id ≡ Some b → leaf_line_count (take (position_or_len (is_id id) (ids_of bs)) leaves) ≡ lines_before id bs) → cond t (Some x) (block_of bs id) ≡ Some b
        → leaf_line_count (take (cond (not t) (1 + position_or_len (is_id id) (ids_of bs)) 0) (l ∷ leaves)) ≡ cond t 0 (length x.lines + lines_before id bs)
    go true ih there = refl
    go false ih there = simp one-add (let rest = ih there in omega (arith, rest, leaf_count setting l x.lines h.0))

pub lines_taken : (n : ℕ) (leaves : List Leaf) → leaf_line_count (take n leaves) ≤ leaf_line_count leaves
lines_taken zero leaves = omega arith
lines_taken (suc n) [] = omega arith
lines_taken (suc n) (l ∷ leaves) = omega (arith, lines_taken n leaves)

-- the item of a list that stands behind another
got_front : {X : Type 0} (xs ys : List X) (i : ℕ) → i < length xs → slice_get (xs ++ ys) i ≡ slice_get xs i
got_front [] ys i h = absurd (omega arith)
got_front (x ∷ xs) ys zero h = refl
got_front (x ∷ xs) ys (suc i) h = got_front xs ys i (omega arith)

got_behind : {X : Type 0} (xs ys : List X) (i : ℕ) → length xs ≤ i → slice_get (xs ++ ys) i ≡ slice_get ys (i - length xs)
got_behind [] ys i h = ap (slice_get ys) (let e : i ≡ i - 0 = omega arith in e)
got_behind (x ∷ xs) ys zero h = absurd (omega arith)
got_behind (x ∷ xs) ys (suc i) h = got_behind xs ys i (omega arith) ∙ ap (slice_get ys) (let e : i - length xs ≡ suc i - suc (length xs) = omega arith in e)

got_none : (i : ℕ) → slice_get (lines_in []) i ≡ None
got_none zero = refl
got_none (suc i) = refl

-- the block in which a line stands
pub record StandsIn (bs : List Block) (offset at within : ℕ) : Type 0 where
  pub block : Block
  pub there : slice_get bs at ≡ Some block
  pub inside : within < length block.lines
  pub line : slice_get (lines_in bs) offset ≡ slice_get block.lines within

pub line_there : (setting : Setting) (leaves : List Leaf) (bs : List Block) (offset at within : ℕ) → AllZip (λ (l : Leaf) (x : Block). IsLeafOf setting l x.lines) leaves bs
    → place_of_line leaves offset ≡ Some (at, within) → StandsIn bs offset at within
line_there setting [] bs offset at within h found = absurd (cc)
line_there setting (l ∷ leaves) [] offset at within h found = absurd h
line_there setting (l ∷ leaves) (b ∷ bs) offset at within h found =
    go (nat_lt offset (leaf_lines l)) refl (found_in leaf_lines leaves (offset - leaf_lines l)) refl found
    (λ k there. line_there setting leaves bs (offset - leaf_lines l) k within h.1 there)
  where
    own : leaf_lines l ≡ length b.lines
    own = leaf_count setting l b.lines h.0

    go : (t : Bool) → nat_lt offset (leaf_lines l) ≡ t → (o : Option (ℕ × ℕ)) → found_in leaf_lines leaves (offset - leaf_lines l) ≡ o → cond t (Some (0, offset)) (place_further 1 o) ≡ Some (at, within)
        → ((k : ℕ) → found_in leaf_lines leaves (offset - leaf_lines l) ≡ Some (k, within) → StandsIn bs (offset - leaf_lines l) k within) → StandsIn (b ∷ bs) offset at within
    go true is o there e rest =
        let first : 0 ≡ at = ap (λ (x : Option (ℕ × ℕ)). (unwrap_or x (0, 0)).0) e in
        let same : offset ≡ within = ap (λ (x : Option (ℕ × ℕ)). (unwrap_or x (0, 0)).1) e in
        let early : offset < length b.lines = omega (arith, ltb-true offset (leaf_lines l) is, own) in
        record {
          block = b;
          there = ap (slice_get (b ∷ bs)) (sym first);
          inside = omega (arith, early, same);
          line = got_front b.lines (lines_in bs) offset early ∙ ap (slice_get b.lines) same;
        }
    go false is None there e rest = absurd (cc)
    go false is (Some p) there e rest =
        let place : 1 + p.0 ≡ at = ap (λ (x : Option (ℕ × ℕ)). (unwrap_or x (0, 0)).0) e in
        let same : p.1 ≡ within = ap (λ (x : Option (ℕ × ℕ)). (unwrap_or x (0, 0)).1) e in
        let here = rest p.0 (there ∙ ap (λ (n : ℕ). let q : ℕ × ℕ = (p.0, n) in Some q) same) in
        let later : length b.lines ≤ offset = omega (arith, ltb-false offset (leaf_lines l) is, own) in
        record {
          block = here.block;
          there = ap (slice_get (b ∷ bs)) (let e2 : at ≡ suc p.0 = omega (arith, place) in e2) ∙ here.there;
          inside = here.inside;
          line = got_behind b.lines (lines_in bs) offset later ∙ ap (slice_get (lines_in bs)) (let e3 : offset - length b.lines ≡ offset - leaf_lines l = omega (arith, own) in e3) ∙ here.line;
        }

-- a line that stands in no block isn't there
pub line_none : (setting : Setting) (leaves : List Leaf) (bs : List Block) (offset : ℕ) → AllZip (λ (l : Leaf) (x : Block). IsLeafOf setting l x.lines) leaves bs
    → place_of_line leaves offset ≡ None → slice_get (lines_in bs) offset ≡ None
line_none setting [] [] offset h found = got_none offset
line_none setting [] (b ∷ bs) offset h found = absurd h
line_none setting (l ∷ leaves) [] offset h found = absurd h
line_none setting (l ∷ leaves) (b ∷ bs) offset h found =
    go (nat_lt offset (leaf_lines l)) refl (found_in leaf_lines leaves (offset - leaf_lines l)) refl found (line_none setting leaves bs (offset - leaf_lines l) h.1)
  where
    own : leaf_lines l ≡ length b.lines
    own = leaf_count setting l b.lines h.0

    go : (t : Bool) → nat_lt offset (leaf_lines l) ≡ t → (o : Option (ℕ × ℕ)) → found_in leaf_lines leaves (offset - leaf_lines l) ≡ o → cond t (Some (0, offset)) (place_further 1 o) ≡ None
        → (found_in leaf_lines leaves (offset - leaf_lines l) ≡ None → slice_get (lines_in bs) (offset - leaf_lines l) ≡ None) → slice_get (b.lines ++ lines_in bs) offset ≡ None
    go true is o there e rest = absurd (cc)
    go false is None there e rest =
        let later : length b.lines ≤ offset = omega (arith, ltb-false offset (leaf_lines l) is, own) in
        got_behind b.lines (lines_in bs) offset later ∙ ap (slice_get (lines_in bs)) (let e3 : offset - length b.lines ≡ offset - leaf_lines l = omega (arith, own) in e3) ∙ rest there
    go false is (Some p) there e rest = absurd (cc)

-- the id of a block at a place
pub id_at : (bs : List Block) (at : ℕ) (b : Block) → slice_get bs at ≡ Some b → slice_get (ids_of bs) at ≡ Some b.id
id_at [] zero b there = absurd (cc)
id_at [] (suc at) b there = absurd (cc)
id_at (x ∷ bs) zero b there = let same : x ≡ b = cc in ap (λ (y : Block). Some y.id) same
id_at (x ∷ bs) (suc at) b there = id_at bs at b there

other_id : (ids : List ℕ) (at k id : ℕ) → find (λ y. y == k) ids ≡ None → slice_get ids at ≡ Some id → k ≢ id
other_id [] zero k id none there same = absurd (cc)
other_id [] (suc at) k id none there same = absurd (cc)
other_id (x ∷ ids) at k id none there same = go (x == k) refl at there none (λ n h l. other_id ids n k id h l same)
  where
    go : (t : Bool) → (x == k) ≡ t → (at : ℕ) → slice_get (x ∷ ids) at ≡ Some id → cond t (Some x) (find (λ y. y == k) ids) ≡ None
        → ((n : ℕ) → find (λ y. y == k) ids ≡ None → slice_get ids n ≡ Some id → ⊥) → ⊥
    go true is at there none rest = absurd (cc)
    go false is zero there none rest = let own : x ≡ id = cc in let hit : (x == k) ≡ true = eq-eqb x k (own ∙ sym same) in absurd (cc (is, hit))
    go false is (suc n) there none rest = rest n none there

-- a block is found by its id
pub block_at : (bs : List Block) (at : ℕ) (b : Block) → AreDistinct (ids_of bs) → slice_get bs at ≡ Some b → block_of bs b.id ≡ Some b
block_at [] zero b apart there = absurd (cc)
block_at [] (suc at) b apart there = absurd (cc)
block_at (x ∷ bs) zero b apart there = let same : x ≡ b = cc in ap (λ (t : Bool). cond t (Some x) (block_of bs b.id)) (eq-eqb x.id b.id (ap (λ (y : Block). y.id) same)) ∙ ap Some same
block_at (x ∷ bs) (suc at) b apart there =
    go (x.id == b.id) refl (block_at bs at b apart.1 there)
  where
    go : (t : Bool) → (x.id == b.id) ≡ t → block_of bs b.id ≡ Some b → cond t (Some x) (block_of bs b.id) ≡ Some b
    go true is rest = absurd (other_id (ids_of bs) at x.id b.id apart.0 (id_at bs at b there) (eqb-true x.id b.id is))
    go false is rest = rest

-- the place lies within the leaves
pub place_within : (leaves : List Leaf) (offset at within : ℕ) → place_of_line leaves offset ≡ Some (at, within) → at < length leaves
place_within [] offset at within found = absurd (cc)
place_within (l ∷ leaves) offset at within found =
    go (nat_lt offset (leaf_lines l)) (found_in leaf_lines leaves (offset - leaf_lines l)) refl found (λ k there. place_within leaves (offset - leaf_lines l) k within there)
  where
    go : (t : Bool) → (o : Option (ℕ × ℕ)) → found_in leaf_lines leaves (offset - leaf_lines l) ≡ o → cond t (Some (0, offset)) (place_further 1 o) ≡ Some (at, within)
        → ((k : ℕ) → found_in leaf_lines leaves (offset - leaf_lines l) ≡ Some (k, within) → k < length leaves) → at < suc (length leaves)
    go true o there e rest = let first : 0 ≡ at = ap (λ (x : Option (ℕ × ℕ)). (unwrap_or x (0, 0)).0) e in omega (arith, first)
    go false None there e rest = absurd (cc)
    go false (Some p) there e rest =
        let place : 1 + p.0 ≡ at = ap (λ (x : Option (ℕ × ℕ)). (unwrap_or x (0, 0)).0) e in
        let same : p.1 ≡ within = ap (λ (x : Option (ℕ × ℕ)). (unwrap_or x (0, 0)).1) e in
        let here = rest p.0 (there ∙ ap (λ (n : ℕ). let q : ℕ × ℕ = (p.0, n) in Some q) same) in
        omega (arith, here, place)
