-- What the tallies of the blocks from one place to another are made of.
use Rattle.std.proofs.Common.{◌≡◌, ℕ, zero, suc, ◌-◌, ◌≤◌, List, [], ◌∷◌, ◌++◌, length, take, drop, ap, sym, subst, refl, arith}
use Rattle.std.specs.Prelude.{slice_range}
use Rattle.std.specs.List.{AllZip, sum_by}
use Rattle.std.proofs.lemmas.List.Concat.{flat_map-cons}
use Rattle.std.proofs.lemmas.List.{length-append}
use Rattle.std.proofs.lemmas.List.Sums.{sum_by-cons, sum_by-take-drop}
use Rattle.knit_base.specs.declared.instr.Read.{Read}
use Rattle.knit_base.specs.declared.profile.Profile.{Profile}
use Rattle.knitout_reader.specs.Reading.{ReadsAs}
use Rattle.knitout_reader.proofs.BodyReadings.{zip-append}
use Rattle.block_summary.specs.Prepared.{AreReadings}
use Rattle.edit_journal.specs.Documents.{Block, lines_in}
use Rattle.edit_book.specs.Replies.{line_limit}
use Rattle.tally_tree.specs.Leaves.{AreLeaves, AreTallies, all_of}
use Rattle.tally_tree.specs.Sums.{is_tally_joined}
use Rattle.tally_tree.specs.Tallies.{TallyCounts, IsLineTally, IsTallyOf, joined_counts}
use Rattle.tally_tree.proofs.PartSums.{is_of_no_line, of_no_line}

zip_taken : {A B : Type 0} (R : A → B → Type 0) (n : ℕ) (xs : List A) (ys : List B) → AllZip R xs ys → AllZip R (take n xs) (take n ys)
zip_taken R zero xs ys h = tt
zip_taken R (suc n) [] [] h = tt
zip_taken R (suc n) [] (y ∷ ys) h = absurd h
zip_taken R (suc n) (x ∷ xs) [] h = absurd h
zip_taken R (suc n) (x ∷ xs) (y ∷ ys) h = (h.0, zip_taken R n xs ys h.1)

zip_dropped : {A B : Type 0} (R : A → B → Type 0) (n : ℕ) (xs : List A) (ys : List B) → AllZip R xs ys → AllZip R (drop n xs) (drop n ys)
zip_dropped R zero xs ys h = h
zip_dropped R (suc n) [] [] h = tt
zip_dropped R (suc n) [] (y ∷ ys) h = absurd h
zip_dropped R (suc n) (x ∷ xs) [] h = absurd h
zip_dropped R (suc n) (x ∷ xs) (y ∷ ys) h = zip_dropped R n xs ys h.1

-- items related place by place are so from one place to another
zip_range : {A B : Type 0} (R : A → B → Type 0) (from to : ℕ) (xs : List A) (ys : List B) → AllZip R xs ys → AllZip R (slice_range xs from to) (slice_range ys from to)
zip_range R from to xs ys h = zip_taken R (to - from) (drop from xs) (drop from ys) (zip_dropped R from xs ys h)

pub as_many : {A B : Type 0} (R : A → B → Type 0) (xs : List A) (ys : List B) → AllZip R xs ys → length xs ≡ length ys
as_many R [] [] h = refl
as_many R [] (y ∷ ys) h = absurd h
as_many R (x ∷ xs) [] h = absurd h
as_many R (x ∷ xs) (y ∷ ys) h = omega (arith, as_many R xs ys h.1)

-- readings of each block's lines, of which the tallies are
pub record AreRead (profile : Profile) (names : List (List ℕ)) (vs : List TallyCounts) (blocks : List Block) : Type 0 where
  pub texts : List (List Read)
  pub tallies : AreTallies (length names) texts vs
  pub read : AllZip (λ (b : Block) (text : List Read). AreReadings profile names b.lines text) blocks texts

pub blocks_read : (profile : Profile) (names : List (List ℕ)) (vs : List TallyCounts) (blocks : List Block) → AllZip (λ (v : TallyCounts) (b : Block). IsLineTally profile names b.lines v) vs blocks → AreRead profile names vs blocks
blocks_read profile names [] [] h = record { texts = []; tallies = tt; read = tt }
blocks_read profile names [] (b ∷ blocks) h = absurd h
blocks_read profile names (v ∷ vs) [] h = absurd h
blocks_read profile names (v ∷ vs) (b ∷ blocks) h =
    let rest = blocks_read profile names vs blocks h.1 in
    record { texts = h.0.0 ∷ rest.texts; tallies = (h.0.2, rest.tallies); read = (h.0.1, rest.read) }

-- so the lines of all blocks are read, one block after the other
pub lines_read : (profile : Profile) (names : List (List ℕ)) (blocks : List Block) (texts : List (List Read)) → AllZip (λ (b : Block) (text : List Read). AreReadings profile names b.lines text) blocks texts → AreReadings profile names (lines_in blocks) (all_of texts)
lines_read profile names [] [] h = tt
lines_read profile names [] (text ∷ texts) h = absurd h
lines_read profile names (b ∷ blocks) [] h = absurd h
lines_read profile names (b ∷ blocks) (text ∷ texts) h =
    let whole = zip-append (ReadsAs profile names) b.lines (lines_in blocks) text (all_of texts) h.0 (lines_read profile names blocks texts h.1) in
    let lines : lines_in (b ∷ blocks) ≡ b.lines ++ lines_in blocks = flat_map-cons (λ (x : Block). x.lines) b blocks in
    let readings : all_of (text ∷ texts) ≡ text ++ all_of texts = flat_map-cons (λ (t : List Read). t) text texts in
    subst (λ ls. AreReadings profile names ls (all_of (text ∷ texts))) (sym lines) (subst (AreReadings profile names (b.lines ++ lines_in blocks)) (sym readings) whole)

abbrev all_lines : List TallyCounts → ℕ
all_lines vs = sum_by (λ (v : TallyCounts). v.lines) vs

-- there are as many readings as the tallies count lines
lines_counted : (carriers : ℕ) (texts : List (List Read)) (vs : List TallyCounts) → AreTallies carriers texts vs → length (all_of texts) ≡ all_lines vs
lines_counted carriers [] [] h = refl
lines_counted carriers [] (v ∷ vs) h = absurd h
lines_counted carriers (text ∷ texts) [] h = absurd h
lines_counted carriers (text ∷ texts) (v ∷ vs) h =
    let readings : all_of (text ∷ texts) ≡ text ++ all_of texts = flat_map-cons (λ (t : List Read). t) text texts in
    omega (arith, ap length readings, length-append text (all_of texts), sym h.0.lines, lines_counted carriers texts vs h.1, sum_by-cons (λ (w : TallyCounts). w.lines) v vs)

range_lines : (from to : ℕ) (vs : List TallyCounts) → all_lines (slice_range vs from to) ≤ all_lines vs
range_lines from to vs = omega (arith, sum_by-take-drop (λ (v : TallyCounts). v.lines) vs from, sum_by-take-drop (λ (v : TallyCounts). v.lines) (drop from vs) (to - from))

-- readings of the blocks of a range, whose tallies can be added
pub record IsRangeRead (profile : Profile) (names : List (List ℕ)) (vs : List TallyCounts) (blocks : List Block) (from to : ℕ) : Type 0 where
  pub texts : List (List Read)
  pub tallies : AreTallies (length names) texts (slice_range vs from to)
  pub read : AreReadings profile names (lines_in (slice_range blocks from to)) (all_of texts)
  pub few : length (all_of texts) ≤ line_limit

pub range_read : (profile : Profile) (names : List (List ℕ)) (vs : List TallyCounts) (blocks : List Block) (from to : ℕ) → AllZip (λ (v : TallyCounts) (b : Block). IsLineTally profile names b.lines v) vs blocks → AreLeaves vs → IsRangeRead profile names vs blocks from to
range_read profile names vs blocks from to h leaves =
    let whole = blocks_read profile names vs blocks h in
    let tallies = zip_range (IsTallyOf (length names)) from to whole.texts vs whole.tallies in
    record {
      texts = slice_range whole.texts from to;
      tallies = tallies;
      read = lines_read profile names (slice_range blocks from to) (slice_range whole.texts from to) (zip_range _ from to blocks whole.texts whole.read);
      few = omega (arith, leaves.lines, lines_counted leaves.carriers leaves.texts vs leaves.tallies, lines_counted (length names) (slice_range whole.texts from to) (slice_range vs from to) tallies, range_lines from to vs);
    }

-- there is a tally of all texts that have one each
pub some_tally : (carriers : ℕ) (texts : List (List Read)) (vs : List TallyCounts) → AreTallies carriers texts vs → (v : TallyCounts) × IsTallyOf carriers (all_of texts) v
some_tally carriers [] [] h = (of_no_line carriers, is_of_no_line carriers)
some_tally carriers [] (v ∷ vs) h = absurd h
some_tally carriers (text ∷ texts) [] h = absurd h
some_tally carriers (text ∷ texts) (v ∷ vs) h =
    let rest = some_tally carriers texts vs h.1 in
    let readings : all_of (text ∷ texts) ≡ text ++ all_of texts = flat_map-cons (λ (t : List Read). t) text texts in
    (joined_counts v rest.0, subst (λ rs. IsTallyOf carriers rs (joined_counts v rest.0)) (sym readings) (is_tally_joined text (all_of texts) v rest.0 carriers h.0 rest.1))
