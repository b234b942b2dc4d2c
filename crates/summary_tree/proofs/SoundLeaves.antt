-- Leaves that may stand in one tree.
use Rattle.std.proofs.Common.{◌≡◌, ℕ, zero, suc, ◌+◌, ◌≤◌, List, [], ◌∷◌, ◌++◌, length, take, drop, take-append-drop, sym, ap, subst, arith}
use Rattle.std.specs.List.{All}
use Rattle.std.proofs.lemmas.List.Elements.{All-nil, All-cons, All-head, All-tail, All-append, Contains-append_left, Contains-append_right}
use Rattle.knit_base.specs.declared.needle.Needle.{Needle}
use Rattle.face_data.proofs.EmptyBeds.{few_new}
use Rattle.face_data.proofs.Goodness.{good_within}
use Rattle.face_data.proofs.Items.{items_bound}
use Rattle.face_data.specs.declared.face.FaceView.{FaceView}
use Rattle.face_data.specs.Sets.{AreNeedlesWithin}
use Rattle.face_data.specs.Spots.{IsNumbered}
use Rattle.face_data.specs.View.{IsPacked, summary_of}
use Rattle.tree_shape.specs.Fewest.{list_removed}
use Rattle.summary_tree.specs.Laws.{lines_append, stand_laws}
use Rattle.summary_tree.specs.Leaves.{Leaf, leaf_line_count, IsGoodFor, AreGoodFor, AreSound, StandTogether, IsWholeOf, IsRootOf}

abbrev IsGoodLeaf : ℕ → ℕ → Leaf → Type 0
IsGoodLeaf carriers limit leaf = IsGoodFor carriers limit leaf.0

module _ (carriers limit : ℕ) where
  good_for_more : (known more : List Needle) (xs : List Leaf) → AreNeedlesWithin known more → AreGoodFor carriers limit known xs → AreGoodFor carriers limit more xs
  good_for_more known more [] within g = tt
  good_for_more known more (x ∷ xs) within g = (good_within carriers limit known more x.0 within g.0, good_for_more known more xs within g.1)

  -- all are good for the needles of all
  pub good_together : (xs : List Leaf) → All (λ (leaf : Leaf). IsGoodFor carriers limit leaf.0) xs → (known : List Needle) × All IsNumbered known × AreGoodFor carriers limit known xs
  good_together [] all = ([], All-nil IsNumbered, tt)
  good_together (x ∷ xs) all =
      let here : IsGoodFor carriers limit x.0 = All-head (IsGoodLeaf carriers limit) x xs all in
      let rest = good_together xs (All-tail (IsGoodLeaf carriers limit) x xs all) in (
        here.known ++ rest.0,
        All-append IsNumbered here.known rest.0 here.numbered rest.1,
        (
          good_within carriers limit here.known (here.known ++ rest.0) x.0 (λ n there. Contains-append_left here.known rest.0 n there) here.good,
          good_for_more rest.0 (here.known ++ rest.0) xs (λ n there. Contains-append_right here.known rest.0 n there) rest.2,
        ),
      )

  each_good : (known : List Needle) → All IsNumbered known → (xs : List Leaf) → AreGoodFor carriers limit known xs → All (λ (leaf : Leaf). IsGoodFor carriers limit leaf.0) xs
  each_good known numbered [] g = All-nil (IsGoodLeaf carriers limit)
  each_good known numbered (x ∷ xs) g = All-cons (IsGoodLeaf carriers limit) x xs (record { known = known; numbered = numbered; good = g.0 }) (each_good known numbered xs g.1)

  pub good_taken : (known : List Needle) (n : ℕ) (xs : List Leaf) → AreGoodFor carriers limit known xs → AreGoodFor carriers limit known (take n xs)
  good_taken known zero xs g = tt
  good_taken known (suc n) [] g = tt
  good_taken known (suc n) (x ∷ xs) g = (g.0, good_taken known n xs g.1)

  pub good_dropped : (known : List Needle) (n : ℕ) (xs : List Leaf) → AreGoodFor carriers limit known xs → AreGoodFor carriers limit known (drop n xs)
  good_dropped known zero xs g = g
  good_dropped known (suc n) [] g = tt
  good_dropped known (suc n) (x ∷ xs) g = good_dropped known n xs g.1

  pub good_both : (known : List Needle) (xs ys : List Leaf) → AreGoodFor carriers limit known xs → AreGoodFor carriers limit known ys → AreGoodFor carriers limit known (xs ++ ys)
  good_both known [] ys g h = h
  good_both known (x ∷ xs) ys g h = (g.0, good_both known xs ys g.1 h)

pub sound_leaves_stand_together : (leaves : List Leaf) → AreSound leaves → StandTogether leaves
sound_leaves_stand_together leaves s =
    let g = good_together s.carriers s.limit leaves s.good in
    record { carriers = s.carriers; limit = s.limit; known = g.0; few_carriers = s.few_carriers; few_loops = s.few_loops; numbered = g.1; good = g.2; few_lines = s.few_lines }

pub sound_of : (leaves : List Leaf) → StandTogether leaves → length leaves ≤ 65536 → AreSound leaves
sound_of leaves s few = record {
  carriers = s.carriers;
  limit = s.limit;
  few_carriers = s.few_carriers;
  few_loops = s.few_loops;
  good = each_good s.carriers s.limit s.known s.numbered leaves s.good;
  few_leaves = few;
  few_lines = s.few_lines;
}

lines_fall : (n : ℕ) (xs : List Leaf) → leaf_line_count (take n xs) + leaf_line_count (drop (n + 1) xs) ≤ leaf_line_count xs
lines_fall zero [] = omega arith
lines_fall zero (x ∷ xs) = omega arith
lines_fall (suc n) [] = let next : suc n + 1 ≡ suc (n + 1) = omega arith in rw next (omega arith)
lines_fall (suc n) (x ∷ xs) = let next : suc n + 1 ≡ suc (n + 1) = omega arith in rw next (omega (arith, lines_fall n xs))

pub lines_removed : (at : ℕ) (xs : List Leaf) → leaf_line_count (list_removed at xs) ≤ leaf_line_count xs
lines_removed at xs = omega (arith, lines_fall at xs, lines_append (take at xs) (drop (at + 1) xs))

-- without one of them they still may
pub together_removed : (at : ℕ) (leaves : List Leaf) → StandTogether leaves → StandTogether (list_removed at leaves)
together_removed at leaves s = record {
  carriers = s.carriers;
  limit = s.limit;
  known = s.known;
  few_carriers = s.few_carriers;
  few_loops = s.few_loops;
  numbered = s.numbered;
  good = good_both s.carriers s.limit s.known (take at leaves) (drop (at + 1) leaves) (good_taken s.carriers s.limit s.known at leaves s.good) (good_dropped s.carriers s.limit s.known (at + 1) leaves s.good);
  few_lines = omega (arith, s.few_lines, lines_removed at leaves);
}

-- the face of all leaves is that of a root
pub root_is : (leaves : List Leaf) (view : FaceView) → StandTogether leaves → IsWholeOf leaves (summary_of view) → IsPacked view → IsRootOf leaves view
root_is leaves view s w packed = record {
  whole = w;
  good = λ carriers limit all. let g = good_together carriers limit leaves all in record { known = g.0; numbered = g.1; good = w.good carriers limit g.0 g.2 };
  bound = λ carriers limit known g. items_bound carriers limit known (summary_of view) (w.good carriers limit known g);
  packed = packed;
  few = few_new (summary_of view) (record { carriers = s.carriers; limit = s.limit; known = s.known; few_loops = s.few_loops; numbers = s.numbered; good = w.good s.carriers s.limit s.known s.good });
}

-- the first of leaves that stand together do so too
pub taken_together : (n : ℕ) (leaves : List Leaf) → StandTogether leaves → StandTogether (take n leaves)
taken_together n leaves s = stand_laws.front (take n leaves) (drop n leaves) (subst StandTogether (sym (take-append-drop n leaves)) s)

-- and have no more lines
pub fewer_lines : (n : ℕ) (leaves : List Leaf) → leaf_line_count (take n leaves) ≤ leaf_line_count leaves
fewer_lines n leaves = omega (arith, lines_append (take n leaves) (drop n leaves), ap leaf_line_count (take-append-drop n leaves))
