-- What a table of places tells of changes.
use Prim.Native.Nat.{zero}
use Rattle.std.proofs.Common.{suc, ◌≡◌, ℕ, ◌+◌, ◌<◌, ◌≤◌, Bool, true, false, cond, List, [], ◌∷◌, ◌++◌, Option, Some, None, length, take, map, refl, sym, ap, ◌∙◌, subst, arith, get_or}
use Rattle.std.specs.Prelude.{unwrap_or}
use Rattle.std.specs.List.{AllByRecursion}
use Rattle.std.specs.List.Sorted.{IsStrictlySortedBy}
use Rattle.std.specs.declared.cmp.Ordering.TheVariants.{Less, Equal}
use Rattle.std.proofs.lemmas.Bool.{true≢false}
use Rattle.std.proofs.lemmas.List.{length-map, take_all, take_more, length-take-le, map-append}
use Rattle.std.proofs.lemmas.List.Elements.{All-head, All-tail}
use Rattle.knit_base.specs.declared.needle.Needle.{Needle}
use Rattle.knit_base.specs.Needle.{same_needle, needle_cmp}
use Rattle.face_data.specs.declared.face.Change.{Change}
use Rattle.face_data.specs.declared.face.Seg.{Seg}
use Rattle.face_data.specs.declared.face.Seg.TheVariants.{Entry}
use Rattle.face_data.specs.Conditions.{part_of}
use Rattle.face_data.specs.Goodness.{IsInOrder}
use Rattle.face_data.specs.Segments.{Changed, change_at, segments_on}
use Rattle.face_data.specs.View.{changed_of, PartsFit}
use Rattle.summary_compose.specs.Changes.{changed_needles}
use Rattle.summary_compose.specs.Tables.{Leads, IsTableOf, IsPlaceWritten}
use Rattle.summary_compose.proofs.Tables.{leads_nowhere, tells_push}
use Rattle.knit_base.proofs.Needles.{same_needle-same, needle_cmp-refl, same_needle-false}
use Rattle.face_data.proofs.ChangeLists.{not_less_and_equal}

-- the needle of the change at a place
pub needle_at : (changes : List Change) (i : ℕ) (d : Change) (n : Needle) → i < length changes → get_or (changed_needles changes) i n ≡ (get_or changes i d).needle
needle_at [] i d n within = absurd (omega arith)
needle_at (c ∷ cs) zero d n within = refl
needle_at (c ∷ cs) (suc i) d n within = needle_at cs i d n (omega arith)

-- the table with the places of one change more
pub tells_more : (entries more : List ℕ) (changes : List Change) (i : ℕ) (d : Change) → i < length changes → IsPlaceWritten entries more (get_or changes i d).needle i →
    IsTableOf entries (changed_needles (take i changes)) → IsTableOf more (changed_needles (take (i + 1) changes))
tells_more entries more changes i d within written h =
    let name : Change → Needle = λ (c : Change). c.needle in
    let front = take i changes in
    let len : length (changed_needles front) ≡ i = length-map front name ∙ length-take-le i changes (omega arith) in
    let now : changed_needles (take (i + 1) changes) ≡ changed_needles front ++ (get_or changes i d).needle ∷ [] =
    ap changed_needles (take_more changes i d within) ∙ map-append name front (get_or changes i d ∷ []) in
    subst (λ ns. IsTableOf more ns) (sym now)
    (tells_push entries more (changed_needles front) (get_or changes i d).needle h (subst (IsPlaceWritten entries more (get_or changes i d).needle) (sym len) written))

-- all places were noted
pub tells_all : (entries : List ℕ) (changes : List Change) (i : ℕ) → length changes ≤ i → IsTableOf entries (changed_needles (take i changes)) → IsTableOf entries (changed_needles changes)
tells_all entries changes i all h = subst (λ cs. IsTableOf entries (changed_needles cs)) (take_all i changes all) h

-- a needle that isn't among the changes is unchanged
pub cond_false : (b : Bool) (x y : Option (List Seg)) → b ≡ false → cond b x y ≡ y
cond_false true x y e = absurd (true≢false e)
cond_false false x y e = refl

cond_true : (b : Bool) (x y : Option (List Seg)) → b ≡ true → cond b x y ≡ x
cond_true true x y e = refl
cond_true false x y e = absurd (true≢false (sym e))

unchanged : (segs : List Seg) (changes : List Change) (n : Needle) → ((k : ℕ) → k < length (changed_needles changes) → get_or (changed_needles changes) k n ≡ n → ⊥) →
    change_at (map (changed_of segs) changes) n ≡ None
unchanged segs [] n h = refl
unchanged segs (c ∷ cs) n h =
    cond_false (same_needle n c.needle) (Some (part_of segs c.part)) (change_at (map (changed_of segs) cs) n) (same_needle-false n c.needle (λ e. h 0 (omega arith) (sym e)))
    ∙ unchanged segs cs n (λ k within. h (suc k) (omega arith))

-- a needle that stands nowhere holds its own entry
pub segments_own : (segs : List Seg) (changes : List Change) (n : Needle) (place : ℕ) → Leads (changed_needles changes) n place →
    (place < length (changed_needles changes) → get_or (changed_needles changes) place n ≡ n → ⊥) → segments_on (map (changed_of segs) changes) n ≡ Entry n ∷ []
segments_own segs changes n place h absent =
    ap (λ x. unwrap_or x (Entry n ∷ [])) (unchanged segs changes n (leads_nowhere (changed_needles changes) n place h absent))

-- so where the place is past the end
pub segments_own_past : (segs : List Seg) (changes : List Change) (n : Needle) (place : ℕ) → Leads (changed_needles changes) n place → length changes ≤ place →
    segments_on (map (changed_of segs) changes) n ≡ Entry n ∷ []
segments_own_past segs changes n place h past =
    segments_own segs changes n place h (λ within. let len = length-map changes (λ (c : Change). c.needle) in absurd (omega arith))

-- and where another needle stands there
pub segments_own_at : (segs : List Seg) (changes : List Change) (n : Needle) (place : ℕ) (d : Change) → Leads (changed_needles changes) n place → place < length changes →
    ((get_or changes place d).needle ≡ n → ⊥) → segments_on (map (changed_of segs) changes) n ≡ Entry n ∷ []
segments_own_at segs changes n place d h within differ =
    segments_own segs changes n place h (λ small here. differ (sym (needle_at changes place d n within) ∙ here))

-- in order of needles each change counts
above_at : (segs : List Seg) (n : Needle) (changes : List Change) (k : ℕ) (d : Change) → AllByRecursion (λ m. needle_cmp n m ≡ Less) (map (λ (c : Changed). c.0) (map (changed_of segs) changes)) →
    k < length changes → needle_cmp n (get_or changes k d).needle ≡ Less
above_at segs n [] k d h within = absurd (omega arith)
above_at segs n (c ∷ cs) zero d h within = h.0
above_at segs n (c ∷ cs) (suc k) d h within = above_at segs n cs k d h.1 (omega arith)

changed_at : (segs : List Seg) (changes : List Change) (n : Needle) (k : ℕ) (d : Change) → IsInOrder (map (changed_of segs) changes) → k < length changes →
    (get_or changes k d).needle ≡ n → change_at (map (changed_of segs) changes) n ≡ Some (part_of segs (get_or changes k d).part)
unfolding IsStrictlySortedBy
changed_at segs [] n k d order within here = absurd (omega arith)
changed_at segs (c ∷ cs) n zero d order within here =
    cond_true (same_needle n c.needle) (Some (part_of segs c.part)) (change_at (map (changed_of segs) cs) n) (same_needle-same n c.needle (sym here))
changed_at segs (c ∷ cs) n (suc k) d order within here =
    let less : needle_cmp c.needle (get_or cs k d).needle ≡ Less = above_at segs c.needle cs k d order.0 (omega arith) in
    let other : c.needle ≡ n → ⊥ = λ same.
    not_less_and_equal (needle_cmp c.needle (get_or cs k d).needle) less
    (subst (λ m. needle_cmp c.needle m ≡ Equal) (same ∙ sym here) (needle_cmp-refl c.needle)) in
    cond_false (same_needle n c.needle) (Some (part_of segs c.part)) (change_at (map (changed_of segs) cs) n) (same_needle-false n c.needle (λ e. other (sym e)))
    ∙ changed_at segs cs n k d order.1 (omega arith) here

-- else it holds what the change at that place says
pub segments_at : (segs : List Seg) (changes : List Change) (n : Needle) (k : ℕ) (d : Change) → IsInOrder (map (changed_of segs) changes) → k < length changes →
    (get_or changes k d).needle ≡ n → part_of segs (get_or changes k d).part ≡ segments_on (map (changed_of segs) changes) n
segments_at segs changes n k d order within here = sym (ap (λ x. unwrap_or x (Entry n ∷ [])) (changed_at segs changes n k d order within here))

-- and the part of that change lies in the list
pub fits_at : (segs : List Seg) (changes : List Change) (k : ℕ) (d : Change) → PartsFit segs changes → k < length changes →
    (get_or changes k d).part.start + (get_or changes k d).part.len ≤ length segs
fits_at segs [] k d h within = absurd (omega arith)
fits_at segs (c ∷ cs) zero d h within = All-head (λ (c : Change). c.part.start + c.part.len ≤ length segs) c cs h
fits_at segs (c ∷ cs) (suc k) d h within = fits_at segs cs k d (All-tail (λ (c : Change). c.part.start + c.part.len ≤ length segs) c cs h) (omega arith)
