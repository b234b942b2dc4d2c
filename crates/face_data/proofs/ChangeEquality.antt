-- Changes in order are known by what they say of each needle.
use Rattle.std.proofs.Common.{◌≡◌, Bool, true, false, cond, List, [], ◌∷◌, Option, Some, None, refl, sym, ap, ◌∙◌, subst}
use Rattle.std.specs.List.Sorted.{IsStrictlySortedBy}
use Rattle.std.specs.declared.cmp.Ordering.{Ordering}
use Rattle.std.specs.declared.cmp.Ordering.TheVariants.{Less, Equal, Greater}
use Rattle.knit_base.specs.declared.needle.Needle.{Needle}
use Rattle.knit_base.specs.Needle.{same_needle, same_needle-true, needle_cmp, needle_cmp_total}
use Rattle.face_data.specs.declared.face.Seg.{Seg}
use Rattle.face_data.specs.Composition.{changes_merged}
use Rattle.face_data.specs.Goodness.{IsInOrder}
use Rattle.face_data.specs.Segments.{Changed, change_at}
use Rattle.face_data.proofs.ChangeLists.{AllAbove, or_change, absent_below, change_at-merged, order_merged, above_more, reverse_greater}
use Rattle.knit_base.proofs.Needles.{needle_cmp-equal, same_needle-same, same_needle-comm}

-- the first change of a list
first_found : (x : Changed) (xs : List Changed) → change_at (x ∷ xs) x.0 ≡ Some x.1
first_found x xs = ap (λ here. cond here (Some x.1) (change_at xs x.0)) (same_needle-same x.0 x.0 refl)

some_or_none : (segs : List Seg) (o : Option (List Seg)) → o ≡ Some segs → o ≡ None → ⊥
some_or_none segs o some none = let both : Some segs ≡ None = sym some ∙ none in cc

same_some : (xs ys : List Seg) → Some xs ≡ Some ys → xs ≡ ys
same_some xs ys e = cc

-- what the rests say, where the first changes are of one needle
rest_says : (n x y : Needle) (first second : List Seg) (xs ys : List Changed) (here : Bool) → same_needle n x ≡ here → x ≡ y → AllAbove x xs → AllAbove y ys →
    change_at ((x, first) ∷ xs) n ≡ change_at ((y, second) ∷ ys) n → change_at xs n ≡ change_at ys n
rest_says n x y first second xs ys true same one above_x above_y says =
    subst (λ m. change_at xs m ≡ None) (sym (same_needle-true n x same)) (absent_below x xs above_x)
    ∙ sym (subst (λ m. change_at ys m ≡ None) (sym (same_needle-true n x same ∙ one)) (absent_below y ys above_y))
rest_says n x y first second xs ys false other one above_x above_y says =
    sym (ap (λ b. cond b (Some first) (change_at xs n)) other)
    ∙ says
    ∙ ap (λ b. cond b (Some second) (change_at ys n)) (ap (same_needle n) (sym one) ∙ other)

-- Two lists in order that say the same of each needle are one list.
pub same_changes : (xs ys : List Changed) → IsInOrder xs → IsInOrder ys → ((n : Needle) → change_at xs n ≡ change_at ys n) → xs ≡ ys
unfolding IsStrictlySortedBy
same_changes [] [] order_x order_y says = refl
same_changes [] (y ∷ ys) order_x order_y says = absurd (some_or_none y.1 (change_at (y ∷ ys) y.0) (first_found y ys) (sym (says y.0)))
same_changes (x ∷ xs) [] order_x order_y says = absurd (some_or_none x.1 (change_at (x ∷ xs) x.0) (first_found x xs) (says x.0))
same_changes (x ∷ xs) (y ∷ ys) order_x order_y says = go (needle_cmp x.0 y.0) refl (λ rest. same_changes xs ys order_x.1 order_y.1 rest)
  where
    go : (o : Ordering) → needle_cmp x.0 y.0 ≡ o → (((n : Needle) → change_at xs n ≡ change_at ys n) → xs ≡ ys) → x ∷ xs ≡ y ∷ ys
    go Less less ih = absurd (some_or_none x.1 (change_at (y ∷ ys) x.0) (sym (says x.0) ∙ first_found x xs) (absent_below x.0 (y ∷ ys) (less, above_more x.0 y.0 ys less order_y.0)))
    go Greater greater ih =
        let less = reverse_greater (needle_cmp x.0 y.0) (needle_cmp y.0 x.0) greater (needle_cmp_total.antisymm y.0 x.0) in
        absurd (some_or_none y.1 (change_at (x ∷ xs) y.0) (says y.0 ∙ first_found y ys) (absent_below y.0 (x ∷ xs) (less, above_more y.0 x.0 xs less order_x.0)))
    go Equal equal ih =
        let one : x.0 ≡ y.0 = needle_cmp-equal x.0 y.0 equal in
        let segs : x.1 ≡ y.1 = same_some x.1 y.1 (sym (first_found x xs) ∙ says x.0 ∙ ap (change_at (y ∷ ys)) one ∙ first_found y ys) in
        let rest : xs ≡ ys = ih
        (λ n. rest_says n x.0 y.0 x.1 y.1 xs ys (same_needle n x.0) refl one order_x.0 order_y.0 (says n)) in
        λ i. (one i, segs i) ∷ rest i

set_says : (here : Bool) (segs : List Seg) (old : Option (List Seg)) → cond here (Some segs) old ≡ or_change (cond here (Some segs) None) old
set_says true segs old = refl
set_says false segs old = refl

-- a list in order that says this of one needle, and of the others what another list says, is that list with one change merged
pub set-merged : (old new : List Changed) (n : Needle) (segs : List Seg) → IsInOrder old → IsInOrder new →
    ((m : Needle) → change_at new m ≡ cond (same_needle n m) (Some segs) (change_at old m)) → new ≡ changes_merged old ((n, segs) ∷ [])
unfolding IsStrictlySortedBy
set-merged old new n segs order_old order_new says =
    same_changes new (changes_merged old ((n, segs) ∷ [])) order_new (order_merged old ((n, segs) ∷ []) order_old (tt, tt))
    (λ m. says m
    ∙ ap (λ here. cond here (Some segs) (change_at old m)) (same_needle-comm n m)
    ∙ set_says (same_needle m n) segs (change_at old m)
    ∙ sym (change_at-merged old ((n, segs) ∷ []) m (tt, tt)))
