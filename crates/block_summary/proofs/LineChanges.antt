-- What a line changes, put into the changes before it one needle after the other.
use Rattle.std.proofs.Common.{◌≡◌, ℕ, ◌+◌, Bool, true, false, cond, List, [], ◌∷◌, ◌++◌, Option, None, Some, unwrap_or, refl, sym, ap, ◌∙◌, arith}
use Rattle.std.specs.List.Sorted.{IsStrictlySortedBy}
use Rattle.std.specs.declared.cmp.Ordering.{Ordering}
use Rattle.std.specs.declared.cmp.Ordering.TheVariants.{Less, Equal, Greater}
use Rattle.std.proofs.lemmas.List.{append-nil}
use Rattle.knit_base.specs.declared.instr.Instr.{Instr}
use Rattle.knit_base.specs.declared.instr.Instr.TheVariants.{Knit, Tuck, Split, Xfer, Drop}
use Rattle.knit_base.specs.declared.needle.Needle.{Needle}
use Rattle.knit_base.specs.declared.profile.Profile.{Profile}
use Rattle.knit_base.specs.Instr.{forming_needle}
use Rattle.knit_base.specs.Lawful.{IsLawfulInstr}
use Rattle.knit_base.specs.Needle.{needle_cmp, same_needle, same_needle-true}
use Rattle.knit_base.proofs.Needles.{same_needle-same, same_needle-false}
use Rattle.face_data.specs.declared.face.Seg.{Seg}
use Rattle.face_data.specs.declared.face.Seg.TheVariants.{Entry, New}
use Rattle.face_data.specs.Composition.{by_order, changes_merged}
use Rattle.face_data.specs.Goodness.{IsInOrder}
use Rattle.face_data.specs.Segments.{Changed, change_at, segments_on}
use Rattle.face_data.specs.Through.{changes_through, through}
use Rattle.face_data.proofs.ChangeEquality.{same_changes}
use Rattle.face_data.proofs.ChangeLists.{change_at-merged, or_change, order_merged}
use Rattle.bed_rules.specs.Beds.{changes_of}
use Rattle.block_summary.specs.DraftKnowledge.{with_loop_on, changes_written}
use Rattle.block_summary.specs.LineSummaries.{gone_over, line_changes}
use Rattle.block_summary.proofs.LineChecks.{needles_across}

-- the segments, where the needle is the changed one
abbrev if_here : Bool → List Seg → Option (List Seg)
if_here here segs = cond here (Some segs) None

one_in_order : (n : Needle) (segs : List Seg) → IsInOrder ((n, segs) ∷ [])
unfolding IsStrictlySortedBy
one_in_order n segs = (tt, tt)

put_at : (changes : List Changed) (n m : Needle) (segs : List Seg) → change_at (changes_merged changes ((n, segs) ∷ [])) m ≡ or_change (if_here (same_needle m n) segs) (change_at changes m)
put_at changes n m segs = change_at-merged changes ((n, segs) ∷ []) m (one_in_order n segs)

put_in_order : (changes : List Changed) (n : Needle) (segs : List Seg) → IsInOrder changes → IsInOrder (changes_merged changes ((n, segs) ∷ []))
put_in_order changes n segs order = order_merged changes ((n, segs) ∷ []) order (one_in_order n segs)

-- what the changed needle holds
put_here : (changes : List Changed) (n : Needle) (segs : List Seg) → segments_on (changes_merged changes ((n, segs) ∷ [])) n ≡ segs
put_here changes n segs =
    ap (λ o. unwrap_or o (Entry n ∷ [])) (put_at changes n n segs ∙ ap (λ b. or_change (if_here b segs) (change_at changes n)) (same_needle-same n n refl))

-- what another needle holds
put_beside : (changes : List Changed) (n m : Needle) (segs : List Seg) → (m ≡ n → ⊥) → segments_on (changes_merged changes ((n, segs) ∷ [])) m ≡ segments_on changes m
put_beside changes n m segs apart =
    ap (λ o. unwrap_or o (Entry m ∷ [])) (put_at changes n m segs ∙ ap (λ b. or_change (if_here b segs) (change_at changes m)) (same_needle-false m n apart))

pub merged_nothing : (changes : List Changed) → changes_merged changes [] ≡ changes
merged_nothing [] = refl
merged_nothing (c ∷ cs) = ap (λ rest. c ∷ rest) (merged_nothing cs)

last_counts : (here : Bool) (first second : List Seg) (old : Option (List Seg)) → or_change (if_here here second) (or_change (if_here here first) old) ≡ or_change (if_here here second) old
last_counts true first second old = refl
last_counts false first second old = refl

-- of two changes of a needle the last one counts
put_twice : (changes : List Changed) (n : Needle) (first second : List Seg) → IsInOrder changes →
    changes_merged (changes_merged changes ((n, first) ∷ [])) ((n, second) ∷ []) ≡ changes_merged changes ((n, second) ∷ [])
put_twice changes n first second order =
    same_changes (changes_merged (changes_merged changes ((n, first) ∷ [])) ((n, second) ∷ [])) (changes_merged changes ((n, second) ∷ []))
    (put_in_order (changes_merged changes ((n, first) ∷ [])) n second (put_in_order changes n first order)) (put_in_order changes n second order)
    (λ m. put_at (changes_merged changes ((n, first) ∷ [])) n m second
    ∙ ap (or_change (if_here (same_needle m n) second)) (put_at changes n m first)
    ∙ last_counts (same_needle m n) first second (change_at changes m)
    ∙ sym (put_at changes n m second))

this_line : (lines : ℕ) → lines ≡ lines + 0
this_line lines = omega arith

-- a knit leaves its loop alone on the needle
knit_changed : (a : List Changed) (n : Needle) (lines : ℕ) → IsInOrder a →
    changes_merged (changes_merged a ((n, []) ∷ [])) ((n, segments_on (changes_merged a ((n, []) ∷ [])) n ++ New lines ∷ []) ∷ []) ≡ changes_merged a ((n, New (lines + 0) ∷ []) ∷ [])
knit_changed a n lines order =
    (λ i. changes_merged (changes_merged a ((n, []) ∷ [])) ((n, put_here a n [] i ++ New (this_line lines i) ∷ []) ∷ []))
    ∙ put_twice a n [] (New (lines + 0) ∷ []) order

-- what a line moves over, in terms of the entry
over_through : (a : List Changed) (lines : ℕ) (n n2 : Needle) (left : List Seg) →
    changes_through a lines (gone_over n n2 left) ≡ changes_merged ((n2, through a lines (Entry n2 ∷ Entry n ∷ [])) ∷ []) ((n, through a lines left) ∷ [])
over_through a lines n n2 left = go (needle_cmp n2 n)
  where
    go : (o : Ordering) → changes_through a lines (by_order o ((n2, Entry n2 ∷ Entry n ∷ []) ∷ (n, left) ∷ []) ((n, left) ∷ []) ((n, left) ∷ (n2, Entry n2 ∷ Entry n ∷ []) ∷ []))
        ≡ by_order o ((n2, through a lines (Entry n2 ∷ Entry n ∷ [])) ∷ (n, through a lines left) ∷ []) ((n, through a lines left) ∷ [])
        ((n, through a lines left) ∷ (n2, through a lines (Entry n2 ∷ Entry n ∷ [])) ∷ [])
    go Less = refl
    go Equal = refl
    go Greater = refl

both_at : (a : List Changed) (n n2 m : Needle) (left both : List Seg) →
    change_at (changes_merged a (changes_merged ((n2, both) ∷ []) ((n, left) ∷ []))) m ≡ or_change (or_change (if_here (same_needle m n) left) (if_here (same_needle m n2) both)) (change_at a m)
both_at a n n2 m left both =
    change_at-merged a (changes_merged ((n2, both) ∷ []) ((n, left) ∷ [])) m (put_in_order ((n2, both) ∷ []) n left (one_in_order n2 both))
    ∙ ap (λ o. or_change o (change_at a m)) (put_at ((n2, both) ∷ []) n m left)

one_of_them : (here there : Bool) (left both : List Seg) (old : Option (List Seg)) → (here ≡ true → there ≡ true → ⊥) →
    or_change (if_here there both) (or_change (if_here here left) old) ≡ or_change (or_change (if_here here left) (if_here there both)) old
one_of_them true true left both old apart = absurd (apart refl refl)
one_of_them true false left both old apart = refl
one_of_them false true left both old apart = refl
one_of_them false false left both old apart = refl

two_apart : (n n2 m : Needle) → (n ≡ n2 → ⊥) → same_needle m n ≡ true → same_needle m n2 ≡ true → ⊥
two_apart n n2 m apart here there = apart (sym (same_needle-true m n here) ∙ same_needle-true m n2 there)

-- two needles changed, one after the other
put_both : (a : List Changed) (n n2 : Needle) (left both : List Seg) → IsInOrder a → (n ≡ n2 → ⊥) →
    changes_merged (changes_merged a ((n, left) ∷ [])) ((n2, both) ∷ []) ≡ changes_merged a (changes_merged ((n2, both) ∷ []) ((n, left) ∷ []))
put_both a n n2 left both order apart =
    same_changes (changes_merged (changes_merged a ((n, left) ∷ [])) ((n2, both) ∷ [])) (changes_merged a (changes_merged ((n2, both) ∷ []) ((n, left) ∷ [])))
    (put_in_order (changes_merged a ((n, left) ∷ [])) n2 both (put_in_order a n left order))
    (order_merged a (changes_merged ((n2, both) ∷ []) ((n, left) ∷ [])) order (put_in_order ((n2, both) ∷ []) n left (one_in_order n2 both)))
    (λ m. put_at (changes_merged a ((n, left) ∷ [])) n2 m both
    ∙ ap (or_change (if_here (same_needle m n2) both)) (put_at a n m left)
    ∙ one_of_them (same_needle m n) (same_needle m n2) left both (change_at a m) (two_apart n n2 m apart)
    ∙ sym (both_at a n n2 m left both))

both_there : (a : List Changed) (n n2 : Needle) → segments_on a n2 ++ segments_on a n ≡ segments_on a n2 ++ (segments_on a n ++ [])
both_there a n n2 = ap (λ segs. segments_on a n2 ++ segs) (sym (append-nil (segments_on a n)))

-- loops go over, and the first needle is left with nothing
over_changed : (a : List Changed) (n n2 : Needle) (lines : ℕ) → IsInOrder a → (n ≡ n2 → ⊥) →
    changes_merged (changes_merged a ((n, []) ∷ [])) ((n2, segments_on a n2 ++ segments_on a n) ∷ []) ≡ changes_merged a (changes_through a lines (gone_over n n2 []))
over_changed a n n2 lines order apart =
    ap (λ segs. changes_merged (changes_merged a ((n, []) ∷ [])) ((n2, segs) ∷ [])) (both_there a n n2)
    ∙ put_both a n n2 [] (segments_on a n2 ++ (segments_on a n ++ [])) order apart
    ∙ ap (changes_merged a) (sym (over_through a lines n n2 []))

last_of_three : (here there : Bool) (left both : List Seg) (old : Option (List Seg)) →
    or_change (if_here here left) (or_change (if_here there both) (or_change (if_here here []) old)) ≡ or_change (or_change (if_here here left) (if_here there both)) old
last_of_three true there left both old = refl
last_of_three false true left both old = refl
last_of_three false false left both old = refl

-- and with a loop
put_three : (a : List Changed) (n n2 : Needle) (left both : List Seg) → IsInOrder a →
    changes_merged (changes_merged (changes_merged a ((n, []) ∷ [])) ((n2, both) ∷ [])) ((n, left) ∷ []) ≡ changes_merged a (changes_merged ((n2, both) ∷ []) ((n, left) ∷ []))
put_three a n n2 left both order =
    same_changes (changes_merged (changes_merged (changes_merged a ((n, []) ∷ [])) ((n2, both) ∷ [])) ((n, left) ∷ [])) (changes_merged a (changes_merged ((n2, both) ∷ []) ((n, left) ∷ [])))
    (put_in_order (changes_merged (changes_merged a ((n, []) ∷ [])) ((n2, both) ∷ [])) n left (put_in_order (changes_merged a ((n, []) ∷ [])) n2 both (put_in_order a n [] order)))
    (order_merged a (changes_merged ((n2, both) ∷ []) ((n, left) ∷ [])) order (put_in_order ((n2, both) ∷ []) n left (one_in_order n2 both)))
    (λ m. put_at (changes_merged (changes_merged a ((n, []) ∷ [])) ((n2, both) ∷ [])) n m left
    ∙ ap (or_change (if_here (same_needle m n) left)) (put_at (changes_merged a ((n, []) ∷ [])) n2 m both ∙ ap (or_change (if_here (same_needle m n2) both)) (put_at a n m []))
    ∙ last_of_three (same_needle m n) (same_needle m n2) left both (change_at a m)
    ∙ sym (both_at a n n2 m left both))

emptied : (a : List Changed) (n n2 : Needle) (both : List Seg) → (n ≡ n2 → ⊥) → segments_on (changes_merged (changes_merged a ((n, []) ∷ [])) ((n2, both) ∷ [])) n ≡ []
emptied a n n2 both apart = put_beside (changes_merged a ((n, []) ∷ [])) n2 n both apart ∙ put_here a n []

split_changed : (a : List Changed) (n n2 : Needle) (lines : ℕ) → IsInOrder a → (n ≡ n2 → ⊥) →
    with_loop_on (Some n) lines (changes_merged (changes_merged a ((n, []) ∷ [])) ((n2, segments_on a n2 ++ segments_on a n) ∷ [])) ≡ changes_merged a (changes_through a lines (gone_over n n2 (New 0 ∷ [])))
split_changed a n n2 lines order apart =
    ap (λ segs. with_loop_on (Some n) lines (changes_merged (changes_merged a ((n, []) ∷ [])) ((n2, segs) ∷ []))) (both_there a n n2)
    ∙ (λ i. changes_merged (changes_merged (changes_merged a ((n, []) ∷ [])) ((n2, segments_on a n2 ++ (segments_on a n ++ [])) ∷ []))
    ((n, emptied a n n2 (segments_on a n2 ++ (segments_on a n ++ [])) apart i ++ New (this_line lines i) ∷ []) ∷ []))
    ∙ put_three a n n2 (New (lines + 0) ∷ []) (segments_on a n2 ++ (segments_on a n ++ [])) order
    ∙ ap (changes_merged a) (sym (over_through a lines n n2 (New 0 ∷ [])))

-- What a line changes in terms of the entry, put into the changes before it, is each needle's new segments put in one after the
-- other, and its loop last.
pub line_changed : (profile : Profile) (carriers : ℕ) (instr : Instr) (a : List Changed) (lines : ℕ) → IsLawfulInstr profile carriers instr → IsInOrder a →
    with_loop_on (forming_needle instr) lines (changes_written a (changes_of instr a)) ≡ changes_merged a (changes_through a lines (line_changes instr))
line_changed profile carriers (Knit dir n []) a lines lawful order = refl
line_changed profile carriers (Knit dir n (c ∷ cs)) a lines lawful order = knit_changed a n lines order
line_changed profile carriers (Tuck dir n []) a lines lawful order = sym (merged_nothing a)
line_changed profile carriers (Tuck dir n (c ∷ cs)) a lines lawful order = ap (λ k. changes_merged a ((n, segments_on a n ++ New k ∷ []) ∷ [])) (this_line lines)
line_changed profile carriers (Split dir n n2 []) a lines lawful order = over_changed a n n2 lines order (needles_across n n2 lawful.moved)
line_changed profile carriers (Split dir n n2 (c ∷ cs)) a lines lawful order = split_changed a n n2 lines order (needles_across n n2 lawful.moved)
line_changed profile carriers (Xfer n n2) a lines lawful order = over_changed a n n2 lines order (needles_across n n2 lawful.moved)
line_changed profile carriers (Drop n) a lines lawful order = refl
line_changed profile carriers instr a lines lawful order = sym (merged_nothing a)
