-- Two lists of changes, each in the order of needles, put together; the second one's win.
use Rattle.std.proofs.Common.{◌≡◌, ℕ, Bool, true, false, List, [], ◌∷◌, Option, Some, None, refl, sym, ap, ◌∙◌, subst, map}
use Rattle.std.specs.Prelude.{if◌then◌else◌, unwrap_or}
use Rattle.std.specs.Option.{option_map}
use Rattle.std.specs.List.{AllByRecursion}
use Rattle.std.specs.List.Sorted.{IsStrictlySortedBy}
use Rattle.std.specs.Ordering.{ordering_reverse}
use Rattle.std.specs.declared.cmp.Ordering.{Ordering}
use Rattle.std.specs.declared.cmp.Ordering.TheVariants.{Less, Equal, Greater}
use Rattle.std.proofs.lemmas.List.{append-nil}
use Rattle.knit_base.specs.Needle.{same_needle, same_needle-true, needle_cmp, needle_cmp_total}
use Rattle.face_data.specs.Segments.{Changed, change_at, segments_on}
use Rattle.face_data.specs.Through.{through, changes_through}
use Rattle.knit_base.specs.declared.needle.Needle.{Needle}
use Rattle.face_data.specs.declared.face.Seg.{Seg}
use Rattle.face_data.specs.declared.face.Seg.TheVariants.{Entry}
use Rattle.face_data.specs.Goodness.{IsInOrder}
use Rattle.face_data.specs.Composition.{by_order, merged_from, changes_merged}
use Rattle.knit_base.proofs.Needles.{needle_cmp-refl, needle_cmp-equal}

-- the first change, or else the second
abbrev pub or_change : Option (List Seg) → Option (List Seg) → Option (List Seg)
or_change (Some segs) other = Some segs
or_change None other = other

-- the second list's change, else the first one's
change_at_if : (b : Bool) (segs : List Seg) (x y : Option (List Seg)) → or_change (if b then Some segs else x) y ≡ (if b then Some segs else or_change x y)
change_at_if true segs x y = refl
change_at_if false segs x y = refl

-- no order is both
pub not_less_and_equal : (o : Ordering) → o ≡ Less → o ≡ Equal → ⊥
not_less_and_equal o p q = cc

absent_step : (n : Needle) (c : Changed) (x : Option (List Seg)) (b : Bool) → same_needle n c.0 ≡ b → needle_cmp n c.0 ≡ Less → x ≡ None →
    (if b then Some c.1 else x) ≡ None
absent_step n c x true e less none =
    absurd (not_less_and_equal (needle_cmp n c.0) less (subst (λ m. needle_cmp n m ≡ Equal) (same_needle-true n c.0 e) (needle_cmp-refl n)))
absent_step n c x false e less none = none

-- all changed needles come after the needle
abbrev pub AllAbove : Needle → List Changed → Type 0
AllAbove n cs = AllByRecursion (λ m. needle_cmp n m ≡ Less) (map (λ (c : Changed). c.0) cs)

-- a needle below all changed ones isn't changed
pub absent_below : (n : Needle) (cs : List Changed) → AllAbove n cs → change_at cs n ≡ None
absent_below n [] h = refl
absent_below n (c ∷ cs) h = absent_step n c (change_at cs n) (same_needle n c.0) refl h.0 (absent_below n cs h.1)

-- what stands above a needle stands above those below it
pub above_more : (n m : Needle) (cs : List Changed) → needle_cmp n m ≡ Less → AllAbove m cs → AllAbove n cs
above_more n m [] less h = tt
above_more n m (c ∷ cs) less h = (needle_cmp_total.trans n m c.0 less h.0, above_more n m cs less h.1)

-- a below b: a first
first_is_less : (a b : Changed) (bs : List Changed) (n : Needle) (x y : Option (List Seg)) (t : Bool) → same_needle n a.0 ≡ t →
    needle_cmp a.0 b.0 ≡ Less → AllAbove b.0 bs → x ≡ or_change (change_at (b ∷ bs) n) y →
    (if t then Some a.1 else x) ≡ or_change (change_at (b ∷ bs) n) (if t then Some a.1 else y)
first_is_less a b bs n x y true e less above ih =
    sym (ap (λ o. or_change o (Some a.1)) (subst (λ m. change_at (b ∷ bs) m ≡ None) (sym (same_needle-true n a.0 e))
    (absent_below a.0 (b ∷ bs) (less, above_more a.0 b.0 bs less above))))
first_is_less a b bs n x y false e less above ih = ih

-- a and b at one needle: b's
at_one_needle : (a b : Changed) (bs : List Changed) (n : Needle) (x y : Option (List Seg)) (t : Bool) → same_needle n b.0 ≡ t →
    needle_cmp a.0 b.0 ≡ Equal → x ≡ or_change (change_at bs n) y →
    (if t then Some b.1 else x) ≡ or_change (if t then Some b.1 else change_at bs n) (if same_needle n a.0 then Some a.1 else y)
at_one_needle a b bs n x y true e equal ih = refl
at_one_needle a b bs n x y false e equal ih =
    ih ∙ ap (λ t. or_change (change_at bs n) (if t then Some a.1 else y)) (sym (ap (λ m. same_needle n m) (needle_cmp-equal a.0 b.0 equal) ∙ e))

by_order_at : (a b : Changed) (bs : List Changed) (n : Needle) (y : Option (List Seg)) (less equal greater : List Changed) (o : Ordering) →
    needle_cmp a.0 b.0 ≡ o → AllAbove b.0 bs →
    change_at less n ≡ or_change (change_at (b ∷ bs) n) y →
    change_at equal n ≡ or_change (change_at bs n) y →
    change_at greater n ≡ or_change (change_at bs n) (if same_needle n a.0 then Some a.1 else y) →
    change_at (by_order o (a ∷ less) (b ∷ equal) (b ∷ greater)) n ≡ or_change (change_at (b ∷ bs) n) (if same_needle n a.0 then Some a.1 else y)
by_order_at a b bs n y less equal greater Less e above l q g = first_is_less a b bs n (change_at less n) y (same_needle n a.0) refl e above l
by_order_at a b bs n y less equal greater Equal e above l q g = at_one_needle a b bs n (change_at equal n) y (same_needle n b.0) refl e q
by_order_at a b bs n y less equal greater Greater e above l q g =
    ap (λ x. if same_needle n b.0 then Some b.1 else x) g
    ∙ sym (change_at_if (same_needle n b.0) b.1 (change_at bs n) (if same_needle n a.0 then Some a.1 else y))

merged_from_at : (a : Changed) (rest : List Changed → List Changed) (y : Option (List Seg)) (n : Needle) →
    ((bs : List Changed) → IsInOrder bs → change_at (rest bs) n ≡ or_change (change_at bs n) y) →
    (bs : List Changed) → IsInOrder bs → change_at (merged_from a rest bs) n ≡ or_change (change_at bs n) (if same_needle n a.0 then Some a.1 else y)
unfolding IsStrictlySortedBy
merged_from_at a rest y n ih [] order = ap (λ x. if same_needle n a.0 then Some a.1 else x) (ih [] tt)
merged_from_at a rest y n ih (b ∷ bs) order =
    by_order_at a b bs n y (rest (b ∷ bs)) (rest bs) (merged_from a rest bs) (needle_cmp a.0 b.0) refl order.0
    (ih (b ∷ bs) order) (ih bs order.1) (merged_from_at a rest y n ih bs order.1)

-- what the merged list says of a needle: the second list's change, else the first one's
pub change_at-merged : (others bs : List Changed) (n : Needle) → IsInOrder bs → change_at (changes_merged others bs) n ≡ or_change (change_at bs n) (change_at others n)
change_at-merged [] bs n order = none_last (change_at bs n)
  where
    none_last : (o : Option (List Seg)) → o ≡ or_change o None
    none_last None = refl
    none_last (Some x) = refl
change_at-merged (a ∷ others) bs n order =
    merged_from_at a (changes_merged others) (change_at others n) n (λ cs h. change_at-merged others cs n h) bs order

changed_if : (a : List Changed) (lines : ℕ) (t : Bool) (segs : List Seg) (x : Option (List Seg)) →
    (if t then Some (through a lines segs) else option_map (through a lines) x) ≡ option_map (through a lines) (if t then Some segs else x)
changed_if a lines true segs x = refl
changed_if a lines false segs x = refl

change_at-through : (a : List Changed) (lines : ℕ) (bs : List Changed) (n : Needle) → change_at (changes_through a lines bs) n ≡ option_map (through a lines) (change_at bs n)
change_at-through a lines [] n = refl
change_at-through a lines (b ∷ bs) n =
    ap (λ x. if same_needle n b.0 then Some (through a lines b.1) else x) (change_at-through a lines bs n)
    ∙ changed_if a lines (same_needle n b.0) b.1 (change_at bs n)

needles_through : (a : List Changed) (lines : ℕ) (bs : List Changed) → map (λ (c : Changed). c.0) (changes_through a lines bs) ≡ map (λ (c : Changed). c.0) bs
needles_through a lines [] = refl
needles_through a lines (b ∷ bs) = ap (λ ns. b.0 ∷ ns) (needles_through a lines bs)

segments_cases : (a : List Changed) (lines : ℕ) (n : Needle) (x : Option (List Seg)) →
    unwrap_or (or_change (option_map (through a lines) x) (change_at a n)) (Entry n ∷ []) ≡ through a lines (unwrap_or x (Entry n ∷ []))
segments_cases a lines n (Some segs) = refl
segments_cases a lines n None = sym (append-nil (segments_on a n))

-- What a needle holds after both blocks is what it holds after the second, read_seg through the first.
pub segments_on-both : (a bs : List Changed) (lines : ℕ) (n : Needle) → IsInOrder bs →
    segments_on (changes_merged a (changes_through a lines bs)) n ≡ through a lines (segments_on bs n)
segments_on-both a bs lines n order =
    ap (λ x. unwrap_or x (Entry n ∷ []))
    (change_at-merged a (changes_through a lines bs) n (subst (IsStrictlySortedBy needle_cmp) (sym (needles_through a lines bs)) order)
    ∙ ap (λ x. or_change x (change_at a n)) (change_at-through a lines bs n))
    ∙ segments_cases a lines n (change_at bs n)

-- the merged list stands above what both lists stand above
above_by_order : (n : Needle) (less equal greater : List Changed) (o : Ordering) → AllAbove n less → AllAbove n equal → AllAbove n greater → AllAbove n (by_order o less equal greater)
above_by_order n less equal greater Less l e g = l
above_by_order n less equal greater Equal l e g = e
above_by_order n less equal greater Greater l e g = g

above_merged_from : (n : Needle) (a : Changed) (rest : List Changed → List Changed) → needle_cmp n a.0 ≡ Less →
    ((bs : List Changed) → AllAbove n bs → AllAbove n (rest bs)) → (bs : List Changed) → AllAbove n bs → AllAbove n (merged_from a rest bs)
above_merged_from n a rest less ih [] h = (less, ih [] tt)
above_merged_from n a rest less ih (b ∷ bs) h =
    above_by_order n (a ∷ rest (b ∷ bs)) (b ∷ rest bs) (b ∷ merged_from a rest bs) (needle_cmp a.0 b.0)
    (less, ih (b ∷ bs) h) (h.0, ih bs h.1) (h.0, above_merged_from n a rest less ih bs h.1)

above_merged : (n : Needle) (others bs : List Changed) → AllAbove n others → AllAbove n bs → AllAbove n (changes_merged others bs)
above_merged n [] bs h k = k
above_merged n (a ∷ others) bs h k = above_merged_from n a (changes_merged others) h.0 (λ cs j. above_merged n others cs h.1 j) bs k

-- an order turned round
pub reverse_greater : (o p : Ordering) → o ≡ Greater → p ≡ ordering_reverse o → p ≡ Less
reverse_greater o p e f = f ∙ ap ordering_reverse e

order_by_order : (a b : Changed) (others bs : List Changed) (less equal greater : List Changed) (o : Ordering) → needle_cmp a.0 b.0 ≡ o →
    AllAbove a.0 others → AllAbove b.0 bs →
    (AllAbove a.0 (b ∷ bs) → AllAbove a.0 less) → (AllAbove b.0 others → AllAbove b.0 equal) → (AllAbove b.0 (a ∷ others) → AllAbove b.0 greater) →
    IsInOrder less → IsInOrder equal → IsInOrder greater → IsInOrder (by_order o (a ∷ less) (b ∷ equal) (b ∷ greater))
unfolding IsStrictlySortedBy
order_by_order a b others bs less equal greater Less e above_a above_b l q g il iq ig = (l (e, above_more a.0 b.0 bs e above_b), il)
order_by_order a b others bs less equal greater Equal e above_a above_b l q g il iq ig = (q (subst (λ n. AllAbove n others) (needle_cmp-equal a.0 b.0 e) above_a), iq)
order_by_order a b others bs less equal greater Greater e above_a above_b l q g il iq ig =
    let below = reverse_greater (needle_cmp a.0 b.0) (needle_cmp b.0 a.0) e (needle_cmp_total.antisymm b.0 a.0) in
    (g (below, above_more b.0 a.0 others below above_a), ig)

order_merged_from : (a : Changed) (others : List Changed) → AllAbove a.0 others →
    ((bs : List Changed) → IsInOrder bs → IsInOrder (changes_merged others bs)) → (bs : List Changed) → IsInOrder bs → IsInOrder (merged_from a (changes_merged others) bs)
unfolding IsStrictlySortedBy
order_merged_from a others above ih [] h = (above_merged a.0 others [] above tt, ih [] tt)
order_merged_from a others above ih (b ∷ bs) h =
    order_by_order a b others bs (changes_merged others (b ∷ bs)) (changes_merged others bs) (merged_from a (changes_merged others) bs) (needle_cmp a.0 b.0) refl above h.0
    (λ k. above_merged a.0 others (b ∷ bs) above k)
    (λ k. above_merged b.0 others bs k h.0)
    (λ k. above_merged_from b.0 a (changes_merged others) k.0 (λ cs j. above_merged b.0 others cs k.1 j) bs h.0)
    (ih (b ∷ bs) h) (ih bs h.1) (order_merged_from a others above ih bs h.1)

-- no change at all stands in order
pub none_in_order : IsInOrder []
unfolding IsStrictlySortedBy
none_in_order = tt

-- the merged list is in order
pub order_merged : (others bs : List Changed) → IsInOrder others → IsInOrder bs → IsInOrder (changes_merged others bs)
unfolding IsStrictlySortedBy
order_merged [] bs h k = k
order_merged (a ∷ others) bs h k = order_merged_from a others h.0 (λ cs j. order_merged others cs h.1 j) bs k

-- changes that are read through a block stay in order
pub order_through : (a : List Changed) (lines : ℕ) (bs : List Changed) → IsInOrder bs → IsInOrder (changes_through a lines bs)
order_through a lines bs h = subst (IsStrictlySortedBy needle_cmp) (sym (needles_through a lines bs)) h
