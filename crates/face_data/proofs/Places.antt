-- A list in the order of needles, split at a needle's place.
use Rattle.std.proofs.Common.{◌≡◌, ℕ, zero, suc, ◌+◌, ◌<◌, Bool, true, false, if◌then◌else◌, List, [], ◌∷◌, ◌++◌, Option, Some, None, length, take, drop, get_or, map, refl, sym, ap, ◌∙◌, subst, arith, add-one}
use Rattle.std.specs.List.{insert}
use Rattle.std.specs.List.Sorted.{IsStrictlySortedBy}
use Rattle.std.specs.Ordering.{is_eq, ordering_reverse}
use Rattle.std.specs.declared.cmp.Ordering.TheVariants.{Less, Greater}
use Rattle.std.proofs.lemmas.List.{take-append-drop, drop_more}
use Rattle.std.proofs.Math.ListN.{set}
use Rattle.knit_base.specs.declared.needle.Needle.{Needle}
use Rattle.knit_base.specs.Needle.{needle_cmp, needle_cmp_total, same_needle, same_needle-true}
use Rattle.face_data.specs.declared.face.Seg.{Seg}
use Rattle.face_data.specs.Composition.{changes_merged, merged_from, by_order}
use Rattle.face_data.specs.Goodness.{IsInOrder}
use Rattle.face_data.specs.Places.{AllBefore, AllBehind, ChangeStandsAt, GoesAt}
use Rattle.face_data.specs.Segments.{Changed, change_at}
use Rattle.std.proofs.lemmas.Bool.{false≢true}
use Rattle.face_data.proofs.ChangeLists.{AllAbove, change_at-merged, or_change, order_merged}
use Rattle.knit_base.proofs.Needles.{needle_cmp-refl, same_needle-same}

abbrev keys : List Changed → List Needle
keys changes = map (λ (c : Changed). c.0) changes

-- the two ways round
flip_less : (a b : Needle) → needle_cmp a b ≡ Less → needle_cmp b a ≡ Greater
flip_less a b less = needle_cmp_total.antisymm b a ∙ ap ordering_reverse less

flip_greater : (a b : Needle) → needle_cmp a b ≡ Greater → needle_cmp b a ≡ Less
flip_greater a b greater = needle_cmp_total.antisymm b a ∙ ap ordering_reverse greater

before_more : (m n : Needle) (changes : List Changed) → AllBefore m changes → needle_cmp m n ≡ Less → AllBefore n changes
before_more m n [] all less = tt
before_more m n (c ∷ cs) all less = (needle_cmp_total.trans c.0 m n all.0 less, before_more m n cs all.1 less)

behind_more : (m n : Needle) (changes : List Changed) → AllBehind m changes → needle_cmp m n ≡ Greater → AllBehind n changes
behind_more m n [] all greater = tt
behind_more m n (c ∷ cs) all greater =
    (flip_less n c.0 (needle_cmp_total.trans n m c.0 (flip_greater m n greater) (flip_greater c.0 m all.0)), behind_more m n cs all.1 greater)

above_behind : (n : Needle) (changes : List Changed) → AllAbove n changes → AllBehind n changes
above_behind n [] all = tt
above_behind n (c ∷ cs) all = (flip_less n c.0 all.0, above_behind n cs all.1)

behind_above : (n : Needle) (changes : List Changed) → AllBehind n changes → AllAbove n changes
behind_above n [] all = tt
behind_above n (c ∷ cs) all = (flip_greater c.0 n all.0, behind_above n cs all.1)

-- of a list in order, what stands before and behind a place
order_before : (front : List Changed) (c : Changed) (rest : List Changed) → IsInOrder (front ++ c ∷ rest) → AllBefore c.0 front
unfolding IsStrictlySortedBy
order_before [] c rest order = tt
order_before (f ∷ front) c rest order = (here front order.0, order_before front c rest order.1)
  where
    here : (front : List Changed) → AllAbove f.0 (front ++ c ∷ rest) → needle_cmp f.0 c.0 ≡ Less
    here [] all = all.0
    here (g ∷ front) all = here front all.1

order_behind : (front : List Changed) (c : Changed) (rest : List Changed) → IsInOrder (front ++ c ∷ rest) → AllBehind c.0 rest
unfolding IsStrictlySortedBy
order_behind [] c rest order = above_behind c.0 rest order.0
order_behind (f ∷ front) c rest order = order_behind front c rest order.1

split : (changes : List Changed) (i : ℕ) (d : Changed) → i < length changes → take i changes ++ get_or changes i d ∷ drop (i + 1) changes ≡ changes
split changes i d within = ap (λ rest. take i changes ++ rest) (sym (drop_more changes i d within)) ∙ take-append-drop i changes

-- the changes before a place are of needles before its needle
pub before_at : (changes : List Changed) (i : ℕ) (d : Changed) → IsInOrder changes → i < length changes → AllBefore (get_or changes i d).0 (take i changes)
before_at changes i d order within = order_before (take i changes) (get_or changes i d) (drop (i + 1) changes) (subst IsInOrder (sym (split changes i d within)) order)

-- and those behind it of needles behind
pub behind_at : (changes : List Changed) (i : ℕ) (d : Changed) → IsInOrder changes → i < length changes → AllBehind (get_or changes i d).0 (drop (i + 1) changes)
behind_at changes i d order within = order_behind (take i changes) (get_or changes i d) (drop (i + 1) changes) (subst IsInOrder (sym (split changes i d within)) order)

before_append : (n : Needle) (front rest : List Changed) → AllBefore n front → AllBefore n rest → AllBefore n (front ++ rest)
before_append n [] rest p q = q
before_append n (f ∷ front) rest p q = (p.0, before_append n front rest p.1 q)

take_one_more : (changes : List Changed) (i : ℕ) (d : Changed) → i < length changes → take i changes ++ get_or changes i d ∷ [] ≡ take (i + 1) changes
take_one_more [] i d within = absurd (omega arith)
take_one_more (c ∷ cs) zero d within = refl
take_one_more (c ∷ cs) (suc i) d within = ap (λ xs. c ∷ xs) (take_one_more cs i d (omega arith) ∙ ap (λ k. take k cs) (add-one i)) ∙ ap (λ k. take k (c ∷ cs)) (sym (add-one (suc i)))

-- a place whose needle is below: all up to it are
pub less_at : (changes : List Changed) (i : ℕ) (d : Changed) (n : Needle) → IsInOrder changes → i < length changes → needle_cmp (get_or changes i d).0 n ≡ Less → AllBefore n (take (i + 1) changes)
less_at changes i d n order within less =
    subst (AllBefore n) (take_one_more changes i d within)
    (before_append n (take i changes) (get_or changes i d ∷ []) (before_more (get_or changes i d).0 n (take i changes) (before_at changes i d order within) less) (less, tt))

-- a place whose needle is above: all from it on are
pub greater_at : (changes : List Changed) (i : ℕ) (d : Changed) (n : Needle) → IsInOrder changes → i < length changes → needle_cmp (get_or changes i d).0 n ≡ Greater → AllBehind n (drop i changes)
greater_at changes i d n order within greater =
    subst (AllBehind n) (sym (drop_more changes i d within)) (greater, behind_more (get_or changes i d).0 n (drop (i + 1) changes) (behind_at changes i d order within) greater)

-- a change of a needle behind all these goes behind them
merged_over : (n : Needle) (segs : List Seg) (front rest : List Changed) → AllBefore n front → changes_merged (front ++ rest) ((n, segs) ∷ []) ≡ front ++ changes_merged rest ((n, segs) ∷ [])
merged_over n segs [] rest all = refl
merged_over n segs (f ∷ front) rest all =
    ap (λ o. by_order o (f ∷ changes_merged (front ++ rest) ((n, segs) ∷ [])) ((n, segs) ∷ changes_merged (front ++ rest) []) ((n, segs) ∷ merged_from f (changes_merged (front ++ rest)) [])) all.0
    ∙ ap (λ xs. f ∷ xs) (merged_over n segs front rest all.1)

merged_none : (changes : List Changed) → changes_merged changes [] ≡ changes
merged_none [] = refl
merged_none (c ∷ cs) = ap (λ xs. c ∷ xs) (merged_none cs)

merged_here : (n : Needle) (segs old : List Seg) (rest : List Changed) → changes_merged ((n, old) ∷ rest) ((n, segs) ∷ []) ≡ (n, segs) ∷ rest
merged_here n segs old rest =
    ap (λ o. by_order o ((n, old) ∷ changes_merged rest ((n, segs) ∷ [])) ((n, segs) ∷ changes_merged rest []) ((n, segs) ∷ merged_from (n, old) (changes_merged rest) [])) (needle_cmp-refl n)
    ∙ ap (λ xs. (n, segs) ∷ xs) (merged_none rest)

merged_before : (n : Needle) (segs : List Seg) (rest : List Changed) → AllBehind n rest → changes_merged rest ((n, segs) ∷ []) ≡ (n, segs) ∷ rest
merged_before n segs [] all = refl
merged_before n segs (c ∷ cs) all =
    ap (λ o. by_order o (c ∷ changes_merged cs ((n, segs) ∷ [])) ((n, segs) ∷ changes_merged cs []) ((n, segs) ∷ merged_from c (changes_merged cs) [])) all.0
    ∙ ap (λ xs. (n, segs) ∷ c ∷ xs) (merged_none cs)

-- what is said of a needle behind all these
over_at : (n : Needle) (front rest : List Changed) → AllBefore n front → change_at (front ++ rest) n ≡ change_at rest n
over_at n [] rest all = refl
over_at n (f ∷ front) rest all = ap (λ o. if is_eq o then Some f.1 else change_at (front ++ rest) n) (flip_less f.0 n all.0) ∙ over_at n front rest all.1

behind_none : (n : Needle) (rest : List Changed) → AllBehind n rest → change_at rest n ≡ None
behind_none n [] all = refl
behind_none n (c ∷ cs) all = ap (λ o. if is_eq o then Some c.1 else change_at cs n) (flip_greater c.0 n all.0) ∙ behind_none n cs all.1

here_at : (n : Needle) (segs : List Seg) (rest : List Changed) → change_at ((n, segs) ∷ rest) n ≡ Some segs
here_at n segs rest = ap (λ o. if is_eq o then Some segs else change_at rest n) (needle_cmp-refl n)

-- the split at a place where the needle stands
stand_split : (changes : List Changed) (n : Needle) (i : ℕ) (d : Changed) → ChangeStandsAt changes n i → take i changes ++ (n, (get_or changes i d).1) ∷ drop (i + 1) changes ≡ changes
stand_split changes n i d at =
    ap (λ m. take i changes ++ (m, (get_or changes i d).1) ∷ drop (i + 1) changes) (sym (at.is d)) ∙ split changes i d at.within

stand_before : (changes : List Changed) (n : Needle) (i : ℕ) (d : Changed) → IsInOrder changes → ChangeStandsAt changes n i → AllBefore n (take i changes)
stand_before changes n i d order at = subst (λ m. AllBefore m (take i changes)) (at.is d) (before_at changes i d order at.within)

-- the segments of a needle that stands at this place
pub at_place : (changes : List Changed) (n : Needle) (i : ℕ) (d : Changed) → IsInOrder changes → ChangeStandsAt changes n i → Some (get_or changes i d).1 ≡ change_at changes n
at_place changes n i d order at =
    sym (here_at n (get_or changes i d).1 (drop (i + 1) changes))
    ∙ sym (over_at n (take i changes) ((n, (get_or changes i d).1) ∷ drop (i + 1) changes) (stand_before changes n i d order at))
    ∙ ap (λ xs. change_at xs n) (stand_split changes n i d at)

-- a needle that would stand at a place has none
pub at_gap : (changes : List Changed) (n : Needle) (i : ℕ) → GoesAt changes n i → None ≡ change_at changes n
at_gap changes n i at =
    sym (behind_none n (drop i changes) at.behind) ∙ sym (over_at n (take i changes) (drop i changes) at.before) ∙ ap (λ xs. change_at xs n) (take-append-drop i changes)

set_split : (changes : List Changed) (i : ℕ) (c : Changed) → i < length changes → set changes i c ≡ take i changes ++ c ∷ drop (i + 1) changes
set_split [] i c within = absurd (omega arith)
set_split (x ∷ xs) zero c within = refl
set_split (x ∷ xs) (suc i) c within =
    ap (λ ys. x ∷ ys) (set_split xs i c (omega arith) ∙ ap (λ k. take i xs ++ c ∷ drop k xs) (add-one i)) ∙ ap (λ k. x ∷ take i xs ++ c ∷ drop k (x ∷ xs)) (sym (add-one (suc i)))

-- other segments for a needle that stands at this place
pub set_place : (changes : List Changed) (n : Needle) (i : ℕ) (d : Changed) (segs : List Seg) → IsInOrder changes → ChangeStandsAt changes n i →
    set changes i (n, segs) ≡ changes_merged changes ((n, segs) ∷ [])
set_place changes n i d segs order at =
    set_split changes i (n, segs) at.within
    ∙ ap (λ xs. take i changes ++ xs) (sym (merged_here n segs (get_or changes i d).1 (drop (i + 1) changes)))
    ∙ sym (merged_over n segs (take i changes) ((n, (get_or changes i d).1) ∷ drop (i + 1) changes) (stand_before changes n i d order at))
    ∙ ap (λ xs. changes_merged xs ((n, segs) ∷ [])) (stand_split changes n i d at)

-- a needle more
pub insert_place : (changes : List Changed) (n : Needle) (i : ℕ) (segs : List Seg) → GoesAt changes n i → take i changes ++ (n, segs) ∷ drop i changes ≡ changes_merged changes ((n, segs) ∷ [])
insert_place changes n i segs at =
    ap (λ xs. take i changes ++ xs) (sym (merged_before n segs (drop i changes) at.behind))
    ∙ sym (merged_over n segs (take i changes) (drop i changes) at.before)
    ∙ ap (λ xs. changes_merged xs ((n, segs) ∷ [])) (take-append-drop i changes)

one_in_order : (n : Needle) (segs : List Seg) → IsInOrder ((n, segs) ∷ [])
unfolding IsStrictlySortedBy
one_in_order n segs = (tt, tt)

-- a write keeps the order
pub merged_in_order : (held new : List Changed) (n : Needle) (segs : List Seg) → IsInOrder held → new ≡ changes_merged held ((n, segs) ∷ []) → IsInOrder new
merged_in_order held new n segs order is = subst IsInOrder (sym is) (order_merged held ((n, segs) ∷ []) order (one_in_order n segs))

-- what a look-up finds
pub found_at : (held slice now : List Changed) (n : Needle) (i : ℕ) (d : Changed) → IsInOrder held → slice ≡ held → now ≡ held → ChangeStandsAt slice n i → d ≡ get_or held i d →
    Some d.1 ≡ change_at now n
found_at held slice now n i d order lent seen at is =
    ap (λ (e : Changed). Some e.1) is
    ∙ at_place held n i d order (subst (λ xs. ChangeStandsAt xs n i) lent at)
    ∙ ap (λ xs. change_at xs n) (sym seen)

-- and what it finds of a needle that stands nowhere
pub missed_at : (held slice now : List Changed) (n : Needle) (i : ℕ) → slice ≡ held → now ≡ held → GoesAt slice n i → None ≡ change_at now n
missed_at held slice now n i lent seen at = at_gap held n i (subst (λ xs. GoesAt xs n i) lent at) ∙ ap (λ xs. change_at xs n) (sym seen)

-- what a write makes of the list
pub written_at : (held slice now : List Changed) (n : Needle) (i : ℕ) (d : Changed) (new segs : List Seg) → IsInOrder held → slice ≡ held → now ≡ held → ChangeStandsAt slice n i → d ≡ get_or held i d →
    new ≡ segs → set held i (d.0, new) ≡ changes_merged now ((n, segs) ∷ [])
written_at held slice now n i d new segs order lent seen at is same =
    let here = subst (λ xs. ChangeStandsAt xs n i) lent at in
    (λ j. set held i ((ap (λ (e : Changed). e.0) is ∙ here.is d) j, same j))
    ∙ set_place held n i d segs order here
    ∙ ap (λ xs. changes_merged xs ((n, segs) ∷ [])) (sym seen)

-- and an insertion
pub inserted_at : (held slice now new : List Changed) (n : Needle) (i : ℕ) (segs : List Seg) → slice ≡ held → now ≡ held → GoesAt slice n i → new ≡ insert held i (n, segs) → new ≡ changes_merged now ((n, segs) ∷ [])
inserted_at held slice now new n i segs lent seen at is =
    is ∙ insert_place held n i segs (subst (λ xs. GoesAt xs n i) lent at) ∙ ap (λ xs. changes_merged xs ((n, segs) ∷ [])) (sym seen)

same_by : (n m : Needle) (b c : Bool) → same_needle n m ≡ b → same_needle m n ≡ c → same_needle m n ≡ same_needle n m
same_by n m true c p q = same_needle-same m n (sym (same_needle-true n m p)) ∙ sym p
same_by n m false true p q = absurd (false≢true (sym p ∙ same_needle-same n m (sym (same_needle-true m n q))))
same_by n m false false p q = q ∙ sym p

put_if : (b : Bool) (segs : List Seg) (old : Option (List Seg)) → or_change (if b then Some segs else None) old ≡ (if b then Some segs else old)
put_if true segs old = refl
put_if false segs old = refl

-- what a write leaves of each needle
pub change_at-put : (changes : List Changed) (n m : Needle) (segs : List Seg) →
    change_at (changes_merged changes ((n, segs) ∷ [])) m ≡ (if same_needle n m then Some segs else change_at changes m)
change_at-put changes n m segs =
    change_at-merged changes ((n, segs) ∷ []) m (one_in_order n segs)
    ∙ put_if (same_needle m n) segs (change_at changes m)
    ∙ ap (λ b. if b then Some segs else change_at changes m) (same_by n m (same_needle n m) (same_needle m n) refl refl)
