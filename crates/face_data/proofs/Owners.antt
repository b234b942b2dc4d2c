-- Which needle's segments an entry needle stands in, for one block and for two.
use Rattle.std.proofs.Common.{◌≡◌, ℕ, ◌+◌, ◌<◌, Bool, true, false, List, [], ◌∷◌, ◌++◌, Some, refl, sym, ap, ◌∙◌, subst, arith, inl, inr, ◌⊎◌}
use Rattle.std.specs.Prelude.{if◌then◌else◌, unwrap_or}
use Rattle.std.specs.List.{Contains}
use Rattle.std.proofs.lemmas.List.Elements.{Contains-append_left, Contains-append_right, Contains-append_cases}
use Rattle.std.proofs.lemmas.List.Concat.{flat_map-append}
use Rattle.std.proofs.lemmas.List.Sums.{sum_by-append, sum_by-cons}
use Rattle.std.proofs.lemmas.Bool.{true≢false}
use Rattle.knit_base.specs.Needle.{same_needle, same_needle-true}
use Rattle.face_data.specs.Segments.{Changed, change_at, segments_on, entry_needles_in, entry_needles_of, new_in, new_of, names_through, new_through}
use Rattle.face_data.specs.Through.{through, changes_through}
use Rattle.face_data.proofs.Members.{Contains-none, Contains-head, Contains-tail, Contains-cons_cases}
use Rattle.face_data.proofs.ChangeLists.{segments_on-both}
use Rattle.knit_base.specs.declared.needle.Needle.{Needle}
use Rattle.face_data.specs.declared.face.Seg.{Seg}
use Rattle.face_data.specs.declared.face.Seg.TheVariants.{Entry, New}
use Rattle.face_data.specs.Sets.{IsDistinct, AreNeedlesWithin, IsApart, NestedOrApart}
use Rattle.face_data.specs.Composition.{changes_merged}
use Rattle.face_data.specs.Goodness.{IsInOrder, entries_on, OwnsOnce, NeedlesLieIn}
use Rattle.knit_base.proofs.Needles.{same_needle-same}

-- the entries of segments that are read through a block
pub entries_of-through : (a : List Changed) (lines : ℕ) (segs : List Seg) → entry_needles_of (through a lines segs) ≡ names_through a (entry_needles_of segs)
entries_of-through a lines [] = refl
entries_of-through a lines (Entry n ∷ segs) =
    flat_map-append entry_needles_in (segments_on a n) (through a lines segs) ∙ ap (λ r. entries_on a n ++ r) (entries_of-through a lines segs)
entries_of-through a lines (New o ∷ segs) = entries_of-through a lines segs

-- their new loops
pub new_of-through : (a : List Changed) (lines : ℕ) (segs : List Seg) → new_of (through a lines segs) ≡ new_of segs + new_through a (entry_needles_of segs)
new_of-through a lines [] = refl
new_of-through a lines (Entry n ∷ segs) =
    omega (
      arith,
      new_of-through a lines segs,
      sum_by-append new_in (segments_on a n) (through a lines segs),
      sum_by-cons new_in (Entry n) segs,
      sum_by-cons (λ m. new_of (segments_on a m)) n (entry_needles_of segs),
    )
new_of-through a lines (New o ∷ segs) =
    omega (arith, new_of-through a lines segs, sum_by-cons new_in (New (lines + o)) (through a lines segs), sum_by-cons new_in (New o) segs)

-- the entries that a needle holds after both blocks
pub entries_on-both : (a b : List Changed) (lines : ℕ) (m : Needle) → IsInOrder b → entries_on (changes_merged a (changes_through a lines b)) m ≡ names_through a (entries_on b m)
entries_on-both a b lines m order = ap entry_needles_of (segments_on-both a b lines m order) ∙ entries_of-through a lines (segments_on b m)

-- members of what a list of needles holds
pub in_through : (a : List Changed) (xs : List Needle) (m n : Needle) → Contains xs m → Contains (entries_on a m) n → Contains (names_through a xs) n
in_through a [] m n h k = absurd (Contains-none m h)
in_through a (x ∷ xs) m n h k = elim (Contains-cons_cases x xs m h) [
  | inl same ↦ Contains-append_left (entries_on a x) (names_through a xs) n (subst (λ w. Contains (entries_on a w) n) (sym same) k)
  | inr later ↦ Contains-append_right (entries_on a x) (names_through a xs) n (in_through a xs m n later k)
]

-- an entry stands on one of the needles
pub from_through : (a : List Changed) (xs : List Needle) (n : Needle) → Contains (names_through a xs) n → (m : Needle) × Contains xs m × Contains (entries_on a m) n
from_through a [] n h = absurd (Contains-none n h)
from_through a (x ∷ xs) n h = elim (Contains-append_cases (entries_on a x) (names_through a xs) n h) [
  | inl here ↦ (x, Contains-head x xs, here)
  | inr later ↦ (let w = from_through a xs n later in (w.0, Contains-tail x xs w.0 w.1, w.2))
]

-- two distinct lists that are apart
pub distinct_append : (xs ys : List Needle) → IsDistinct xs → IsDistinct ys → IsApart xs ys → IsDistinct (xs ++ ys)
distinct_append [] ys d e apart = e
distinct_append (x ∷ xs) ys d e apart = (
  (λ h. elim (Contains-append_cases xs ys x h) [ inl here ↦ d.0 here | inr there ↦ apart x (Contains-head x xs) there ]),
  distinct_append xs ys d.1 e (λ n h. apart n (Contains-tail x xs n h)),
)

-- distinct needles hold distinct entries
pub distinct_through : (a : List Changed) (xs : List Needle) → OwnsOnce a → IsDistinct xs → IsDistinct (names_through a xs)
distinct_through a [] o d = tt
distinct_through a (x ∷ xs) o d =
    distinct_append (entries_on a x) (names_through a xs) (o.distinct x) (distinct_through a xs o d.1)
    (λ n h k. let w = from_through a xs n k in d.0 (subst (Contains xs) (sym (o.owner x w.0 n h w.2)) w.1))

-- what one block keeps, two keep
pub OwnsOnce-both : (a b : List Changed) (lines : ℕ) → IsInOrder b → OwnsOnce a → OwnsOnce b → OwnsOnce (changes_merged a (changes_through a lines b))
OwnsOnce-both a b lines order oa ob = record {
  distinct = λ m. subst IsDistinct (sym (entries_on-both a b lines m order)) (distinct_through a (entries_on b m) oa (ob.distinct m));
  owner = λ m other n h k.
      let v = from_through a (entries_on b m) n (subst (λ xs. Contains xs n) (entries_on-both a b lines m order) h) in
      let w = from_through a (entries_on b other) n (subst (λ xs. Contains xs n) (entries_on-both a b lines other order) k) in
      ob.owner m other v.0 v.1 (subst (Contains (entries_on b other)) (sym (oa.owner v.0 w.0 n v.2 w.2)) w.1);
}

-- nested lists hold nested entries, lists that are apart hold entries that are apart
pub within_through : (a : List Changed) (xs ys : List Needle) → AreNeedlesWithin xs ys → AreNeedlesWithin (names_through a xs) (names_through a ys)
within_through a xs ys w n h = let v = from_through a xs n h in in_through a ys v.0 n (w v.0 v.1) v.2

-- lists that are apart hold entries that are apart
pub apart_through : (a : List Changed) (xs ys : List Needle) → OwnsOnce a → IsApart xs ys → IsApart (names_through a xs) (names_through a ys)
apart_through a xs ys o apart n h k =
    let v = from_through a xs n h in
    let w = from_through a ys n k in
    apart v.0 v.1 (subst (Contains ys) (sym (o.owner v.0 w.0 n v.2 w.2)) w.1)

-- two conditions of the second block
pub nested_through : (a : List Changed) (xs ys : List Needle) → OwnsOnce a → NestedOrApart xs ys → NestedOrApart (names_through a xs) (names_through a ys)
nested_through a xs ys o (inl w) = inl (within_through a xs ys w)
nested_through a xs ys o (inr (inl w)) = inr (inl (within_through a ys xs w))
nested_through a xs ys o (inr (inr p)) = inr (inr (apart_through a xs ys o p))

member_cases_if : (x : Needle) (xs : List Needle) (n : Needle) (b : Bool) → same_needle x n ≡ b → (Contains xs n ⊎ (Contains xs n → ⊥)) →
    Contains (x ∷ xs) n ⊎ (Contains (x ∷ xs) n → ⊥)
member_cases_if x xs n true e rest = inl (subst (Contains (x ∷ xs)) (same_needle-true x n e) (Contains-head x xs))
member_cases_if x xs n false e (inl h) = inl (Contains-tail x xs n h)
member_cases_if x xs n false e (inr not_later) = inr (λ h. elim (Contains-cons_cases x xs n h) [
  | inl same ↦ absurd (true≢false (sym (same_needle-same x n same) ∙ e))
  | inr later ↦ not_later later
])

-- a needle is in a list or is not
pub member_cases : (xs : List Needle) (n : Needle) → Contains xs n ⊎ (Contains xs n → ⊥)
member_cases [] n = inr (Contains-none n)
member_cases (x ∷ xs) n = member_cases_if x xs n (same_needle x n) refl (member_cases xs n)

nested_at : (a : List Changed) (cs ds : List Needle) (m : Needle) → OwnsOnce a → AreNeedlesWithin cs (entries_on a m) → (Contains ds m ⊎ (Contains ds m → ⊥)) →
    NestedOrApart cs (names_through a ds)
nested_at a cs ds m o w (inl h) = inl (λ n k. in_through a ds m n h (w n k))
nested_at a cs ds m o w (inr none) = inr (inr (λ n k l.
    let v = from_through a ds n l in
    none (subst (Contains ds) (sym (o.owner m v.0 n (w n k) v.2)) v.1)))

-- a condition of the first block, and one of the second read_seg through the first
pub nested_or_apart_through : (a : List Changed) (cs ds : List Needle) → OwnsOnce a → NeedlesLieIn a cs → NestedOrApart cs (names_through a ds)
nested_or_apart_through a cs ds o (inl lies) = nested_at a cs ds lies.0 o lies.1 (member_cases ds lies.0)
nested_or_apart_through a cs ds o (inr apart) = inr (inr (λ n k l. let v = from_through a ds n l in apart v.0 n k v.2))

-- the one item of a list
pub only_itself : (x m : Needle) → Contains (x ∷ []) m → x ≡ m
only_itself x m h = elim (Contains-cons_cases x [] m h) [ inl same ↦ same | inr none ↦ absurd (Contains-none m none) ]

-- who holds the entry of m at the end: somebody, or nobody
search_keys : (b : List Changed) (m : Needle) (keys : List Changed) →
    ((x : Needle) × Contains (entries_on b x) m) ⊎ ((c : Changed) → Contains keys c → Contains (entries_on b c.0) m → ⊥)
search_keys b m [] = inr (λ c h k. let w : h.0 < 0 = h.1 in absurd (omega arith))
search_keys b m (c ∷ keys) = go (member_cases (entries_on b c.0) m) (search_keys b m keys)
  where
    go : Contains (entries_on b c.0) m ⊎ (Contains (entries_on b c.0) m → ⊥) →
        ((x : Needle) × Contains (entries_on b x) m) ⊎ ((d : Changed) → Contains keys d → Contains (entries_on b d.0) m → ⊥) →
        ((x : Needle) × Contains (entries_on b x) m) ⊎ ((d : Changed) → Contains (c ∷ keys) d → Contains (entries_on b d.0) m → ⊥)
    go (inl here) rest = inl (c.0, here)
    go (inr not_here) (inl found) = inl found
    go (inr not_here) (inr none) = inr (λ d h k. elim (Contains-cons_cases c keys d h) [
      | inl same ↦ not_here (subst (λ (w : Changed). Contains (entries_on b w.0) m) (sym same) k)
      | inr later ↦ none d later k
    ])

-- what a needle holds is what a change gives it, or its own entry
pub changed_or_own : (b : List Changed) (x : Needle) →
    ((c : Changed) × Contains b c × (c.0 ≡ x) × (segments_on b x ≡ c.1)) ⊎ (segments_on b x ≡ Entry x ∷ [])
changed_or_own [] x = inr refl
changed_or_own (c ∷ cs) x = go (same_needle x c.0) refl (changed_or_own cs x)
  where
    go : (t : Bool) → same_needle x c.0 ≡ t → ((d : Changed) × Contains cs d × (d.0 ≡ x) × (segments_on cs x ≡ d.1)) ⊎ (segments_on cs x ≡ Entry x ∷ []) →
        ((d : Changed) × Contains (c ∷ cs) d × (d.0 ≡ x) × (unwrap_or (if t then Some c.1 else change_at cs x) (Entry x ∷ []) ≡ d.1))
        ⊎ (unwrap_or (if t then Some c.1 else change_at cs x) (Entry x ∷ []) ≡ Entry x ∷ [])
    go true e rest = inl (c, Contains-head c cs, sym (same_needle-true x c.0 e), refl)
    go false e (inl found) = inl (found.0, Contains-tail c cs found.0 found.1, found.2, found.3)
    go false e (inr own) = inr own

-- some needle holds the entry at the end, or none does
pub holder_cases : (b : List Changed) (m : Needle) → ((x : Needle) × Contains (entries_on b x) m) ⊎ ((x : Needle) → Contains (entries_on b x) m → ⊥)
holder_cases b m = go (search_keys b m b) (member_cases (entries_on b m) m)
  where
    go : ((x : Needle) × Contains (entries_on b x) m) ⊎ ((c : Changed) → Contains b c → Contains (entries_on b c.0) m → ⊥) →
        Contains (entries_on b m) m ⊎ (Contains (entries_on b m) m → ⊥) →
        ((x : Needle) × Contains (entries_on b x) m) ⊎ ((x : Needle) → Contains (entries_on b x) m → ⊥)
    go (inl found) own = inl found
    go (inr none) (inl own) = inl (m, own)
    go (inr none) (inr not_own) = inr (λ x h. elim (changed_or_own b x) [
      | inl c ↦ none c.0 c.1 (subst (λ w. Contains (entries_on b w) m) (sym c.2) h)
      | inr own ↦ not_own (subst (λ w. Contains (entries_on b w) m) (only_itself x m (subst (λ segs. Contains (entry_needles_of segs) m) own h)) h)
    ])

-- a condition of the first block at the end of both
lies_at : (a b : List Changed) (xs : List Needle) (m : Needle) → OwnsOnce a → AreNeedlesWithin xs (entries_on a m) →
    ((x : Needle) × Contains (entries_on b x) m) ⊎ ((x : Needle) → Contains (entries_on b x) m → ⊥) →
    ((x : Needle) × AreNeedlesWithin xs (names_through a (entries_on b x))) ⊎ ((x : Needle) → IsApart xs (names_through a (entries_on b x)))
lies_at a b xs m o w (inl found) = inl (found.0, λ n k. in_through a (entries_on b found.0) m n found.1 (w n k))
lies_at a b xs m o w (inr none) = inr (λ x n k l.
    let v = from_through a (entries_on b x) n l in
    none x (subst (Contains (entries_on b x)) (sym (o.owner m v.0 n (w n k) v.2)) v.1))

-- where a condition of the first block lies after both
pub first_lies : (a b : List Changed) (xs : List Needle) → OwnsOnce a → NeedlesLieIn a xs →
    ((x : Needle) × AreNeedlesWithin xs (names_through a (entries_on b x))) ⊎ ((x : Needle) → IsApart xs (names_through a (entries_on b x)))
first_lies a b xs o (inl lies) = lies_at a b xs lies.0 o lies.1 (holder_cases b lies.0)
first_lies a b xs o (inr apart) = inr (λ x n k l. let v = from_through a (entries_on b x) n l in apart v.0 n k v.2)

-- a condition of the second block, read_seg through the first, at the end of both
pub second_lies : (a b : List Changed) (xs : List Needle) → OwnsOnce a → NeedlesLieIn b xs →
    ((x : Needle) × AreNeedlesWithin (names_through a xs) (names_through a (entries_on b x))) ⊎ ((x : Needle) → IsApart (names_through a xs) (names_through a (entries_on b x)))
second_lies a b xs o (inl lies) = inl (lies.0, within_through a xs (entries_on b lies.0) lies.1)
second_lies a b xs o (inr apart) = inr (λ x. apart_through a xs (entries_on b x) o (apart x))

-- where a condition lies in the merged changes
pub LiesIn-both : (a b : List Changed) (lines : ℕ) (xs : List Needle) → IsInOrder b →
    ((x : Needle) × AreNeedlesWithin xs (names_through a (entries_on b x))) ⊎ ((x : Needle) → IsApart xs (names_through a (entries_on b x))) →
    NeedlesLieIn (changes_merged a (changes_through a lines b)) xs
LiesIn-both a b lines xs order (inl lies) = inl (lies.0, subst (AreNeedlesWithin xs) (sym (entries_on-both a b lines lies.0 order)) lies.1)
LiesIn-both a b lines xs order (inr apart) = inr (λ x. subst (IsApart xs) (sym (entries_on-both a b lines x order)) (apart x))
