-- How much room the composition of two faces takes.
use Rattle.std.proofs.Common.{suc, Bool, true, false, ◌^◌, ◌≡◌, ℕ, ◌+◌, ◌*◌, ◌≤◌, min, ◌⊎◌, inl, inr, List, [], ◌∷◌, ◌++◌, Option, Some, None, length, map, refl, sym, ap, ◌∙◌, subst, arith, length-append}
use Rattle.std.specs.Prelude.{nat_lt, if◌then◌else◌}
use Rattle.std.proofs.Math.Path.{ap₂}
use Rattle.std.specs.List.{Contains, flat_map, sum_by}
use Rattle.std.specs.declared.cmp.Ordering.{Ordering}
use Rattle.std.specs.declared.cmp.Ordering.TheVariants.{Less, Equal, Greater}
use Rattle.std.proofs.Math.Nat.{mul-le-mul}
use Rattle.std.proofs.lemmas.Bool.{ltb-true, ltb-false}
use Rattle.std.proofs.lemmas.Grind.{flat_map-append}
use Rattle.std.proofs.lemmas.List.{length-map}
use Rattle.std.proofs.lemmas.List.Elements.{Contains-append_left, Contains-append_right}
use Rattle.std.proofs.lemmas.List.Sums.{sum_by-append, sum_by-cons, sum_by-le}
use Rattle.knit_base.specs.declared.needle.Needle.{Needle}
use Rattle.knit_base.specs.Needle.{needle_cmp}
use Rattle.face_data.specs.declared.face.Change.{Change}
use Rattle.face_data.specs.declared.face.FaceView.{FaceView}
use Rattle.face_data.specs.declared.face.Seg.{Seg}
use Rattle.face_data.specs.declared.face.Seg.TheVariants.{Entry, New}
use Rattle.face_data.specs.Composition.{by_order, changes_merged, merged_from}
use Rattle.face_data.specs.Conditions.{part_of}
use Rattle.face_data.specs.Goodness.{IsInOrder, OwnsOnce, entries_on, size_needles_in}
use Rattle.face_data.specs.Segments.{Changed, change_at, segments_on, entry_needles_in, entry_needles_of, names_through, new_in, new_of, new_through, segs_or_own}
use Rattle.face_data.specs.Sets.{IsDistinct}
use Rattle.face_data.specs.Summaries.{AskedCondition}
use Rattle.face_data.specs.Through.{change_through, changes_through, through}
use Rattle.face_data.specs.View.{IsPacked, asked_of_check, changed_of}
use Rattle.face_data.proofs.Goodness.{members_merged, members_through}
use Rattle.face_data.proofs.Items.{all_entries, change_found, segments_found, in_needles, length-segs, length_within, needle_in, needles_distinct, needles_changed}
use Rattle.face_data.proofs.Members.{Contains-none, Contains-head, Contains-tail, Contains-cons_cases, without_first_needle, dropped_keeps, sum_dropped}
use Rattle.face_data.proofs.ChangeLists.{segments_on-both, order_merged, order_through}
use Rattle.face_data.proofs.Owners.{changed_or_own, distinct_through, from_through, member_cases, only_itself}
use Rattle.face_data.proofs.Parts.{change_absent}
use Rattle.summary_compose.specs.Changes.{changes_in, segs_in}
use Rattle.summary_compose.specs.Composing.{FindsRoom, IsNoGreater}
use Rattle.summary_compose.specs.Known.{AreGoodFaces, checks_in, names_count, names_read_count}
use Rattle.summary_compose.specs.Rooms.{CanBeMade, capped_room, names_after, room_after, room_of_face, room_of_both_faces, widest_of}
use Rattle.summary_compose.specs.declared.room.Room.{Room}
use Rattle.summary_compose.proofs.Checks.{named_size}
use Rattle.summary_compose.proofs.Parts.{packed_size}
use Rattle.summary_compose.proofs.Widths.{names_read_wide, widest_some}
use Rattle.face_data.proofs.KnownAnswers.{AskFits-distinct}

-- an entry of a change is one of all
pub in_all : (cs : List Changed) (c : Changed) (n : Needle) → Contains cs c → Contains (entry_needles_of c.1) n → Contains (all_entries cs) n
in_all [] c n h k = absurd (Contains-none c h)
in_all (x ∷ cs) c n h k = elim (Contains-cons_cases x cs c h) [
  | inl same ↦ Contains-append_left (entry_needles_of x.1) (all_entries cs) n (subst (λ (w : Changed). Contains (entry_needles_of w.1) n) (sym same) k)
  | inr later ↦ Contains-append_right (entry_needles_of x.1) (all_entries cs) n (in_all cs c n later k)
]

-- needles that are read through changes are the needles themselves and the changes' entries, at most
read_within : (ch : List Changed) (xs : List Needle) → OwnsOnce ch → IsDistinct xs → length (names_through ch xs) ≤ length xs + length (all_entries ch)
read_within ch xs o d =
    omega (
      arith,
      length-append xs (all_entries ch),
      length_within (names_through ch xs) (xs ++ all_entries ch) (distinct_through ch xs o d) (λ n h.
          let v = from_through ch xs n h in
          elim (changed_or_own ch v.0) [
            | inl c ↦ Contains-append_right xs (all_entries ch) n (in_all ch c.0 n c.1 (subst (λ segs. Contains (entry_needles_of segs) n) c.3 v.2))
            | inr own ↦ Contains-append_left xs (all_entries ch) n (subst (Contains xs) (only_itself v.0 n (subst (λ segs. Contains (entry_needles_of segs) n) own v.2)) v.1)
          ]),
    )

-- how many needles the conditions name when they are read through a block
pub names_read_bound : (ch : List Changed) (cs : List AskedCondition) → OwnsOnce ch → ((c : AskedCondition) → Contains cs c → IsDistinct (size_needles_in c.ask)) →
    names_read_count ch cs ≤ names_count cs + length cs * length (all_entries ch)
names_read_bound ch [] o d = omega arith
names_read_bound ch (c ∷ cs) o d =
    omega (
      arith,
      read_within ch (size_needles_in c.ask) o (d c (Contains-head c cs)),
      names_read_bound ch cs o (λ q there. d q (Contains-tail c cs q there)),
      sum_by-cons (λ (c : AskedCondition). length (size_needles_in c.ask)) c cs,
      sum_by-cons (λ (c : AskedCondition). length (names_through ch (size_needles_in c.ask))) c cs,
    )

-- the entries of packed changes are those of the list of segments
pub all_entries_flat : (segs : List Seg) (cs : List Change) → entry_needles_of (flat_map (λ (c : Change). part_of segs c.part) cs) ≡ all_entries (map (changed_of segs) cs)
all_entries_flat segs [] = refl
all_entries_flat segs (c ∷ cs) =
    flat_map-append entry_needles_in (part_of segs c.part) (flat_map (λ (c : Change). part_of segs c.part) cs)
    ∙ ap (λ r. entry_needles_of (part_of segs c.part) ++ r) (all_entries_flat segs cs)

by_order_length : (o : Ordering) (xs ys zs : List Changed) (n : ℕ) → length xs ≤ n → length ys ≤ n → length zs ≤ n → length (by_order o xs ys zs) ≤ n
by_order_length Less xs ys zs n h k l = h
by_order_length Equal xs ys zs n h k l = k
by_order_length Greater xs ys zs n h k l = l

merged_from_length : (a : Changed) (rest : List Changed → List Changed) (n : ℕ) → ((bs : List Changed) → length (rest bs) ≤ n + length bs) → (bs : List Changed) →
    length (merged_from a rest bs) ≤ suc n + length bs
merged_from_length a rest n h [] = omega (arith, h [])
merged_from_length a rest n h (b ∷ bs) =
    by_order_length (needle_cmp a.0 b.0) (a ∷ rest (b ∷ bs)) (b ∷ rest bs) (b ∷ merged_from a rest bs) (suc n + length (b ∷ bs)) (omega (arith, h (b ∷ bs))) (omega (arith, h bs)) (omega (arith, merged_from_length a rest n h bs))

-- how many needles both blocks change
pub merged_length : (others bs : List Changed) → length (changes_merged others bs) ≤ length others + length bs
merged_length [] bs = omega arith
merged_length (a ∷ others) bs = merged_from_length a (changes_merged others) (length others) (merged_length others) bs

-- a sum over distinct needles is at most that over a list that has each of them where the term isn't 0
sum_support : (f : Needle → ℕ) (xs ys : List Needle) → IsDistinct xs → ((n : Needle) → Contains xs n → Contains ys n ⊎ (f n ≡ 0)) → sum_by f xs ≤ sum_by f ys
sum_support f [] ys d w = omega arith
sum_support f (x ∷ xs) ys d w = elim (w x (Contains-head x xs)) [
  | inl there ↦ omega (
    arith,
    sum_support f xs (without_first_needle x ys) d.1 (λ q h. elim (w q (Contains-tail x xs q h)) [
      | inl here ↦ inl (dropped_keeps x q ys (λ e. d.0 (subst (Contains xs) (sym e) h)) here)
      | inr none ↦ inr none
    ]),
    sum_dropped f x ys there,
    sum_by-cons f x xs,
  )
  | inr none ↦ omega (arith, sum_support f xs ys d.1 (λ q h. w q (Contains-tail x xs q h)), none, sum_by-cons f x xs)
]

-- the segments that changes give a needle, and the entry of one that they don't name
abbrev given_size : Option (List Seg) → ℕ
given_size None = 0
given_size (Some segs) = length segs

abbrev own_size : Option (List Seg) → ℕ
own_size None = 1
own_size (Some segs) = 0

both_sizes : (o : Option (List Seg)) (n : Needle) → length (segs_or_own o n) ≡ given_size o + own_size o
both_sizes None n = refl
both_sizes (Some segs) n = omega arith

sum_of_both : (ch : List Changed) (xs : List Needle) →
    sum_by (λ n. length (segments_on ch n)) xs ≡ sum_by (λ n. given_size (change_at ch n)) xs + sum_by (λ n. own_size (change_at ch n)) xs
sum_of_both ch [] = refl
sum_of_both ch (x ∷ xs) =
    omega (
      arith,
      both_sizes (change_at ch x) x,
      sum_of_both ch xs,
      sum_by-cons (λ n. length (segments_on ch n)) x xs,
      sum_by-cons (λ n. given_size (change_at ch n)) x xs,
      sum_by-cons (λ n. own_size (change_at ch n)) x xs,
    )

-- the needle is named, or nothing is given to it
pub named_or_none : (cs : List Changed) (n : Needle) → Contains (needles_changed cs) n ⊎ (change_at cs n ≡ None)
named_or_none cs n = elim (member_cases (needles_changed cs) n) [
  | inl there ↦ inl there
  | inr absent ↦ inr (change_absent cs n (λ c there same. absent (subst (Contains (needles_changed cs)) same (needle_in cs c there))))
]

given_sum : (whole cs : List Changed) → IsInOrder whole → ((c : Changed) → Contains cs c → Contains whole c) → sum_by (λ n. given_size (change_at whole n)) (needles_changed cs) ≡ segs_in cs
given_sum whole [] order sub = refl
given_sum whole (x ∷ cs) order sub =
    omega (
      arith,
      ap given_size (change_found whole x order (sub x (Contains-head x cs))),
      given_sum whole cs order (λ c h. sub c (Contains-tail x cs c h)),
      sum_by-cons (λ n. given_size (change_at whole n)) x.0 (needles_changed cs),
      sum_by-cons (λ (c : Changed). length c.1) x cs,
    )

segments_sum : (whole cs : List Changed) → IsInOrder whole → ((c : Changed) → Contains cs c → Contains whole c) → segs_in cs ≡ sum_by (λ n. length (segments_on whole n)) (needles_changed cs)
segments_sum whole [] order sub = refl
segments_sum whole (x ∷ cs) order sub =
    omega (
      arith,
      ap length (segments_found whole x order (sub x (Contains-head x cs))),
      segments_sum whole cs order (λ c h. sub c (Contains-tail x cs c h)),
      sum_by-cons (λ n. length (segments_on whole n)) x.0 (needles_changed cs),
      sum_by-cons (λ (c : Changed). length c.1) x cs,
    )

new_sum : (whole cs : List Changed) → IsInOrder whole → ((c : Changed) → Contains cs c → Contains whole c) →
    segs_in cs ≡ length (all_entries cs) + sum_by (λ n. new_of (segments_on whole n)) (needles_changed cs)
new_sum whole [] order sub = refl
new_sum whole (x ∷ cs) order sub =
    omega (
      arith,
      ap new_of (segments_found whole x order (sub x (Contains-head x cs))),
      length-segs x.1,
      length-append (entry_needles_of x.1) (all_entries cs),
      new_sum whole cs order (λ c h. sub c (Contains-tail x cs c h)),
      sum_by-cons (λ n. new_of (segments_on whole n)) x.0 (needles_changed cs),
      sum_by-cons (λ (c : Changed). length c.1) x cs,
    )

through_length : (ch : List Changed) (lines : ℕ) (segs : List Seg) → length (through ch lines segs) ≡ sum_by (λ n. length (segments_on ch n)) (entry_needles_of segs) + new_of segs
through_length ch lines [] = refl
through_length ch lines (Entry n ∷ segs) =
    omega (
      arith,
      length-append (segments_on ch n) (through ch lines segs),
      through_length ch lines segs,
      sum_by-cons (λ n. length (segments_on ch n)) n (entry_needles_of segs),
      sum_by-cons new_in (Entry n) segs,
    )
through_length ch lines (New o ∷ segs) = omega (arith, through_length ch lines segs, sum_by-cons new_in (New o) segs)

both_sum : (a b : List Changed) (lines : ℕ) (ns : List Needle) → IsInOrder b →
    sum_by (λ n. length (segments_on (changes_merged a (changes_through a lines b)) n)) ns ≡ sum_by (λ n. length (segments_on a n)) (names_through b ns) + new_through b ns
both_sum a b lines [] order = refl
both_sum a b lines (n ∷ ns) order =
    omega (
      arith,
      ap length (segments_on-both a b lines n order),
      through_length a lines (segments_on b n),
      both_sum a b lines ns order,
      sum_by-append (λ n. length (segments_on a n)) (entries_on b n) (names_through b ns),
      sum_by-cons (λ n. length (segments_on (changes_merged a (changes_through a lines b)) n)) n ns,
      sum_by-cons (λ n. new_of (segments_on b n)) n ns,
    )

-- a needle that no change names
pub own_none : (cs : List Changed) (n : Needle) → change_at cs n ≡ None → segments_on cs n ≡ Entry n ∷ []
own_none cs n e = ap (λ o. segs_or_own o n) e

own_small : (o : Option (List Seg)) → own_size o ≤ 1
own_small None = omega arith
own_small (Some segs) = omega arith

-- a needle that both blocks change together is changed by one of them
pub from_both : (a b : List Changed) (lines : ℕ) (n : Needle) → Contains (needles_changed (changes_merged a (changes_through a lines b))) n → Contains (needles_changed a) n ⊎ Contains (needles_changed b) n
from_both a b lines n h =
    let c = in_needles (changes_merged a (changes_through a lines b)) n h in
    subst (λ m. Contains (needles_changed a) m ⊎ Contains (needles_changed b) m) c.2
    (members_merged (λ (c : Changed). Contains (needles_changed a) c.0 ⊎ Contains (needles_changed b) c.0) a (changes_through a lines b)
    (λ d there. inl (needle_in a d there))
    (members_through (λ (c : Changed). Contains (needles_changed a) c.0 ⊎ Contains (needles_changed b) c.0) a lines b (λ d there. inr (needle_in b d there))) c.0 c.1)

-- an entry that a merged needle holds is one of the second block's, or the first block changes it
entry_or_changed : (a b : List Changed) (lines : ℕ) (m : Needle) → IsInOrder a → IsInOrder b → Contains (names_through b (needles_changed (changes_merged a (changes_through a lines b)))) m →
    Contains (all_entries b) m ⊎ (own_size (change_at a m) ≡ 0)
entry_or_changed a b lines m order_a order_b h =
    let v = from_through b (needles_changed (changes_merged a (changes_through a lines b))) m h in
    elim (named_or_none b v.0) [
      | inl there ↦ (let c = in_needles b v.0 there in
          let found : segments_on b v.0 ≡ c.0.1 = ap (segments_on b) (sym c.2) ∙ segments_found b c.0 order_b c.1 in
          inl (in_all b c.0 m c.1 (subst (λ segs. Contains (entry_needles_of segs) m) found v.2)))
      | inr none ↦ (let same = only_itself v.0 m (subst (λ segs. Contains (entry_needles_of segs) m) (own_none b v.0 none) v.2) in
          elim (from_both a b lines v.0 v.1) [
            | inl in_a ↦ (let c = in_needles a v.0 in_a in
                inr (ap (λ n. own_size (change_at a n)) (sym same ∙ sym c.2) ∙ ap own_size (change_found a c.0 order_a c.1)))
            | inr in_b ↦ (let c = in_needles b v.0 in_b in
                let found = change_found b c.0 order_b c.1 in
                let absent = ap (change_at b) c.2 ∙ none in
                absurd (some_not_none c.0.1 (sym found ∙ absent)))
          ])
    ]
  where
    some_not_none : (segs : List Seg) → Some segs ≡ None → ⊥
    some_not_none segs e = cc

-- The merged changes have at most the segments of both.
pub merged_segs : (a b : List Changed) (lines : ℕ) → IsInOrder a → IsInOrder b → OwnsOnce b → segs_in (changes_merged a (changes_through a lines b)) ≤ segs_in a + segs_in b
merged_segs a b lines order_a order_b o =
    let m = changes_merged a (changes_through a lines b) in
    let order = order_merged a (changes_through a lines b) order_a (order_through a lines b order_b) in
    let ns = needles_changed m in
    let distinct = needles_distinct m order in
    let xs = names_through b ns in
    let once = distinct_through b ns o distinct in
    let given : sum_by (λ n. given_size (change_at a n)) xs ≤ sum_by (λ n. given_size (change_at a n)) (needles_changed a)
    = sum_support (λ n. given_size (change_at a n)) xs (needles_changed a) once (λ n h. elim (named_or_none a n) [ inl there ↦ inl there | inr none ↦ inr (ap given_size none) ]) in
    let own : sum_by (λ n. own_size (change_at a n)) xs ≤ sum_by (λ n. own_size (change_at a n)) (all_entries b)
    = sum_support (λ n. own_size (change_at a n)) xs (all_entries b) once (λ n h. entry_or_changed a b lines n order_a order_b h) in
    let ones : sum_by (λ n. own_size (change_at a n)) (all_entries b) ≤ length (all_entries b) * 1
    = sum_by-le (λ n. own_size (change_at a n)) 1 (all_entries b) (λ k d below. own_small (change_at a _)) in
    let new : new_through b ns ≤ new_through b (needles_changed b)
    = sum_support (λ n. new_of (segments_on b n)) ns (needles_changed b) distinct (λ n h. elim (named_or_none b n) [ inl there ↦ inl there | inr none ↦ inr (ap new_of (own_none b n none)) ]) in
    omega (
      arith,
      segments_sum m m order (λ c h. h),
      both_sum a b lines ns order_b,
      sum_of_both a xs,
      given,
      given_sum a a order_a (λ c h. h),
      own,
      ones,
      new,
      new_sum b b order_b (λ c h. h),
    )

capped_at : (n : ℕ) (b : Bool) → nat_lt (2 ^ 62) n ≡ b → (if b then 2 ^ 62 + 1 else n) ≡ min n (2 ^ 62 + 1)
capped_at n true e = omega (arith, ltb-true (2 ^ 62) n e)
capped_at n false e = omega (arith, ltb-false (2 ^ 62) n e)

-- a capped number is the lesser of it and one past all room
pub capped_is_min : (n : ℕ) → capped_room n ≡ min n (2 ^ 62 + 1)
capped_is_min n = capped_at n (nat_lt (2 ^ 62) n) refl

-- a number that isn't past all room
capped_if : (n : ℕ) (b : Bool) → nat_lt (2 ^ 62) n ≡ b → (if b then 2 ^ 62 + 1 else n) ≤ 2 ^ 62 → n ≡ (if b then 2 ^ 62 + 1 else n)
capped_if n true e h = absurd (omega (arith, h))
capped_if n false e h = refl

-- a number that is within a room, capped, is within it
pub capped_is : (n most : ℕ) → capped_room n ≤ most → most ≤ 2 ^ 62 → n ≤ most
capped_is n most h small =
    let is = capped_if n (nat_lt (2 ^ 62) n) refl (omega (arith, h, small)) in
    omega (arith, is, h)

-- what the needles of conditions are read to is within both bounds, where these aren't past all room
names_there : (read each own more : ℕ) → read ≤ each → read ≤ own + more → min (capped_room each) (capped_room (own + capped_room more)) ≤ 2 ^ 62 → read ≤ min (capped_room each) (capped_room (own + capped_room more))
names_there read each own more h k small =
    omega (arith, h, k, small, capped_is_min each, capped_is_min more, capped_is_min (own + capped_room more))

-- Room for both faces by their lists is room for their composition.
pub finds_room : (a b : FaceView) → AreGoodFaces a b → IsPacked a → IsPacked b → (room : Room) → CanBeMade room → IsNoGreater (room_of_both_faces a b) room → FindsRoom a b room
finds_room a b g pa pb room made h =
    let ca = changes_in a in
    let cb = changes_in b in
    let na = named_size a.names.now a.checks.now (record { fit = pa.checks_fit; whole = pa.names }) in
    let nb = named_size b.names.now b.checks.now (record { fit = pb.checks_fit; whole = pb.names }) in
    let sa = packed_size a.segs.now a.changes.now (record { fit = pa.changes_fit; whole = pa.segs }) in
    let sb = packed_size b.segs.now b.changes.now (record { fit = pb.changes_fit; whole = pb.segs }) in
    let lines_a = length-map a.changes.now (changed_of a.segs.now) in
    let lines_b = length-map b.changes.now (changed_of b.segs.now) in
    let lines_t = length-map cb (change_through ca a.lines) in
    let entries : length (all_entries ca) ≡ length (entry_needles_of a.segs.now)
    = ap length (sym (all_entries_flat a.segs.now a.changes.now) ∙ ap entry_needles_of pa.segs) in
    let asked : length (checks_in b) * length (all_entries ca) ≡ length b.checks.now * length (entry_needles_of a.segs.now)
    = ap₂ (λ (x y : ℕ). x * y) (length-map b.checks.now (asked_of_check b.names.now)) entries in
    let read = names_read_bound ca (checks_in b) g.first.fair.owns (λ c there. AskFits-distinct g.carriers g.limit g.second_known c.ask (g.second.fair.asks_fit c there)) in
    let wide_some : 1 * 1 ≤ widest_of ca * widest_of cb = mul-le-mul (widest_some ca) (widest_some cb) in
    let wide : names_read_count ca (checks_in b) ≤ length b.names.now * widest_of ca
    = subst (λ n. names_read_count ca (checks_in b) ≤ n * widest_of ca) (sym nb) (names_read_wide ca (checks_in b)) in
    let names = capped_is (length a.names.now + names_after (room_of_face a) (room_of_face b)) room.names h.names made.names in
    let through = names_there (names_read_count ca (checks_in b)) (length b.names.now * widest_of ca) (length b.names.now) (length b.checks.now * length (entry_needles_of a.segs.now)) wide (omega (arith, read, asked, nb)) (omega (arith, names, made.names)) in
    record {
      checks = capped_is (length a.checks.now + length b.checks.now) room.checks h.checks made.checks;
      names = omega (arith, na, names, through);
      changes = omega (arith, merged_length ca (changes_through ca a.lines cb), lines_a, lines_b, lines_t, capped_is (length a.changes.now + length b.changes.now) room.changes h.changes made.changes);
      segs = omega (arith, merged_segs ca cb a.lines g.first.fair.in_order g.second.fair.in_order g.second.fair.owns, sa, sb, capped_is (length a.segs.now + length b.segs.now) room.segs h.segs made.segs);
      some = omega (arith, h.widest, wide_some, capped_is_min (widest_of ca * widest_of cb), capped_is_min (length (entry_needles_of a.segs.now) + length (entry_needles_of b.segs.now)));
      lasts = capped_is (length a.lasts.now + length b.lasts.now) room.lasts h.lasts made.lasts;
    }

capped_more : (n m : ℕ) (b c : Bool) → nat_lt (2 ^ 62) n ≡ b → nat_lt (2 ^ 62) m ≡ c → n ≤ m → (if b then 2 ^ 62 + 1 else n) ≤ (if c then 2 ^ 62 + 1 else m)
capped_more n m true true e f h = omega arith
capped_more n m true false e f h = absurd (omega (arith, h, ltb-true (2 ^ 62) n e, ltb-false (2 ^ 62) m f))
capped_more n m false true e f h = omega (arith, ltb-false (2 ^ 62) n e)
capped_more n m false false e f h = h

capped_grows : (n m : ℕ) → n ≤ m → capped_room n ≤ capped_room m
capped_grows n m h = capped_more n m (nat_lt (2 ^ 62) n) (nat_lt (2 ^ 62) m) refl refl h

-- Greater rooms leave no less room for the composition.
pub after_grows : (room more next later : Room) → IsNoGreater room more → IsNoGreater next later → IsNoGreater (room_after room next) (room_after more later)
after_grows room more next later h k =
    let read = capped_grows (next.checks * room.entries) (later.checks * more.entries) (mul-le-mul k.checks h.entries) in
    let each = capped_grows (next.names * room.widest) (later.names * more.widest) (mul-le-mul k.names h.widest) in
    let all = capped_grows (next.names + capped_room (next.checks * room.entries)) (later.names + capped_room (later.checks * more.entries)) (omega (arith, read, k.names)) in
    let entries = capped_grows (room.entries + next.entries) (more.entries + later.entries) (omega (arith, h.entries, k.entries)) in
    let widest = capped_grows (room.widest * next.widest) (more.widest * later.widest) (mul-le-mul h.widest k.widest) in
    record {
      checks = capped_grows (room.checks + next.checks) (more.checks + later.checks) (omega (arith, h.checks, k.checks));
      names = capped_grows (room.names + names_after room next) (more.names + names_after more later) (omega (arith, h.names, each, all));
      changes = capped_grows (room.changes + next.changes) (more.changes + later.changes) (omega (arith, h.changes, k.changes));
      segs = capped_grows (room.segs + next.segs) (more.segs + later.segs) (omega (arith, h.segs, k.segs));
      entries = entries;
      widest = omega (arith, widest, entries);
      lasts = capped_grows (room.lasts + next.lasts) (more.lasts + later.lasts) (omega (arith, h.lasts, k.lasts));
    }
