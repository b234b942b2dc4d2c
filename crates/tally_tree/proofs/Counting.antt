-- Lines counted one by one are those of a tally of their readings.
use Rattle.std.proofs.Common.{◌≡◌, ◌∙◌, ℕ, zero, suc, ◌+◌, ◌-◌, ◌<◌, ◌≤◌, ◌^◌, ◌↔◌, Bool, List, [], ◌∷◌, ◌++◌, Some, length, map, take, get_or, replicate, cond, refl, sym, ap, subst, arith, append-nil, length-append, length-take-le}
use Rattle.std.specs.List.{All, Contains, count_by, flat_map, range_with_len, slice_get}
use Rattle.std.proofs.lemmas.List.{take_more}
use Rattle.std.proofs.lemmas.List.Concat.{flat_map-append}
use Rattle.std.proofs.lemmas.List.Elements.{All-cons, All-map, All-nil, All-same}
use Rattle.std.proofs.lemmas.List.FromFn.{fill_by_all, get_or-map-range_with_len, length-map-range_with_len}
use Rattle.std.proofs.lemmas.List.Sums.{count_by-le-length, sum_by_push}
use Rattle.std.proofs.lemmas.Option.{get_or_from_slice_get, slice_get_within}
use Rattle.std.proofs.lemmas.Slice.Zip.{AllZip-long, all_zipped_more}
use Rattle.knit_base.specs.declared.instr.Read.{Read}
use Rattle.knit_base.specs.declared.needle.Needle.{Needle}
use Rattle.knit_base.specs.declared.profile.Profile.{Profile}
use Rattle.knit_base.specs.Limits.{IsLawfulProfile}
use Rattle.knitout_reader.specs.Reading.{ReadsAs}
use Rattle.pass_grouping.specs.declared.operation.Class.{Class}
use Rattle.pass_grouping.specs.declared.operation.Class.TheVariants as class
use Rattle.tally_tree.specs.Counting.{AreLinesCounted, Counts, CountsLine, HasCountRoom, IsCountOf, IsMoreWhere, one_if}
use Rattle.tally_tree.specs.Leaves.{IsOnBeds}
use Rattle.tally_tree.specs.Needles.{AreNeedlesRising}
use Rattle.tally_tree.specs.Tallies.{TallyCounts, IsLineTally, class_place, forms_with, is_of, operated_on}
use Rattle.tally_tree.proofs.OnBeds.{none_in, on_beds_more}

-- a count of one reading more
count_more : (p : Read → Bool) (readings : List Read) (r : Read) → count_by p (readings ++ r ∷ []) ≡ count_by p readings + one_if (p r)
count_more p readings r = sum_by_push (λ x. cond (p x) 1 0) readings r

four_numbers : (xs : List ℕ) (a b c d : ℕ) → length xs ≡ 4 → get_or xs 0 0 ≡ a → get_or xs 1 0 ≡ b → get_or xs 2 0 ≡ c → get_or xs 3 0 ≡ d → xs ≡ a ∷ b ∷ c ∷ d ∷ []
four_numbers [] a b c d long e f g h = absurd (omega (arith, long))
four_numbers (w ∷ []) a b c d long e f g h = absurd (omega (arith, long))
four_numbers (w ∷ x ∷ []) a b c d long e f g h = absurd (omega (arith, long))
four_numbers (w ∷ x ∷ y ∷ []) a b c d long e f g h = absurd (omega (arith, long))
four_numbers (w ∷ x ∷ y ∷ z ∷ []) a b c d long e f g h = cc
four_numbers (w ∷ x ∷ y ∷ z ∷ u ∷ us) a b c d long e f g h = absurd (omega (arith, long))

carriers_more : (carriers : ℕ) (readings : List Read) (r : Read) (old new : List ℕ) → old ≡ map (λ c. count_by (forms_with c) readings) (range_with_len 0 carriers)
    → IsMoreWhere (λ c. forms_with c r) old new → new ≡ map (λ c. count_by (forms_with c) (readings ++ r ∷ [])) (range_with_len 0 carriers)
carriers_more carriers readings r old new is more =
    let long : length old ≡ carriers = ap length is ∙ length-map-range_with_len (λ c. count_by (forms_with c) readings) 0 carriers in
    fill_by_all (λ c. count_by (forms_with c) (readings ++ r ∷ [])) new carriers 0 (more.as_long ∙ long) (λ k below.
    more.each k (omega arith)
    ∙ ap (λ n. n + one_if (forms_with k r)) (ap (λ xs. get_or xs k 0) is ∙ get_or-map-range_with_len (λ c. count_by (forms_with c) readings) 0 carriers k k 0 below (omega arith))
    ∙ sym (count_more (forms_with k) readings r))

class_more : (readings : List Read) (r : Read) (old new : TallyCounts) (own : Class) → get_or old.ops (class_place own) 0 ≡ count_by (is_of own) readings → Counts r old new
    → get_or new.ops (class_place own) 0 ≡ count_by (is_of own) (readings ++ r ∷ [])
class_more readings r old new own is counts = counts.ops own ∙ ap (λ n. n + one_if (is_of own r)) is ∙ sym (count_more (is_of own) readings r)

-- one line more was counted
pub count_of_more : (carriers : ℕ) (readings : List Read) (r : Read) (old new : TallyCounts) → IsCountOf carriers readings old → new.lines ≡ old.lines + 1 → Counts r old new
    → IsCountOf carriers (readings ++ r ∷ []) new
count_of_more carriers readings r old new count one counts = record {
  lines = one ∙ ap (λ n. n + 1) count.lines ∙ sym (length-append readings (r ∷ []));
  with_each = carriers_more carriers readings r old.with_each new.with_each count.with_each counts.with_each;
  ops = four_numbers new.ops _ _ _ _ (counts.as_long ∙ ap length count.ops)
      (class_more readings r old new class.Form (ap (λ xs. get_or xs 0 0) count.ops) counts)
      (class_more readings r old new class.Split (ap (λ xs. get_or xs 1 0) count.ops) counts)
      (class_more readings r old new class.Move (ap (λ xs. get_or xs 2 0) count.ops) counts)
      (class_more readings r old new class.Drop (ap (λ xs. get_or xs 3 0) count.ops) counts);
  needles = counts.needles ∙ ap (λ ns. ns ++ operated_on r) count.needles ∙ ap (λ ns. flat_map operated_on readings ++ ns) (sym (append-nil (operated_on r))) ∙ sym (flat_map-append operated_on readings (r ∷ []));
}

pub zeros_from : (n from : ℕ) → replicate {A = ℕ} n 0 ≡ map (λ (c : ℕ). 0) (range_with_len from n)
zeros_from zero from = refl
zeros_from (suc n) from = ap (λ ns. 0 ∷ ns) (zeros_from n (from + 1))

-- no line was counted
pub count_of_none : (carriers : ℕ) (v : TallyCounts) → v ≡ record { lines = 0; with_each = replicate {A = ℕ} carriers 0; ops = 0 ∷ 0 ∷ 0 ∷ 0 ∷ []; needles = [] } → IsCountOf carriers [] v
count_of_none carriers v is = record {
  lines = ap (λ (w : TallyCounts). w.lines) is;
  with_each = ap (λ (w : TallyCounts). w.with_each) is ∙ zeros_from carriers 0;
  ops = ap (λ (w : TallyCounts). w.ops) is;
  needles = ap (λ (w : TallyCounts). w.needles) is;
}

all_of_four : (P : ℕ → Type 0) (a b c d : ℕ) → P a → P b → P c → P d → All P (a ∷ b ∷ c ∷ d ∷ [])
all_of_four P a b c d w x y z =
    All-cons P a (b ∷ c ∷ d ∷ []) w (All-cons P b (c ∷ d ∷ []) x (All-cons P c (d ∷ []) y (All-cons P d [] z (All-nil P))))

few : (p : Read → Bool) (readings : List Read) → length readings < 2 ^ 32 - 1 → count_by p readings < 2 ^ 32 - 1
few p readings short = omega (arith, count_by-le-length p readings)

-- each number is at most that of the lines
pub room_left : (carriers : ℕ) (readings : List Read) (v : TallyCounts) → carriers ≤ 64 → length readings < 2 ^ 32 - 1 → IsCountOf carriers readings v → HasCountRoom v
room_left carriers readings v some short count = record {
  carriers = omega (arith, ap length count.with_each, length-map-range_with_len (λ c. count_by (forms_with c) readings) 0 carriers);
  with_each = All-same (λ n. n < 2 ^ 32 - 1) v.with_each _ count.with_each (All-map (λ n. n < 2 ^ 32 - 1) (λ c. count_by (forms_with c) readings) (range_with_len 0 carriers) (λ k d below. few (forms_with _) readings short));
  ops = All-same (λ n. n < 2 ^ 32 - 1) v.ops _ count.ops
      (all_of_four (λ n. n < 2 ^ 32 - 1) _ _ _ _ (few (is_of class.Form) readings short) (few (is_of class.Split) readings short) (few (is_of class.Move) readings short) (few (is_of class.Drop) readings short));
}

-- one line more of a text was read and counted
pub counted_more : (profile : Profile) (names text : List (List ℕ)) (i : ℕ) (line : List ℕ) (old new : TallyCounts) → IsLawfulProfile profile → slice_get text i ≡ Some line
    → AreLinesCounted profile names (take i text) old → CountsLine profile names line old new → AreLinesCounted profile names (take (i + 1) text) new
counted_more profile names text i line old new lawful is counted one =
    let here : take (i + 1) text ≡ take i text ++ line ∷ [] =
    take_more text i [] (slice_get_within text i line is) ∙ ap (λ l. take i text ++ l ∷ []) (get_or_from_slice_get text i line [] is) in
    record {
      readings = counted.readings ++ one.reading ∷ [];
      read_as = rw here (all_zipped_more (ReadsAs profile names) (take i text) counted.readings line one.reading counted.read_as one.read_as);
      count = count_of_more (length names) counted.readings one.reading old new counted.count one.one one.counts;
      on_beds = on_beds_more profile (length names) one.reading old new lawful one.lawful counted.on_beds one.counts.needles;
    }

-- there is room for one line more
pub room_for_more : (profile : Profile) (names text : List (List ℕ)) (i : ℕ) (v : TallyCounts) → length names ≤ 64 → i < length text → length text ≤ 4096
    → AreLinesCounted profile names (take i text) v → (v.lines < 2 ^ 32 - 1) × HasCountRoom v
room_for_more profile names text i v some within short counted =
    let long : length counted.readings ≡ i = AllZip-long (ReadsAs profile names) (take i text) counted.readings counted.read_as ∙ length-take-le i text (omega arith) in
    (omega (arith, counted.count.lines), room_left (length names) counted.readings v some (omega arith) counted.count)

-- no line of a text was counted
pub counted_none : (profile : Profile) (names : List (List ℕ)) (carriers : ℕ) (v : TallyCounts) → carriers ≡ length names → v ≡ record { lines = 0; with_each = replicate {A = ℕ} carriers 0; ops = 0 ∷ 0 ∷ 0 ∷ 0 ∷ []; needles = [] } → AreLinesCounted profile names [] v
counted_none profile names carriers v some is =
    record { readings = []; read_as = tt; count = subst (λ n. IsCountOf n [] v) some (count_of_none carriers v is); on_beds = λ n h. absurd (none_in n (subst (λ (w : TallyCounts). Contains w.needles n) is h)) }

-- the same numbers, with the needles sorted
abbrev with_needles : List Needle → TallyCounts → TallyCounts
with_needles ns v = record { lines = v.lines; with_each = v.with_each; ops = v.ops; needles = ns }

-- what was counted is a tally where its needles are sorted
pub tally_sorted : (profile : Profile) (names text : List (List ℕ)) (v : TallyCounts) (ns : List Needle) → AreLinesCounted profile names text v → AreNeedlesRising ns
    → ((n : Needle) → Contains ns n ↔ Contains v.needles n) → IsLineTally profile names text (with_needles ns v)
tally_sorted profile names text v ns counted rising same = (
  counted.readings,
  counted.read_as,
  record {
    lines = counted.count.lines;
    with_each = counted.count.with_each;
    ops = counted.count.ops;
    rising = rising;
    needles = λ n. subst (λ ms. Contains ns n ↔ Contains ms n) counted.count.needles (same n);
  },
)

pub sorted_on_beds : (profile : Profile) (names text : List (List ℕ)) (v : TallyCounts) (ns : List Needle) → AreLinesCounted profile names text v
    → ((n : Needle) → Contains ns n ↔ Contains v.needles n) → IsOnBeds (with_needles ns v)
sorted_on_beds profile names text v ns counted same n h = counted.on_beds n ((same n).0 h)
