-- The laws that tallies, their rooms and the memory for them obey.
use Rattle.std.proofs.Common.{◌≡◌, ◌∙◌, ℕ, ◌+◌, ◌≤◌, inl, inr, List, [], ◌∷◌, ◌++◌, length, ap, sym, subst, refl, arith}
use Rattle.std.specs.Prelude.{flat_map, All}
use Rattle.std.specs.List.{AllZip, Contains}
use Rattle.std.proofs.lemmas.Grind.{flat_map-append}
use Rattle.std.proofs.lemmas.List.Concat.{flat_map-cons}
use Rattle.std.proofs.lemmas.List.{append-nil, length-append}
use Rattle.std.proofs.lemmas.List.Elements.{All-head, All-tail, All-cons, All-nil, Contains-append_cases}
use Rattle.std.proofs.lemmas.List.FromFn.{length-map-range_with_len}
use Rattle.knit_base.specs.declared.instr.Read.{Read}
use Rattle.knit_base.specs.declared.needle.Needle.{Needle}
use Rattle.tree_shape.specs.Composing.{StandLaws, RoomLaws, Costs}
use Rattle.tally_tree.specs.Leaves.{AreLeaves, AreTallies, IsOnBeds, IsOnSomeBed, MayJoin, TallyStandsFor, all_of, needle_limit, room_of_tally, room_of_both_tallies}
use Rattle.tally_tree.specs.Merging.{few_merged, in_merged, no_member, rising_merged}
use Rattle.tally_tree.specs.NeedleLimit.{few_rising}
use Rattle.tally_tree.specs.Rooms.{AreTalliesReserved, SparesView}
use Rattle.tally_tree.specs.Sums.{is_tally_joined, tallies_fit}
use Rattle.tally_tree.specs.Tallies.{TallyCounts, IsTallyOf, cost, joined_counts, operated_on}

-- items of two lists that are related place by place, parted where one of the lists is
pub record Parted {A B : Type 0} (R : A → B → Type 0) (zs : List A) (xs ys : List B) : Type 0 where
  pub front : List A
  pub back : List A
  pub whole : zs ≡ front ++ back
  pub in_front : AllZip R front xs
  pub in_back : AllZip R back ys

-- where the other list is two, the one can be parted so
pub part_zip : {A B : Type 0} (R : A → B → Type 0) (zs : List A) (xs ys : List B) → AllZip R zs (xs ++ ys) → Parted R zs xs ys
part_zip R zs [] ys h = record { front = []; back = zs; whole = refl; in_front = tt; in_back = h }
part_zip R [] (x ∷ xs) ys h = absurd h
part_zip R (z ∷ zs) (x ∷ xs) ys h =
    let rest = part_zip R zs xs ys h.1 in
    record { front = z ∷ rest.front; back = rest.back; whole = ap (λ t. z ∷ t) rest.whole; in_front = (h.0, rest.in_front); in_back = rest.in_back }

-- what holds of all holds of those before a place and of those behind it
All-front : {X : Type 0} (P : X → Type 0) (xs ys : List X) → All P (xs ++ ys) → All P xs
All-front P [] ys h = All-nil P
All-front P (x ∷ xs) ys h = All-cons P x xs (All-head P x (xs ++ ys) h) (All-front P xs ys (All-tail P x (xs ++ ys) h))

All-back : {X : Type 0} (P : X → Type 0) (xs ys : List X) → All P (xs ++ ys) → All P ys
All-back P [] ys h = h
All-back P (x ∷ xs) ys h = All-back P xs ys (All-tail P x (xs ++ ys) h)

-- the readings of the first text and then of the others, and those of two lists of texts
all-cons : (text : List Read) (texts : List (List Read)) → all_of (text ∷ texts) ≡ text ++ all_of texts
all-cons text texts = flat_map-cons (λ (t : List Read). t) text texts

all-append : (xs ys : List (List Read)) → all_of (xs ++ ys) ≡ all_of xs ++ all_of ys
all-append xs ys = flat_map-append (λ (t : List Read). t) xs ys

-- how many readings there are before a place and behind it
all-parts : (texts xs ys : List (List Read)) → texts ≡ xs ++ ys → length (all_of texts) ≡ length (all_of xs) + length (all_of ys)
all-parts texts xs ys whole = ap (λ t. length (all_of t)) whole ∙ ap length (all-append xs ys) ∙ length-append (all_of xs) (all_of ys)

-- a leaf stands for itself
one_leaf : (v : TallyCounts) → TallyStandsFor (v ∷ []) v
one_leaf v carriers [] h = absurd h
one_leaf v carriers (text ∷ []) h = subst (λ rs. IsTallyOf carriers rs v) (sym (append-nil text) ∙ sym (all-cons text [])) h.0
one_leaf v carriers (text ∷ other ∷ texts) h = absurd h.1

-- leaves that may stand in one tree before a place, and behind it
leaves_front : (xs ys : List TallyCounts) → AreLeaves (xs ++ ys) → AreLeaves xs
leaves_front xs ys s =
    let p = part_zip (IsTallyOf s.carriers) s.texts xs ys s.tallies in
    record {
      carriers = s.carriers;
      texts = p.front;
      few = s.few;
      tallies = p.in_front;
      lines = omega (arith, s.lines, all-parts s.texts p.front p.back p.whole);
      on_beds = All-front IsOnBeds xs ys s.on_beds;
    }

leaves_back : (xs ys : List TallyCounts) → AreLeaves (xs ++ ys) → AreLeaves ys
leaves_back xs ys s =
    let p = part_zip (IsTallyOf s.carriers) s.texts xs ys s.tallies in
    record {
      carriers = s.carriers;
      texts = p.back;
      few = s.few;
      tallies = p.in_back;
      lines = omega (arith, s.lines, all-parts s.texts p.front p.back p.whole);
      on_beds = All-back IsOnBeds xs ys s.on_beds;
    }

-- the needles of some texts are on beds where those of their tallies are
texts_on_beds : (carriers : ℕ) (texts : List (List Read)) (leaves : List TallyCounts) → AreTallies carriers texts leaves → All IsOnBeds leaves → (n : Needle) → Contains (flat_map operated_on (all_of texts)) n → IsOnSomeBed n
texts_on_beds carriers [] leaves h on n within = absurd (no_member n within)
texts_on_beds carriers (text ∷ texts) [] h on n within = absurd h
texts_on_beds carriers (text ∷ texts) (v ∷ leaves) h on n within =
    let parts : flat_map operated_on (all_of (text ∷ texts)) ≡ flat_map operated_on text ++ flat_map operated_on (all_of texts) =
    ap (flat_map operated_on) (all-cons text texts) ∙ flat_map-append operated_on text (all_of texts) in
    elim (Contains-append_cases (flat_map operated_on text) (flat_map operated_on (all_of texts)) n (subst (λ ns. Contains ns n) parts within)) [
      | inl here ↦ All-head IsOnBeds v leaves on n ((h.0.needles n).1 here)
      | inr later ↦ texts_on_beds carriers texts leaves h.1 (All-tail IsOnBeds v leaves on) n later
    ]

-- so are those of a tally of all of them
tally_on_beds : (carriers : ℕ) (texts : List (List Read)) (leaves : List TallyCounts) → AreTallies carriers texts leaves → All IsOnBeds leaves → (v : TallyCounts) → IsTallyOf carriers (all_of texts) v → IsOnBeds v
tally_on_beds carriers texts leaves h on v t n within = texts_on_beds carriers texts leaves h on n ((t.needles n).0 within)

-- a tally has a number for each carrier
pub with_each_long : (carriers : ℕ) (rs : List Read) (v : TallyCounts) → IsTallyOf carriers rs v → length v.with_each ≡ carriers
with_each_long carriers rs v t = ap length t.with_each ∙ length-map-range_with_len _ 0 carriers

-- tallies of runs of leaves that stand together can be joined
may_join : (xs ys : List TallyCounts) (a b : TallyCounts) → AreLeaves (xs ++ ys) → TallyStandsFor xs a → TallyStandsFor ys b → MayJoin a b
may_join xs ys a b s for_xs for_ys =
    let p = part_zip (IsTallyOf s.carriers) s.texts xs ys s.tallies in
    let first = for_xs s.carriers p.front p.in_front in
    let second = for_ys s.carriers p.back p.in_back in
    record {
      fit = tallies_fit (all_of p.front) (all_of p.back) a b s.carriers first second (omega (arith, s.lines, all-parts s.texts p.front p.back p.whole));
      few = omega (arith, s.few, with_each_long s.carriers (all_of p.front) a first);
      rising = (first.rising, second.rising);
      on_beds = (
        tally_on_beds s.carriers p.front xs p.in_front (All-front IsOnBeds xs ys s.on_beds) a first,
        tally_on_beds s.carriers p.back ys p.in_back (All-back IsOnBeds xs ys s.on_beds) b second,
      );
    }

-- and their sum stands for both runs
both_runs : (xs ys : List TallyCounts) (a b : TallyCounts) → TallyStandsFor xs a → TallyStandsFor ys b → TallyStandsFor (xs ++ ys) (joined_counts a b)
both_runs xs ys a b for_xs for_ys carriers texts h =
    let p = part_zip (IsTallyOf carriers) texts xs ys h in
    let whole = is_tally_joined (all_of p.front) (all_of p.back) a b carriers (for_xs carriers p.front p.in_front) (for_ys carriers p.back p.in_back) in
    subst (λ rs. IsTallyOf carriers rs (joined_counts a b)) (sym (all-append p.front p.back) ∙ ap all_of (sym p.whole)) whole

-- tallies of leaves that may stand in one tree can be joined, and stand for them
pub stand_laws : StandLaws AreLeaves TallyStandsFor joined_counts MayJoin
stand_laws = record { one = λ v s. one_leaf v; front = leaves_front; back = leaves_back; both = λ xs ys a b s f g. (may_join xs ys a b s f g, both_runs xs ys a b f g) }

-- a sum has no more needles than both tallies together, and no more than the beds
pub joined_room : (a b : TallyCounts) → MayJoin a b → room_of_tally (joined_counts a b) ≤ room_of_both_tallies (room_of_tally a) (room_of_tally b)
joined_room a b f =
    let on_beds : IsOnBeds (joined_counts a b) = λ n h. elim (in_merged a.needles b.needles n h) [ inl k ↦ f.on_beds.0 n k | inr k ↦ f.on_beds.1 n k ] in
    omega (arith, few_merged a.needles b.needles, few_rising (joined_counts a b).needles (rising_merged a.needles b.needles f.rising.0 f.rising.1) on_beds)

-- rooms bound the needles of sums
pub room_laws : RoomLaws joined_counts MayJoin room_of_tally room_of_both_tallies ◌≤◌
room_laws = record { same = λ a. omega arith; along = λ a b c p q. omega arith; bounds = joined_room; rises = λ a b c d p q. omega arith }

-- empty tallies are for any order
pub meets_law : (spares : SparesView) (room : ℕ) (needed : List ℕ) → AreTalliesReserved spares (needed ++ room ∷ []) → AreTalliesReserved spares (room ∷ needed)
meets_law spares room needed m =
    let fits : ℕ → Type 0 = λ r. r ≤ spares.room in
    record {
      enough = omega (arith, m.enough, length-append needed (room ∷ []));
      large = All-cons fits room needed (All-head fits room [] (All-back fits needed (room ∷ []) m.large)) (All-front fits needed (room ∷ []) m.large);
    }

-- no tally of a document's lines costs more: 64 numbers of carriers, five others, and the needles of four beds
abbrev most_cost : ℕ
most_cost = 64 + needle_limit + 5

-- so a tally of a run of the leaves costs no more
run_cost : (all before run after : List TallyCounts) (v : TallyCounts) → AreLeaves all → all ≡ before ++ (run ++ after) → TallyStandsFor run v → cost v ≤ most_cost
run_cost all before run after v s parts stands =
    let here = leaves_front run after (leaves_back before (run ++ after) (subst AreLeaves parts s)) in
    let t = stands here.carriers here.texts here.tallies in
    let needles = few_rising v.needles t.rising (tally_on_beds here.carriers here.texts run here.tallies here.on_beds v t) in
    omega (arith, here.few, with_each_long here.carriers (all_of here.texts) v t, needles)

-- there is a bound on what tallies of some leaves cost
pub cost_law : (all : List TallyCounts) → AreLeaves all → (each : ℕ) × Costs TallyStandsFor cost each all
cost_law all s = (most_cost, λ before run after v parts stands. run_cost all before run after v s parts stands)
