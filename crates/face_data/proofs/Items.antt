-- How many items a good summary has.
use Rattle.std.proofs.Common.{◌≡◌, ℕ, zero, suc, ◌+◌, ◌-◌, ◌*◌, ◌≤◌, ◌<◌, Bool, true, false, List, [], ◌∷◌, length, get_or, refl, sym, ap, ◌∙◌, subst, arith, inl, inr, ◌⊎◌, map, length-append}
use Rattle.std.specs.Prelude.{ℤ, ◌&&◌, if◌then◌else◌, nat_eq, nat_le, unwrap_or}
use Rattle.std.proofs.Common.{Some}
use Rattle.std.specs.List.{Contains, sum_by, flat_map, list_any}
use Rattle.std.specs.List.Sorted.{IsStrictlySortedBy}
use Rattle.std.specs.Ordering.{int_eq}
use Rattle.knit_base.specs.declared.yarns.CarrierNo.{CarrierNo}
use Rattle.face_data.proofs.LastLists.{lasts_bound}
use Rattle.std.specs.declared.cmp.Ordering.TheVariants.{Equal}
use Rattle.std.proofs.lemmas.Bool.{and_from, le-leb, eq-eqb}
use Rattle.std.proofs.lemmas.Bool.Decides.{Decides-int_eq}
use Rattle.std.proofs.lemmas.List.Elements.{Contains-get_or, Contains-append_cases}
use Rattle.std.proofs.lemmas.List.Sums.{sum_by-cons}
use Rattle.std.proofs.lemmas.Map.Views.{list_any-from_Contains}
use Rattle.std.proofs.Math.Path.{ap₂, subst₂}
use Rattle.std.proofs.Math.Nat.{mul-le-mul_right}
use Rattle.knit_base.specs.Needle.{same_needle, needle_cmp, same_needle-true}
use Rattle.face_data.specs.Conditions.{Ask}
use Rattle.face_data.specs.Summaries.{AskedCondition, Summary}
use Rattle.face_data.specs.Segments.{Changed, segments_on, change_at, entry_needles_of, new_of, new_in}
use Rattle.face_data.specs.Conditions.Ask.{rack_is, carrier_in, carrier_out, hook_free, hook_is, hook_lacks, size_at_most, last_near}
use Rattle.face_data.specs.declared.bearing.Bearing.{Bearing}
use Rattle.face_data.specs.Bearings.{bearing, all_in, if_so}
use Rattle.face_data.specs.declared.bearing.Bearing.TheVariants.{Implied, Refuted, Silent}
use Rattle.face_data.proofs.Members.{sum_within, Contains-none, Contains-head, Contains-tail, Contains-cons_cases}
use Rattle.knit_base.specs.declared.rule.Rule.TheVariants.{NotAligned}
use Rattle.face_data.specs.Items.{ask_items, check_items, change_items, items, most_items}
use Rattle.face_data.proofs.Effects.{ending_bound}
use Rattle.face_data.proofs.Owners.{distinct_append}
use Rattle.face_data.proofs.Bound.{Sized, no_size, names_at, most_at, AreSizes, sizes_bound, at_most_bound, needle_laws}
use Rattle.face_data.proofs.ChangeLists.{AllAbove, not_less_and_equal}
use Rattle.knit_base.specs.declared.needle.Needle.{Needle}
use Rattle.face_data.specs.declared.face.Seg.{Seg}
use Rattle.face_data.specs.declared.face.Seg.TheVariants.{Entry, New}
use Rattle.face_data.specs.Sets.{IsDistinct, AreNeedlesWithin, NestedOrApart}
use Rattle.face_data.specs.Goodness.{entries_on, OwnsOnce, IsIrredundant, MeetsSize, IsGood, AgreeOnLast, AskFits, SizeFits, ChangeFits, size_needles_in, IsInOrder}
use Rattle.knit_base.proofs.Needles.{needle_cmp-refl, Decides-same_needle}
use Rattle.face_data.proofs.Digests.{not_silent}

-- a sum of ones is the length
pub sum_of_ones_is_length : (zs : List Needle) → sum_by (λ n. 1) zs ≡ length zs
sum_of_ones_is_length [] = refl
sum_of_ones_is_length (z ∷ zs) = omega (arith, sum_of_ones_is_length zs, sum_by-cons (λ (n : Needle). 1) z zs)

-- distinct needles among the known ones are at most as many
pub length_within : (xs ys : List Needle) → IsDistinct xs → AreNeedlesWithin xs ys → length xs ≤ length ys
length_within xs ys d w = omega (arith, sum_within (λ n. 1) xs ys d w, sum_of_ones_is_length xs, sum_of_ones_is_length ys)

-- the conditions on sizes among them
abbrev pub sized_from : Ask → List Sized → List Sized
sized_from (size_at_most names most) rest = record { names = names; most = most } ∷ rest
sized_from q rest = rest

-- the conditions on sizes
abbrev pub sizes_of : List AskedCondition → List Sized
sizes_of [] = []
sizes_of (c ∷ cs) = sized_from c.ask (sizes_of cs)

-- the condition, if it is not on sizes, before the others
abbrev pub others_from : AskedCondition → Ask → List AskedCondition → List AskedCondition
others_from c (size_at_most names most) rest = rest
others_from c q rest = c ∷ rest

-- the conditions that are not on sizes
abbrev pub others_of : List AskedCondition → List AskedCondition
others_of [] = []
others_of (c ∷ cs) = others_from c c.ask (others_of cs)

-- one of the conditions is on these sizes
abbrev pub IsSized : List AskedCondition → Sized → Type 0
IsSized cs s = (c : AskedCondition) × Contains cs c × (c.ask ≡ size_at_most s.names s.most)

from_sized : (c : AskedCondition) (cs : List AskedCondition) (q : Ask) → c.ask ≡ q → ((s : Sized) → Contains (sizes_of cs) s → IsSized cs s) →
    (s : Sized) → Contains (sized_from q (sizes_of cs)) s → IsSized (c ∷ cs) s
from_sized c cs (size_at_most names most) e ih s h = elim (Contains-cons_cases (record { names = names; most = most }) (sizes_of cs) s h) [
  | inl same ↦ (c, Contains-head c cs, e ∙ ap (λ (x : Sized). size_at_most x.names x.most) same)
  | inr later ↦ (let w = ih s later in (w.0, Contains-tail c cs w.0 w.1, w.2))
]
from_sized c cs (rack_is x) e ih s h = (let w = ih s h in (w.0, Contains-tail c cs w.0 w.1, w.2))
from_sized c cs (carrier_in x) e ih s h = (let w = ih s h in (w.0, Contains-tail c cs w.0 w.1, w.2))
from_sized c cs (carrier_out x) e ih s h = (let w = ih s h in (w.0, Contains-tail c cs w.0 w.1, w.2))
from_sized c cs hook_free e ih s h = (let w = ih s h in (w.0, Contains-tail c cs w.0 w.1, w.2))
from_sized c cs (hook_is x) e ih s h = (let w = ih s h in (w.0, Contains-tail c cs w.0 w.1, w.2))
from_sized c cs (hook_lacks x) e ih s h = (let w = ih s h in (w.0, Contains-tail c cs w.0 w.1, w.2))
from_sized c cs (last_near d at float) e ih s h = (let w = ih s h in (w.0, Contains-tail c cs w.0 w.1, w.2))

sizes_from : (cs : List AskedCondition) (s : Sized) → Contains (sizes_of cs) s → IsSized cs s
sizes_from [] s h = absurd (Contains-none s h)
sizes_from (c ∷ cs) s h = from_sized c cs c.ask refl (sizes_from cs) s h

-- a later condition on sizes isn't implied
abbrev pub IsNeeded : List Sized → Type 0
IsNeeded [] = Unit {0}
IsNeeded (s ∷ ss) = ((r : Sized) → Contains ss r → AreNeedlesWithin r.names s.names → s.most ≤ r.most → ⊥) × IsNeeded ss

-- a list within another passes the test
pub all_in_from : (later earlier : List Needle) → AreNeedlesWithin later earlier → all_in later earlier ≡ true
all_in_from [] earlier w = refl
all_in_from (x ∷ later) earlier w =
    and_from (list_any (same_needle x) earlier) (all_in later earlier)
    (list_any-from_Contains needle_laws x earlier (w x (Contains-head x later)))
    (all_in_from later earlier (λ n h. w n (Contains-tail x later n h)))

implied_sizes : (xs ys : List Needle) (m k : ℕ) → AreNeedlesWithin ys xs → m ≤ k → bearing (size_at_most xs m) (size_at_most ys k) ≡ Implied
unfolding bearing
implied_sizes xs ys m k w h = ap (λ b. if_so b Implied) (and_from (all_in ys xs) (nat_le m k) (all_in_from ys xs w) (le-leb m k h))

needed_from : (c : AskedCondition) (cs : List AskedCondition) (q : Ask) → c.ask ≡ q → ((d : AskedCondition) → Contains cs d → bearing c.ask d.ask ≡ Silent) → IsNeeded (sizes_of cs) → IsNeeded (sized_from q (sizes_of cs))
needed_from c cs (size_at_most names most) e h ih = (
  (λ r there w m.
      let d = sizes_from cs r there in
      let silence = h d.0 d.1 in
      let said = ap₂ bearing e d.2 ∙ implied_sizes names r.names most r.most w m in
      absurd (cc)),
  ih,
)
needed_from c cs (rack_is x) e h ih = ih
needed_from c cs (carrier_in x) e h ih = ih
needed_from c cs (carrier_out x) e h ih = ih
needed_from c cs hook_free e h ih = ih
needed_from c cs (hook_is x) e h ih = ih
needed_from c cs (hook_lacks x) e h ih = ih
needed_from c cs (last_near d at float) e h ih = ih

needed_of : (cs : List AskedCondition) → IsIrredundant cs → IsNeeded (sizes_of cs)
needed_of [] h = tt
needed_of (c ∷ cs) h = needed_from c cs c.ask refl h.0 (needed_of cs h.1)

needed_at : (ss : List Sized) → IsNeeded ss → (k l : ℕ) → k < l → l < length ss → AreNeedlesWithin (names_at ss l) (names_at ss k) → most_at ss k ≤ most_at ss l → ⊥
needed_at [] h k l hk hl w m = absurd (omega arith)
needed_at (s ∷ ss) h zero zero hk hl w m = absurd (omega arith)
needed_at (s ∷ ss) h zero (suc l) hk hl w m = h.0 (get_or ss l no_size) (Contains-get_or ss l no_size (omega arith)) w m
needed_at (s ∷ ss) h (suc k) zero hk hl w m = absurd (omega arith)
needed_at (s ∷ ss) h (suc k) (suc l) hk hl w m = needed_at ss h.1 k l (omega arith) (omega arith) w m

sized_fits : (carriers limit : ℕ) (known : List Needle) (f : Summary) → IsGood carriers limit known f → (s : Sized) → Contains (sizes_of f.checks) s → SizeFits limit known s.names s.most
sized_fits carriers limit known f g s h = let c = sizes_from f.checks s h in subst (AskFits carriers limit known) c.2 (g.fair.asks_fit c.0 c.1)

are_sizes : (carriers limit : ℕ) (known : List Needle) (f : Summary) → IsGood carriers limit known f → AreSizes limit known (sizes_of f.checks)
are_sizes carriers limit known f g = record {
  some = λ k h. (sized_fits carriers limit known f g (get_or (sizes_of f.checks) k no_size) (Contains-get_or (sizes_of f.checks) k no_size h)).some;
  within = λ k h. (sized_fits carriers limit known f g (get_or (sizes_of f.checks) k no_size) (Contains-get_or (sizes_of f.checks) k no_size h)).within;
  at_most = λ k h. (sized_fits carriers limit known f g (get_or (sizes_of f.checks) k no_size) (Contains-get_or (sizes_of f.checks) k no_size h)).at_most;
  nested = λ k l hk hl.
      let c = sizes_from f.checks (get_or (sizes_of f.checks) k no_size) (Contains-get_or (sizes_of f.checks) k no_size hk) in
      let d = sizes_from f.checks (get_or (sizes_of f.checks) l no_size) (Contains-get_or (sizes_of f.checks) l no_size hl) in
      subst₂ NestedOrApart (ap size_needles_in c.2) (ap size_needles_in d.2) (g.fair.nested c.0 d.0 c.1 d.1);
  needed = needed_at (sizes_of f.checks) (needed_of f.checks g.irredundant);
}

-- the conditions on sizes and the needles that they name, counted together
abbrev pub size_items : List Sized → ℕ
size_items ss = sum_by (λ (s : Sized). 1 + length s.names) ss

size_items_at_most : (t : ℕ) (ss : List Sized) → ((s : Sized) → Contains ss s → length s.names ≤ t) → size_items ss ≤ length ss * (t + 1)
size_items_at_most t [] h = omega arith
size_items_at_most t (s ∷ ss) h =
    omega (arith, h s (Contains-head s ss), size_items_at_most t ss (λ r there. h r (Contains-tail s ss r there)), sum_by-cons (λ (s : Sized). 1 + length s.names) s ss)

-- How many items the conditions on sizes can be.
pub size_items_bound : (carriers limit : ℕ) (known : List Needle) (f : Summary) → IsGood carriers limit known f →
    size_items (sizes_of f.checks) ≤ (2 * length known - 1) * (limit + 1) * (length known + 1)
size_items_bound carriers limit known f g =
    let each = size_items_at_most (length known) (sizes_of f.checks) (λ s h.
    let fits = sized_fits carriers limit known f g s h in length_within s.names known fits.distinct fits.within) in
    let many : length (sizes_of f.checks) * (length known + 1) ≤ (2 * length known - 1) * (limit + 1) * (length known + 1)
    = mul-le-mul_right (length known + 1) (sizes_bound limit known (sizes_of f.checks) (are_sizes carriers limit known f g)) in
    omega (arith, each, many)

-- the needles that are changed
abbrev pub needles_changed : List Changed → List Needle
needles_changed cs = map (λ (c : Changed). c.0) cs

not_above_itself : (n : Needle) (cs : List Changed) → AllAbove n cs → Contains (needles_changed cs) n → ⊥
not_above_itself n [] h k = Contains-none n k
not_above_itself n (c ∷ cs) h k = elim (Contains-cons_cases c.0 (needles_changed cs) n k) [
  | inl same ↦ not_less_and_equal (needle_cmp n c.0) h.0 (subst (λ m. needle_cmp n m ≡ Equal) (sym same) (needle_cmp-refl n))
  | inr later ↦ not_above_itself n cs h.1 later
]

-- each needle is changed once
pub needles_distinct : (cs : List Changed) → IsInOrder cs → IsDistinct (needles_changed cs)
unfolding IsStrictlySortedBy
needles_distinct [] h = tt
needles_distinct (c ∷ cs) h = (not_above_itself c.0 cs h.0, needles_distinct cs h.1)

-- the needle of a change
pub needle_in : (cs : List Changed) (c : Changed) → Contains cs c → Contains (needles_changed cs) c.0
needle_in [] c h = absurd (Contains-none c h)
needle_in (x ∷ cs) c h = elim (Contains-cons_cases x cs c h) [
  | inl same ↦ subst (λ (w : Changed). Contains (needles_changed (x ∷ cs)) w.0) same (Contains-head x.0 (needles_changed cs))
  | inr later ↦ Contains-tail x.0 (needles_changed cs) c.0 (needle_in cs c later)
]

-- the change of a needle
pub in_needles : (cs : List Changed) (n : Needle) → Contains (needles_changed cs) n → (c : Changed) × Contains cs c × (c.0 ≡ n)
in_needles [] n h = absurd (Contains-none n h)
in_needles (x ∷ cs) n h = elim (Contains-cons_cases x.0 (needles_changed cs) n h) [
  | inl same ↦ (x, Contains-head x cs, same)
  | inr later ↦ (let w = in_needles cs n later in (w.0, Contains-tail x cs w.0 w.1, w.2))
]

length-map : (cs : List Changed) → length (needles_changed cs) ≡ length cs
length-map [] = refl
length-map (c ∷ cs) = omega (arith, length-map cs)

changes_bound : (lines : ℕ) (known : List Needle) (cs : List Changed) → IsInOrder cs → ((c : Changed) → Contains cs c → ChangeFits lines known c) → length cs ≤ length known
changes_bound lines known cs order fit =
    omega (
      arith,
      length-map cs,
      length_within (needles_changed cs) known (needles_distinct cs order)
          (λ n h. let w = in_needles cs n h in subst (Contains known) w.2 (fit w.0 w.1).needle),
    )

-- a change of the list is what the list says of its needle
found_head : (x : Changed) (cs : List Changed) (c : Changed) (b : Bool) → same_needle c.0 x.0 ≡ b → AllAbove x.0 cs → (x ≡ c) ⊎ Contains cs c →
    (Contains cs c → change_at cs c.0 ≡ Some c.1) → (if b then Some x.1 else change_at cs c.0) ≡ Some c.1
found_head x cs c b e above (inl same) ih = subst (λ t. (if t then Some x.1 else change_at cs c.0) ≡ Some c.1)
    (sym ((Decides-same_needle c.0 x.0).1 (sym (ap (λ (w : Changed). w.0) same))) ∙ e) (ap (λ (w : Changed). Some w.1) same)
found_head x cs c true e above (inr later) ih = absurd (not_above_itself x.0 cs above (subst (Contains (needles_changed cs)) (same_needle-true c.0 x.0 e) (needle_in cs c later)))
found_head x cs c false e above (inr later) ih = ih later

-- a change is found by its needle
pub change_found : (cs : List Changed) (c : Changed) → IsInOrder cs → Contains cs c → change_at cs c.0 ≡ Some c.1
unfolding IsStrictlySortedBy
change_found [] c order h = absurd (Contains-none c h)
change_found (x ∷ cs) c order h = found_head x cs c (same_needle c.0 x.0) refl order.0 (Contains-cons_cases x cs c h) (λ k. change_found cs c order.1 k)

-- and its segments are what the needle holds
pub segments_found : (cs : List Changed) (c : Changed) → IsInOrder cs → Contains cs c → segments_on cs c.0 ≡ c.1
segments_found cs c order h = ap (λ o. unwrap_or o (Entry c.0 ∷ [])) (change_found cs c order h)

-- the entries that stand on changed needles
abbrev pub all_entries : List Changed → List Needle
all_entries cs = flat_map (λ (c : Changed). entry_needles_of c.1) cs

-- the change in whose segments an entry stands
pub in_entries : (cs : List Changed) (n : Needle) → Contains (all_entries cs) n → (c : Changed) × Contains cs c × Contains (entry_needles_of c.1) n
in_entries [] n h = absurd (Contains-none n h)
in_entries (x ∷ cs) n h = elim (Contains-append_cases (entry_needles_of x.1) (all_entries cs) n h) [
  | inl here ↦ (x, Contains-head x cs, here)
  | inr later ↦ (let w = in_entries cs n later in (w.0, Contains-tail x cs w.0 w.1, w.2))
]

-- each entry stands once in the segments of all changes
pub entries_distinct : (whole cs : List Changed) → IsInOrder whole → OwnsOnce whole → IsDistinct (needles_changed cs) → ((c : Changed) → Contains cs c → Contains whole c) → IsDistinct (all_entries cs)
entries_distinct whole [] order o d sub = tt
entries_distinct whole (x ∷ cs) order o d sub =
    let here = segments_found whole x order (sub x (Contains-head x cs)) in
    distinct_append (entry_needles_of x.1) (all_entries cs) (subst (λ segs. IsDistinct (entry_needles_of segs)) here (o.distinct x.0))
    (entries_distinct whole cs order o d.1 (λ c h. sub c (Contains-tail x cs c h)))
    (λ n h k.
    let w = in_entries cs n k in
    let there = segments_found whole w.0 order (sub w.0 (Contains-tail x cs w.0 w.1)) in
    let same = o.owner x.0 w.0.0 n (subst (λ segs. Contains (entry_needles_of segs) n) (sym here) h) (subst (λ segs. Contains (entry_needles_of segs) n) (sym there) w.2) in
    d.0 (subst (Contains (needles_changed cs)) (sym same) (needle_in cs w.0 w.1)))

-- segments are entries and new loops
pub length-segs : (segs : List Seg) → length segs ≡ length (entry_needles_of segs) + new_of segs
length-segs [] = refl
length-segs (Entry n ∷ segs) = omega (arith, length-segs segs, sum_by-cons new_in (Entry n) segs)
length-segs (New o ∷ segs) = omega (arith, length-segs segs, sum_by-cons new_in (New o) segs)

-- the segments of all changes
abbrev pub seg_items : List Changed → ℕ
seg_items cs = sum_by (λ (c : Changed). length c.1) cs

segs_at_most : (limit : ℕ) (cs : List Changed) → ((c : Changed) → Contains cs c → new_of c.1 ≤ limit) → seg_items cs ≤ length (all_entries cs) + length cs * limit
segs_at_most limit [] h = omega arith
segs_at_most limit (c ∷ cs) h =
    omega (
      arith,
      h c (Contains-head c cs),
      segs_at_most limit cs (λ d k. h d (Contains-tail c cs d k)),
      length-segs c.1,
      length-append (entry_needles_of c.1) (all_entries cs),
      sum_by-cons (λ (d : Changed). length d.1) c cs,
    )

nothing_much : (xs : List Needle) → sum_by (λ n. 0) xs ≡ 0
nothing_much [] = refl
nothing_much (x ∷ xs) = omega (arith, nothing_much xs, sum_by-cons (λ (n : Needle). 0) x xs)

meets_nothing : (q : Ask) → MeetsSize q (λ n. 0)
meets_nothing (size_at_most names most) = omega (arith, nothing_much names)
meets_nothing (rack_is x) = tt
meets_nothing (carrier_in x) = tt
meets_nothing (carrier_out x) = tt
meets_nothing hook_free = tt
meets_nothing (hook_is x) = tt
meets_nothing (hook_lacks x) = tt
meets_nothing (last_near c at float) = tt

-- no needle has more new loops than the limit
pub new_on_at_most : (carriers limit : ℕ) (known : List Needle) (f : Summary) → IsGood carriers limit known f → (n : Needle) → new_of (segments_on f.changes n) ≤ limit
new_on_at_most carriers limit known f g n =
    let size = g.fair.sizes (λ m. 0) (λ m. omega arith) (λ d k. meets_nothing d.ask) n in
    omega (arith, size, nothing_much (entries_on f.changes n))

-- nor has the needle of a change
pub new_at_most : (carriers limit : ℕ) (known : List Needle) (f : Summary) → IsGood carriers limit known f → (c : Changed) → Contains f.changes c → new_of c.1 ≤ limit
new_at_most carriers limit known f g c h =
    omega (arith, new_on_at_most carriers limit known f g c.0, ap new_of (segments_found f.changes c g.fair.in_order h))

-- the changes and their segments, counted together
pub change_items_bound : (carriers limit : ℕ) (known : List Needle) (f : Summary) → IsGood carriers limit known f →
    length f.changes + seg_items f.changes ≤ (limit + 2) * length known
change_items_bound carriers limit known f g =
    let many = changes_bound f.lines known f.changes g.fair.in_order g.fair.changes_fit in
    let own = length_within (all_entries f.changes) known
    (entries_distinct f.changes f.changes g.fair.in_order g.fair.owns (needles_distinct f.changes g.fair.in_order) (λ c h. h))
    (λ n h. let w = in_entries f.changes n h in (g.fair.changes_fit w.0 w.1).entries n w.2) in
    let new : length f.changes * limit ≤ length known * limit = mul-le-mul_right limit many in
    omega (arith, many, own, new, segs_at_most limit f.changes (new_at_most carriers limit known f g))

abbrev number : ℕ → Ask → ℕ
number carriers (rack_is q) = 0
number carriers hook_free = 1
number carriers (hook_is set) = 1
number carriers (carrier_in c) = 2 + c.0
number carriers (carrier_out c) = 2 + c.0
number carriers (hook_lacks c) = 2 + carriers + c.0
number carriers (last_near c at float) = 2 + 2 * carriers + c.0
number carriers (size_at_most names most) = 0

abbrev IsOther : ℕ → Ask → Type 0
IsOther carriers (rack_is q) = Unit {0}
IsOther carriers hook_free = Unit {0}
IsOther carriers (hook_is set) = Unit {0}
IsOther carriers (carrier_in c) = c.0 < carriers
IsOther carriers (carrier_out c) = c.0 < carriers
IsOther carriers (hook_lacks c) = c.0 < carriers
IsOther carriers (last_near c at float) = c.0 < carriers
IsOther carriers (size_at_most names most) = ⊥

if_so_speaks : (c d : ℕ) (r : Bearing) → c ≡ d → (r ≡ Silent → ⊥) → if_so (nat_eq c d) r ≡ Silent → ⊥
if_so_speaks c d r e speaks silence = speaks (sym (ap (λ b. if_so b r) (eq-eqb c d e)) ∙ silence)

implied_speaks : Implied ≡ Silent → ⊥
implied_speaks e = cc

refuted_speaks : Refuted ≡ Silent → ⊥
refuted_speaks e = cc

near_speaks : (c d : CarrierNo) (n m : ℤ) (f g : ℕ) → c.0 ≡ d.0 → AgreeOnLast (last_near c n f) (last_near d m g) → bearing (last_near c n f) (last_near d m g) ≡ Silent → ⊥
unfolding bearing
near_speaks c d n m f g same agree s =
    let both = agree (λ i. record { 0 = same i }) in
    implied_speaks (sym (near_implied c d n m f g same both.0 both.1) ∙ s)
  where
    near_implied : (c d : CarrierNo) (n m : ℤ) (f g : ℕ) → c.0 ≡ d.0 → n ≡ m → f ≡ g → if_so (nat_eq c.0 d.0 && (int_eq n m && nat_eq f g)) Implied ≡ Implied
    near_implied c d n m f g same at float =
        ap (λ b. if_so b Implied) (and_from (nat_eq c.0 d.0) (int_eq n m && nat_eq f g) (eq-eqb c.0 d.0 same)
        (and_from (int_eq n m) (nat_eq f g) ((Decides-int_eq n m).1 at) (eq-eqb f g float)))

-- of two such conditions with one number, the earlier says something of the later
speaks : (carriers : ℕ) (p q : Ask) → IsOther carriers p → IsOther carriers q → AgreeOnLast p q → number carriers p ≡ number carriers q → bearing p q ≡ Silent → ⊥
unfolding bearing
speaks carriers (rack_is p) (rack_is q) fp fq agree e s = not_silent (int_eq p q) s
speaks carriers hook_free hook_free fp fq agree e s = implied_speaks s
speaks carriers hook_free (hook_is set) fp fq agree e s = not_silent (nat_eq 0 set) s
speaks carriers (hook_is set) hook_free fp fq agree e s = not_silent (nat_eq set 0) s
speaks carriers (hook_is set) (hook_is other) fp fq agree e s = not_silent (nat_eq set other) s
speaks carriers (carrier_in c) (carrier_in d) fp fq agree e s = if_so_speaks c.0 d.0 Implied (omega (arith, e)) implied_speaks s
speaks carriers (carrier_in c) (carrier_out d) fp fq agree e s = if_so_speaks c.0 d.0 Refuted (omega (arith, e)) refuted_speaks s
speaks carriers (carrier_out c) (carrier_out d) fp fq agree e s = if_so_speaks c.0 d.0 Implied (omega (arith, e)) implied_speaks s
speaks carriers (carrier_out c) (carrier_in d) fp fq agree e s = if_so_speaks c.0 d.0 Refuted (omega (arith, e)) refuted_speaks s
speaks carriers (hook_lacks c) (hook_lacks d) fp fq agree e s = if_so_speaks c.0 d.0 Implied (omega (arith, e)) implied_speaks s
speaks carriers (last_near c n f) (last_near d m g) fp fq agree e s =
    near_speaks c d n m f g (omega (arith, e)) agree s
speaks carriers (size_at_most names most) q fp fq agree e s = fp
speaks carriers p (size_at_most names most) fp fq agree e s = fq
speaks carriers p q fp fq agree e s = omega (arith, e)

number_below : (carriers : ℕ) (p : Ask) → IsOther carriers p → number carriers p < 2 + 3 * carriers
number_below carriers (rack_is q) f = omega arith
number_below carriers hook_free f = omega arith
number_below carriers (hook_is set) f = omega arith
number_below carriers (carrier_in c) f = omega arith
number_below carriers (carrier_out c) f = omega arith
number_below carriers (hook_lacks c) f = omega arith
number_below carriers (last_near c at float) f = omega arith
number_below carriers (size_at_most names most) f = absurd f

member_other : (carriers limit : ℕ) (known : List Needle) (c : AskedCondition) (cs : List AskedCondition) (q : Ask) → c.ask ≡ q → AskFits carriers limit known q →
    ((d : AskedCondition) → Contains (others_of cs) d → Contains cs d × IsOther carriers d.ask) →
    (d : AskedCondition) → Contains (others_from c q (others_of cs)) d → Contains (c ∷ cs) d × IsOther carriers d.ask
member_other carriers limit known c cs (size_at_most names most) e f ih d h = (let w = ih d h in (Contains-tail c cs d w.0, w.1))
member_other carriers limit known c cs (rack_is x) e f ih d h = elim (Contains-cons_cases c (others_of cs) d h) [
  | inl same ↦ (subst (Contains (c ∷ cs)) same (Contains-head c cs), subst (λ (w : AskedCondition). IsOther carriers w.ask) same (subst (IsOther carriers) (sym e) tt))
  | inr later ↦ (let w = ih d later in (Contains-tail c cs d w.0, w.1))
]
member_other carriers limit known c cs hook_free e f ih d h = elim (Contains-cons_cases c (others_of cs) d h) [
  | inl same ↦ (subst (Contains (c ∷ cs)) same (Contains-head c cs), subst (λ (w : AskedCondition). IsOther carriers w.ask) same (subst (IsOther carriers) (sym e) tt))
  | inr later ↦ (let w = ih d later in (Contains-tail c cs d w.0, w.1))
]
member_other carriers limit known c cs (hook_is x) e f ih d h = elim (Contains-cons_cases c (others_of cs) d h) [
  | inl same ↦ (subst (Contains (c ∷ cs)) same (Contains-head c cs), subst (λ (w : AskedCondition). IsOther carriers w.ask) same (subst (IsOther carriers) (sym e) tt))
  | inr later ↦ (let w = ih d later in (Contains-tail c cs d w.0, w.1))
]
member_other carriers limit known c cs (carrier_in x) e f ih d h = elim (Contains-cons_cases c (others_of cs) d h) [
  | inl same ↦ (subst (Contains (c ∷ cs)) same (Contains-head c cs), subst (λ (w : AskedCondition). IsOther carriers w.ask) same (subst (IsOther carriers) (sym e) f))
  | inr later ↦ (let w = ih d later in (Contains-tail c cs d w.0, w.1))
]
member_other carriers limit known c cs (carrier_out x) e f ih d h = elim (Contains-cons_cases c (others_of cs) d h) [
  | inl same ↦ (subst (Contains (c ∷ cs)) same (Contains-head c cs), subst (λ (w : AskedCondition). IsOther carriers w.ask) same (subst (IsOther carriers) (sym e) f))
  | inr later ↦ (let w = ih d later in (Contains-tail c cs d w.0, w.1))
]
member_other carriers limit known c cs (hook_lacks x) e f ih d h = elim (Contains-cons_cases c (others_of cs) d h) [
  | inl same ↦ (subst (Contains (c ∷ cs)) same (Contains-head c cs), subst (λ (w : AskedCondition). IsOther carriers w.ask) same (subst (IsOther carriers) (sym e) f))
  | inr later ↦ (let w = ih d later in (Contains-tail c cs d w.0, w.1))
]
member_other carriers limit known c cs (last_near y at float) e f ih d h = elim (Contains-cons_cases c (others_of cs) d h) [
  | inl same ↦ (subst (Contains (c ∷ cs)) same (Contains-head c cs), subst (λ (w : AskedCondition). IsOther carriers w.ask) same (subst (IsOther carriers) (sym e) f))
  | inr later ↦ (let w = ih d later in (Contains-tail c cs d w.0, w.1))
]

others_in : (carriers limit : ℕ) (known : List Needle) (cs : List AskedCondition) → ((c : AskedCondition) → Contains cs c → AskFits carriers limit known c.ask) →
    (d : AskedCondition) → Contains (others_of cs) d → Contains cs d × IsOther carriers d.ask
others_in carriers limit known [] fit d h = absurd (Contains-none d h)
others_in carriers limit known (c ∷ cs) fit d h =
    member_other carriers limit known c cs c.ask refl (fit c (Contains-head c cs)) (others_in carriers limit known cs (λ x k. fit x (Contains-tail c cs x k))) d h

others_irredundant_at : (carriers limit : ℕ) (known : List Needle) (c : AskedCondition) (cs : List AskedCondition) (q : Ask) →
    ((d : AskedCondition) → Contains (others_of cs) d → bearing c.ask d.ask ≡ Silent) → IsIrredundant (others_of cs) → IsIrredundant (others_from c q (others_of cs))
others_irredundant_at carriers limit known c cs (size_at_most names most) h ih = ih
others_irredundant_at carriers limit known c cs (rack_is x) h ih = (h, ih)
others_irredundant_at carriers limit known c cs hook_free h ih = (h, ih)
others_irredundant_at carriers limit known c cs (hook_is x) h ih = (h, ih)
others_irredundant_at carriers limit known c cs (carrier_in x) h ih = (h, ih)
others_irredundant_at carriers limit known c cs (carrier_out x) h ih = (h, ih)
others_irredundant_at carriers limit known c cs (hook_lacks x) h ih = (h, ih)
others_irredundant_at carriers limit known c cs (last_near d at float) h ih = (h, ih)

others_irredundant : (carriers limit : ℕ) (known : List Needle) (cs : List AskedCondition) → ((c : AskedCondition) → Contains cs c → AskFits carriers limit known c.ask) → IsIrredundant cs → IsIrredundant (others_of cs)
others_irredundant carriers limit known [] fit h = tt
others_irredundant carriers limit known (c ∷ cs) fit h =
    others_irredundant_at carriers limit known c cs c.ask
    (λ d k. h.0 d (others_in carriers limit known cs (λ x j. fit x (Contains-tail c cs x j)) d k).0)
    (others_irredundant carriers limit known cs (λ x j. fit x (Contains-tail c cs x j)) h.1)

irredundant_at : (cs : List AskedCondition) (d : AskedCondition) (k l : ℕ) → IsIrredundant cs → l < k → k < length cs → bearing (get_or cs l d).ask (get_or cs k d).ask ≡ Silent
irredundant_at [] d k l h lt le = absurd (omega arith)
irredundant_at (c ∷ cs) d zero l h lt le = absurd (omega arith)
irredundant_at (c ∷ cs) d (suc k) zero h lt le = h.0 (get_or cs k d) (Contains-get_or cs k d (omega arith))
irredundant_at (c ∷ cs) d (suc k) (suc l) h lt le = irredundant_at cs d k l h.1 (omega arith) (omega arith)

-- How many other conditions there can be.
pub others_bound : (carriers limit : ℕ) (known : List Needle) (cs : List AskedCondition) (none : AskedCondition) → ((c : AskedCondition) → Contains cs c → AskFits carriers limit known c.ask) →
    ((c d : AskedCondition) → Contains cs c → Contains cs d → AgreeOnLast c.ask d.ask) → IsIrredundant cs →
    length (others_of cs) ≤ 2 + 3 * carriers
others_bound carriers limit known cs none fit agree h =
    at_most_bound (λ k. number carriers (get_or (others_of cs) k none).ask) (length (others_of cs)) (2 + 3 * carriers)
    (λ k hk. number_below carriers (get_or (others_of cs) k none).ask (others_in carriers limit known cs fit (get_or (others_of cs) k none) (Contains-get_or (others_of cs) k none hk)).1)
    (λ k l hk hl e. speaks carriers (get_or (others_of cs) l none).ask (get_or (others_of cs) k none).ask
    (others_in carriers limit known cs fit (get_or (others_of cs) l none) (Contains-get_or (others_of cs) l none (omega arith))).1
    (others_in carriers limit known cs fit (get_or (others_of cs) k none) (Contains-get_or (others_of cs) k none hk)).1
    (agree (get_or (others_of cs) l none) (get_or (others_of cs) k none)
    (others_in carriers limit known cs fit (get_or (others_of cs) l none) (Contains-get_or (others_of cs) l none (omega arith))).0
    (others_in carriers limit known cs fit (get_or (others_of cs) k none) (Contains-get_or (others_of cs) k none hk)).0)
    (sym e) (irredundant_at (others_of cs) none k l (others_irredundant carriers limit known cs fit h) hl hk))

no_asked : AskedCondition
no_asked = record { fault = record { line = 0; reason = record { rule = NotAligned; at = 0 } }; ask = hook_free }

split_from : (c : AskedCondition) (cs : List AskedCondition) (q : Ask) → check_items cs ≡ length (others_of cs) + size_items (sizes_of cs) →
    ask_items q + check_items cs ≡ length (others_from c q (others_of cs)) + size_items (sized_from q (sizes_of cs))
split_from c cs (size_at_most names most) ih =
    omega (arith, ih, sum_by-cons (λ (s : Sized). 1 + length s.names) (record { names = names; most = most }) (sizes_of cs))
split_from c cs (rack_is x) ih = omega (arith, ih)
split_from c cs (carrier_in x) ih = omega (arith, ih)
split_from c cs (carrier_out x) ih = omega (arith, ih)
split_from c cs hook_free ih = omega (arith, ih)
split_from c cs (hook_is x) ih = omega (arith, ih)
split_from c cs (hook_lacks x) ih = omega (arith, ih)
split_from c cs (last_near d at float) ih = omega (arith, ih)

-- the conditions on sizes and the others
check_split : (cs : List AskedCondition) → check_items cs ≡ length (others_of cs) + size_items (sizes_of cs)
check_split [] = refl
check_split (c ∷ cs) = sum_by-cons (λ (d : AskedCondition). ask_items d.ask) c cs ∙ split_from c cs c.ask (check_split cs)

-- the changes and their segments
change_split : (cs : List Changed) → change_items cs ≡ length cs + seg_items cs
change_split [] = refl
change_split (c ∷ cs) =
    omega (arith, change_split cs, sum_by-cons (λ (d : Changed). 1 + length d.1) c cs, sum_by-cons (λ (d : Changed). length d.1) c cs)

-- A good summary has at most so many items.
pub items_bound : (carriers limit : ℕ) (known : List Needle) (f : Summary) → IsGood carriers limit known f → items f ≤ most_items carriers limit (length known)
items_bound carriers limit known f g =
    omega (
      arith,
      check_split f.checks,
      others_bound carriers limit known f.checks no_asked g.fair.asks_fit g.fair.agree g.irredundant,
      size_items_bound carriers limit known f g,
      change_split f.changes,
      change_items_bound carriers limit known f g,
      ending_bound carriers f f.ending g.fair.ending,
      lasts_bound carriers f.lasts g.fair.lasts_in_order g.fair.lasts_fit,
    )
