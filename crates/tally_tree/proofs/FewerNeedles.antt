-- A rising list has no more needles than another one that has them all, and so no tally costs more than that of more lines.
use Rattle.std.proofs.Common.{◌≡◌, ◌∙◌, inl, inr, ℕ, ◌≤◌, List, [], ◌∷◌, length, ap, sym, subst, refl, arith}
use Rattle.std.specs.Prelude.{flat_map}
use Rattle.std.specs.List.{Contains}
use Rattle.std.specs.Ordering.{ordering_reverse}
use Rattle.std.specs.declared.cmp.Ordering.TheVariants.{Less, Equal}
use Rattle.knit_base.specs.Needle.{needle_cmp, needle_cmp_total}
use Rattle.knit_base.specs.declared.instr.Read.{Read}
use Rattle.knit_base.specs.declared.needle.Needle.{Needle}
use Rattle.knit_base.proofs.Needles.{needle_cmp-equal, needle_cmp-refl}
use Rattle.tally_tree.specs.Laws.{with_each_long}
use Rattle.tally_tree.specs.Merging.{Contains-cons_cases, Contains-head, Contains-tail, no_member, order_cases}
use Rattle.tally_tree.specs.Needles.{AreNeedlesRising, IsBelowNeedles}
use Rattle.tally_tree.specs.Tallies.{TallyCounts, IsTallyOf, cost, operated_on}

-- no needle is less than itself
not_less : (n m : Needle) → n ≡ m → needle_cmp n m ≡ Less → ⊥
not_less n m same less = let equal : needle_cmp n m ≡ Equal = ap (needle_cmp n) (sym same) ∙ needle_cmp-refl n in cc

below_next : (k m : Needle) (ms : List Needle) → needle_cmp k m ≡ Less → IsBelowNeedles m ms → IsBelowNeedles k ms
below_next k m [] less above = tt
below_next k m (p ∷ ps) less above = needle_cmp_total.trans k m p less above

-- a needle below the first of a rising list is below each
below_each : (k : Needle) (ns : List Needle) → IsBelowNeedles k ns → AreNeedlesRising ns → (n : Needle) → Contains ns n → needle_cmp k n ≡ Less
below_each k [] above r n within = absurd (no_member n within)
below_each k (m ∷ ms) above r n within = elim (Contains-cons_cases m ms n within) [
  | inl same ↦ subst (λ w. needle_cmp k w ≡ Less) same above
  | inr later ↦ below_each k ms (below_next k m ms above r.0) r.1 n later
]

-- a greater needle than the first is among the others
among_others : (m n : Needle) (ms : List Needle) → needle_cmp m n ≡ Less → Contains (m ∷ ms) n → Contains ms n
among_others m n ms less within = elim (Contains-cons_cases m ms n within) [
  | inl same ↦ absurd (not_less m n same less)
  | inr later ↦ later
]

pub no_more_needles : (ns ms : List Needle) → AreNeedlesRising ns → AreNeedlesRising ms → ((n : Needle) → Contains ns n → Contains ms n) → length ns ≤ length ms
no_more_needles [] ms r s within = omega arith
no_more_needles (n ∷ ns) [] r s within = absurd (no_member n (within n (Contains-head n ns)))
no_more_needles (n ∷ ns) (m ∷ ms) r s within = elim (order_cases (needle_cmp n m)) [
  | inl less ↦ absurd (not_less n n refl (below_each n (m ∷ ms) less s n (within n (Contains-head n ns))))
  | inr more ↦ elim more [
    | inl equal ↦
        let below : (k : Needle) → Contains ns k → needle_cmp m k ≡ Less = λ k h. subst (λ w. needle_cmp w k ≡ Less) (needle_cmp-equal n m equal) (below_each n ns r.0 r.1 k h) in
        let rest = no_more_needles ns ms r.1 s.1 (λ k h. among_others m k ms (below k h) (within k (Contains-tail n ns k h))) in
        omega (arith, rest)
    | inr greater ↦
        let first : needle_cmp m n ≡ Less = needle_cmp_total.antisymm m n ∙ ap ordering_reverse greater in
        let rest = no_more_needles (n ∷ ns) ms r s.1 (λ k h. among_others m k ms (below_each m (n ∷ ns) first r k h) (within k h)) in
        omega (arith, rest)
  ]
]

-- fewer lines cost no more
pub costs_no_more : (carriers : ℕ) (some all : List Read) (v w : TallyCounts) → IsTallyOf carriers some v → IsTallyOf carriers all w → ((n : Needle) → Contains (flat_map operated_on some) n → Contains (flat_map operated_on all) n) → cost v ≤ cost w
costs_no_more carriers some all v w t u within =
    let few = no_more_needles v.needles w.needles t.rising u.rising (λ n h. (u.needles n).1 (within n ((t.needles n).0 h))) in
    omega (arith, few, with_each_long carriers some v t, with_each_long carriers all w u)
