-- What merging two rising lists of needles gives.
use Rattle.std.proofs.Common.{◌≡◌, ◌∙◌, ◌⊎◌, inl, inr, ◌+◌, ◌<◌, ◌≤◌, List, [], ◌∷◌, length, ap, sym, subst, refl, arith}
use Rattle.std.specs.List.{Contains}
use Rattle.std.proofs.lemmas.List.Elements.{Contains-push_cases, Contains-append_cases, Contains-append_left, Contains-append_right, Contains-push}
use Rattle.std.specs.declared.cmp.Ordering.{Ordering}
use Rattle.std.specs.declared.cmp.Ordering.TheVariants.{Less, Equal, Greater}
use Rattle.std.specs.Ordering.{ordering_reverse}
use Rattle.knit_base.specs.Needle.{needle_cmp, needle_cmp_total}
use Rattle.knit_base.specs.declared.needle.Needle.{Needle}
use Rattle.knit_base.proofs.Needles.{needle_cmp-equal}
use Rattle.tally_tree.specs.Needles.{AreNeedlesRising, IsBelowNeedles, choose_by_order, merged_needles, merged_into}

-- nothing is merged with no needle
pub merged_none : (ns : List Needle) → merged_needles ns [] ≡ ns
merged_none [] = refl
merged_none (n ∷ ns) = ap (λ ms. n ∷ ms) (merged_none ns)

-- the first of the one list is first
pub merged_less : (n m : Needle) (ns ms : List Needle) → needle_cmp n m ≡ Less → merged_needles (n ∷ ns) (m ∷ ms) ≡ n ∷ merged_needles ns (m ∷ ms)
merged_less n m ns ms e = ap (λ o. choose_by_order o (n ∷ merged_needles ns (m ∷ ms)) (n ∷ merged_needles ns ms) (m ∷ merged_into n (merged_needles ns) ms)) e

-- both are
pub merged_equal : (n m : Needle) (ns ms : List Needle) → needle_cmp n m ≡ Equal → merged_needles (n ∷ ns) (m ∷ ms) ≡ n ∷ merged_needles ns ms
merged_equal n m ns ms e = ap (λ o. choose_by_order o (n ∷ merged_needles ns (m ∷ ms)) (n ∷ merged_needles ns ms) (m ∷ merged_into n (merged_needles ns) ms)) e

-- that of the other is
pub merged_greater : (n m : Needle) (ns ms : List Needle) → needle_cmp n m ≡ Greater → merged_needles (n ∷ ns) (m ∷ ms) ≡ m ∷ merged_needles (n ∷ ns) ms
merged_greater n m ns ms e = ap (λ o. choose_by_order o (n ∷ merged_needles ns (m ∷ ms)) (n ∷ merged_needles ns ms) (m ∷ merged_into n (merged_needles ns) ms)) e

-- an order is one of three
pub order_cases : (o : Ordering) → (o ≡ Less) ⊎ (o ≡ Equal) ⊎ (o ≡ Greater)
order_cases Less = inl refl
order_cases Equal = inr (inl refl)
order_cases Greater = inr (inr refl)

-- a needle below both fronts is below what they are merged to
above_merged : (k : Needle) (ns ms : List Needle) → IsBelowNeedles k ns → IsBelowNeedles k ms → IsBelowNeedles k (merged_needles ns ms)
above_merged k [] ms a b = b
above_merged k (n ∷ ns) [] a b = a
above_merged k (n ∷ ns) (m ∷ ms) a b = elim (order_cases (needle_cmp n m)) [
  | inl less ↦ subst (IsBelowNeedles k) (sym (merged_less n m ns ms less)) a
  | inr more ↦ elim more [
    | inl equal ↦ subst (IsBelowNeedles k) (sym (merged_equal n m ns ms equal)) a
    | inr greater ↦ subst (IsBelowNeedles k) (sym (merged_greater n m ns ms greater)) b
  ]
]

-- an order read from the other side
flipped : (n m : Needle) → needle_cmp n m ≡ Greater → needle_cmp m n ≡ Less
flipped n m e = needle_cmp_total.antisymm m n ∙ ap ordering_reverse e

-- two rising lists are merged to a rising one
pub rising_merged : (ns ms : List Needle) → AreNeedlesRising ns → AreNeedlesRising ms → AreNeedlesRising (merged_needles ns ms)
rising_merged [] ms r s = s
rising_merged (n ∷ ns) [] r s = subst AreNeedlesRising (sym (ap (λ t. n ∷ t) (merged_none ns))) r
rising_merged (n ∷ ns) (m ∷ ms) r s = elim (order_cases (needle_cmp n m)) [
  | inl less ↦ subst AreNeedlesRising (sym (merged_less n m ns ms less)) (above_merged n ns (m ∷ ms) r.0 less, rising_merged ns (m ∷ ms) r.1 s)
  | inr more ↦ elim more [
    | inl equal ↦
        let same : n ≡ m = needle_cmp-equal n m equal in
        subst AreNeedlesRising (sym (merged_equal n m ns ms equal)) (above_merged n ns ms r.0 (subst (λ k. IsBelowNeedles k ms) (sym same) s.0), rising_merged ns ms r.1 s.1)
    | inr greater ↦ subst AreNeedlesRising (sym (merged_greater n m ns ms greater)) (above_merged m (n ∷ ns) ms (flipped n m greater) s.0, rising_merged (n ∷ ns) ms r s.1)
  ]
]

-- nothing is in an empty list
no_member_of : {X : Type 0} (x : X) → Contains [] x → ⊥
no_member_of x h = let k : h.0 < 0 = h.1 in absurd (omega arith)

pub no_member : (k : Needle) → Contains [] k → ⊥
no_member k h = no_member_of k h

-- the first item is in a list
pub Contains-head : {X : Type 0} (y : X) (xs : List X) → Contains (y ∷ xs) y
Contains-head y xs = Contains-append_left (y ∷ []) xs y (Contains-push [] y)

-- an item of the rest
pub Contains-tail : {X : Type 0} (y : X) (xs : List X) (x : X) → Contains xs x → Contains (y ∷ xs) x
Contains-tail y xs x h = Contains-append_right (y ∷ []) xs x h

-- what is in a list is the first item or in the rest
pub Contains-cons_cases : {X : Type 0} (y : X) (xs : List X) (x : X) → Contains (y ∷ xs) x → (y ≡ x) ⊎ Contains xs x
Contains-cons_cases y xs x h = go (Contains-append_cases (y ∷ []) xs x h)
  where
    alone : Contains [] x ⊎ (y ≡ x) → (y ≡ x) ⊎ Contains xs x
    alone (inl none) = absurd (no_member_of x none)
    alone (inr e) = inl e

    go : Contains (y ∷ []) x ⊎ Contains xs x → (y ≡ x) ⊎ Contains xs x
    go (inl h) = alone (Contains-push_cases [] y x h)
    go (inr h) = inr h

-- a needle is among the merged ones where it is in one of the lists
pub in_merged : (ns ms : List Needle) (k : Needle) → Contains (merged_needles ns ms) k → Contains ns k ⊎ Contains ms k
in_merged [] ms k h = inr h
in_merged (n ∷ ns) [] k h = inl (subst (λ t. Contains (n ∷ t) k) (merged_none ns) h)
in_merged (n ∷ ns) (m ∷ ms) k h = elim (order_cases (needle_cmp n m)) [
  | inl less ↦ elim (Contains-cons_cases n (merged_needles ns (m ∷ ms)) k (subst (λ t. Contains t k) (merged_less n m ns ms less) h)) [
    | inl same ↦ inl (subst (Contains (n ∷ ns)) same (Contains-head n ns))
    | inr later ↦ elim (in_merged ns (m ∷ ms) k later) [ inl w ↦ inl (Contains-tail n ns k w) | inr w ↦ inr w ]
  ]
  | inr more ↦ elim more [
    | inl equal ↦ elim (Contains-cons_cases n (merged_needles ns ms) k (subst (λ t. Contains t k) (merged_equal n m ns ms equal) h)) [
      | inl same ↦ inl (subst (Contains (n ∷ ns)) same (Contains-head n ns))
      | inr later ↦ elim (in_merged ns ms k later) [ inl w ↦ inl (Contains-tail n ns k w) | inr w ↦ inr (Contains-tail m ms k w) ]
    ]
    | inr greater ↦ elim (Contains-cons_cases m (merged_needles (n ∷ ns) ms) k (subst (λ t. Contains t k) (merged_greater n m ns ms greater) h)) [
      | inl same ↦ inr (subst (Contains (m ∷ ms)) same (Contains-head m ms))
      | inr later ↦ elim (in_merged (n ∷ ns) ms k later) [ inl w ↦ inl w | inr w ↦ inr (Contains-tail m ms k w) ]
    ]
  ]
]

-- what is in the one list is among the merged ones
pub first_in_merged : (ns ms : List Needle) (k : Needle) → Contains ns k → Contains (merged_needles ns ms) k
first_in_merged [] ms k h = absurd (no_member k h)
first_in_merged (n ∷ ns) [] k h = subst (λ t. Contains (n ∷ t) k) (sym (merged_none ns)) h
first_in_merged (n ∷ ns) (m ∷ ms) k h = elim (order_cases (needle_cmp n m)) [
  | inl less ↦ subst (λ t. Contains t k) (sym (merged_less n m ns ms less)) (elim (Contains-cons_cases n ns k h) [
    | inl same ↦ subst (Contains (n ∷ merged_needles ns (m ∷ ms))) same (Contains-head n (merged_needles ns (m ∷ ms)))
    | inr later ↦ Contains-tail n (merged_needles ns (m ∷ ms)) k (first_in_merged ns (m ∷ ms) k later)
  ])
  | inr more ↦ elim more [
    | inl equal ↦ subst (λ t. Contains t k) (sym (merged_equal n m ns ms equal)) (elim (Contains-cons_cases n ns k h) [
      | inl same ↦ subst (Contains (n ∷ merged_needles ns ms)) same (Contains-head n (merged_needles ns ms))
      | inr later ↦ Contains-tail n (merged_needles ns ms) k (first_in_merged ns ms k later)
    ])
    | inr greater ↦ subst (λ t. Contains t k) (sym (merged_greater n m ns ms greater)) (Contains-tail m (merged_needles (n ∷ ns) ms) k (first_in_merged (n ∷ ns) ms k h))
  ]
]

-- what is in the other is, too
pub second_in_merged : (ns ms : List Needle) (k : Needle) → Contains ms k → Contains (merged_needles ns ms) k
second_in_merged [] ms k h = h
second_in_merged (n ∷ ns) [] k h = absurd (no_member k h)
second_in_merged (n ∷ ns) (m ∷ ms) k h = elim (order_cases (needle_cmp n m)) [
  | inl less ↦ subst (λ t. Contains t k) (sym (merged_less n m ns ms less)) (Contains-tail n (merged_needles ns (m ∷ ms)) k (second_in_merged ns (m ∷ ms) k h))
  | inr more ↦ elim more [
    | inl equal ↦ subst (λ t. Contains t k) (sym (merged_equal n m ns ms equal)) (elim (Contains-cons_cases m ms k h) [
      | inl same ↦ subst (Contains (n ∷ merged_needles ns ms)) (needle_cmp-equal n m equal ∙ same) (Contains-head n (merged_needles ns ms))
      | inr later ↦ Contains-tail n (merged_needles ns ms) k (second_in_merged ns ms k later)
    ])
    | inr greater ↦ subst (λ t. Contains t k) (sym (merged_greater n m ns ms greater)) (elim (Contains-cons_cases m ms k h) [
      | inl same ↦ subst (Contains (m ∷ merged_needles (n ∷ ns) ms)) same (Contains-head m (merged_needles (n ∷ ns) ms))
      | inr later ↦ Contains-tail m (merged_needles (n ∷ ns) ms) k (second_in_merged (n ∷ ns) ms k later)
    ])
  ]
]

-- there are no more of them than of both
pub few_merged : (ns ms : List Needle) → length (merged_needles ns ms) ≤ length ns + length ms
few_merged [] ms = omega arith
few_merged (n ∷ ns) [] = omega (arith, ap length (merged_none ns))
few_merged (n ∷ ns) (m ∷ ms) = elim (order_cases (needle_cmp n m)) [
  | inl less ↦ omega (arith, ap length (merged_less n m ns ms less), few_merged ns (m ∷ ms))
  | inr more ↦ elim more [
    | inl equal ↦ omega (arith, ap length (merged_equal n m ns ms equal), few_merged ns ms)
    | inr greater ↦ omega (arith, ap length (merged_greater n m ns ms greater), few_merged (n ∷ ns) ms)
  ]
]
