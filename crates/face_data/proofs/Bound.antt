-- A good summary has at most (limit + 1) (2 t - 1) conditions on sizes, for t needles.
use Rattle.std.proofs.Common.{◌≡◌, ◌≢◌, ℕ, zero, suc, ◌+◌, ◌-◌, ◌*◌, ◌≤◌, ◌<◌, Bool, true, false, List, [], ◌∷◌, length, get_or, refl, sym, ap, subst, arith, inl, inr}
use Rattle.std.specs.Prelude.{nat_eq, pos}
use Rattle.std.specs.List.{Contains, list_any, IsDistinct as DistinctBy, AllByRecursion}
use Rattle.std.specs.Cmp.{IsEquivalence, decided}
use Rattle.std.proofs.lemmas.Bool.{true≢false, eqb-true, ne_eqb, or_cases, cases_order}
use Rattle.std.proofs.lemmas.Map.Steps.{length-le_from_distinct_below}
use Rattle.std.proofs.lemmas.Map.Views.{Contains-from_any, list_any-from_Contains}
use Rattle.std.proofs.Math.Nat.{mul-le-mul_right}
use Rattle.knit_base.specs.Needle.{same_needle, same_needle-true}
use Rattle.face_data.proofs.Members.{Contains-none, Contains-head, Contains-cons_cases}
use Rattle.face_data.proofs.Marks.{IsFamily, IsIn, set_code, code_below, same_code}
use Rattle.knit_base.specs.declared.needle.Needle.{Needle}
use Rattle.knit_base.specs.declared.needle.Bed.TheVariants.{Front}
use Rattle.face_data.specs.Sets.{AreNeedlesWithin, NestedOrApart}
use Rattle.knit_base.proofs.Needles.{Decides-same_needle}

abbrev upto : (ℕ → ℕ) → ℕ → List ℕ
upto f zero = []
upto f (suc n) = f n ∷ upto f n

length-upto : (f : ℕ → ℕ) (n : ℕ) → length (upto f n) ≡ n
length-upto f zero = refl
length-upto f (suc n) = omega (arith, length-upto f n)

upto_other : (f : ℕ → ℕ) (n m : ℕ) (q : ℕ) → m ≤ n → ((k : ℕ) → k < m → q ≢ f k) → AllByRecursion (λ y. nat_eq q y ≡ false) (upto f m)
upto_other f n zero q h other = tt
upto_other f n (suc m) q h other = (ne_eqb q (f m) (other m (omega arith)), upto_other f n m q (omega arith) (λ k j. other k (omega arith)))

upto_distinct : (f : ℕ → ℕ) (n : ℕ) → ((k l : ℕ) → k < n → l < k → f k ≢ f l) → DistinctBy nat_eq (upto f n)
unfolding DistinctBy
upto_distinct f zero h = tt
upto_distinct f (suc n) h = (upto_other f n n (f n) (omega arith) (λ k j. h n k (omega arith) j), upto_distinct f n (λ k l hk hl. h k l (omega arith) hl))

upto_below : (f : ℕ → ℕ) (n bound q : ℕ) → ((k : ℕ) → k < n → f k < bound) → list_any (nat_eq q) (upto f n) ≡ true → q < bound
upto_below f zero bound q h e = absurd (true≢false (sym e))
upto_below f (suc n) bound q h e = elim (or_cases (nat_eq q (f n)) (list_any (nat_eq q) (upto f n)) e) [
  | inl same ↦ (let is : q ≡ f n = eqb-true q (f n) same in omega (arith, h n (omega arith)))
  | inr later ↦ upto_below f n bound q (λ k j. h k (omega arith)) later
]

-- different numbers below a bound are at most as many as the bound
pub at_most_bound : (f : ℕ → ℕ) (n bound : ℕ) → ((k : ℕ) → k < n → f k < bound) → ((k l : ℕ) → k < n → l < k → f k ≢ f l) → n ≤ bound
at_most_bound f n bound below other =
    omega (arith, length-upto f n, length-le_from_distinct_below (upto f n) bound (upto_distinct f n other) (λ q e. upto_below f n bound q below e))

-- being one needle is an equivalence
pub needle_laws : IsEquivalence same_needle
needle_laws = decided same_needle Decides-same_needle

-- a needle where none is named
pub no_needle : Needle
no_needle = record { bed = Front; at = pos 0 }

-- the needles and the maximum of a condition on sizes
pub record Sized : Type 0 where
  pub names : List Needle
  pub most : ℕ

-- a condition where there is none
pub no_size : Sized
no_size = record { names = []; most = 0 }

-- the needles of the condition at a place
abbrev pub names_at : List Sized → ℕ → List Needle
names_at ss k = (get_or ss k no_size).names

-- its maximum
abbrev pub most_at : List Sized → ℕ → ℕ
most_at ss k = (get_or ss k no_size).most

-- conditions on sizes over known needles, any two nested or apart, none implied by an earlier one
pub record AreSizes (limit : ℕ) (known : List Needle) (ss : List Sized) : Type 0 where
  pub some : (k : ℕ) → k < length ss → 1 ≤ length (names_at ss k)
  pub within : (k : ℕ) → k < length ss → AreNeedlesWithin (names_at ss k) known
  pub at_most : (k : ℕ) → k < length ss → most_at ss k ≤ limit
  pub nested : (k l : ℕ) → k < length ss → l < length ss → NestedOrApart (names_at ss k) (names_at ss l)
  pub needed : (k l : ℕ) → k < l → l < length ss → AreNeedlesWithin (names_at ss l) (names_at ss k) → most_at ss k ≤ most_at ss l → ⊥

-- whether set k contains_carrier the needle at place i
abbrev pub mem_at : List Needle → List Sized → ℕ → ℕ → Bool
mem_at known ss k i = list_any (same_needle (get_or known i no_needle)) (names_at ss k)

mem_from : (known : List Needle) (ss : List Sized) (k i : ℕ) → Contains (names_at ss k) (get_or known i no_needle) → mem_at known ss k i ≡ true
mem_from known ss k i h = list_any-from_Contains needle_laws (get_or known i no_needle) (names_at ss k) h

from_mem : (known : List Needle) (ss : List Sized) (k i : ℕ) → mem_at known ss k i ≡ true → Contains (names_at ss k) (get_or known i no_needle)
from_mem known ss k i e = Contains-from_any {eq = same_needle} same_needle-true (get_or known i no_needle) (names_at ss k) e

-- the place of a known needle
place_of : (known : List Needle) (n : Needle) → Contains known n → (i : ℕ) × (i < length known) × (get_or known i no_needle ≡ n)
place_of [] n h = absurd (Contains-none n h)
place_of (x ∷ known) n h = elim (Contains-cons_cases x known n h) [
  | inl same ↦ (0, omega arith, same)
  | inr later ↦ (let w = place_of known n later in (suc w.0, omega arith, w.2))
]

some_of : (xs : List Needle) → 1 ≤ length xs → (n : Needle) × Contains xs n
some_of [] h = absurd (omega arith)
some_of (x ∷ xs) h = (x, Contains-head x xs)

-- what is true of needles, of their places
in_from_within : (known : List Needle) (ss : List Sized) (k l : ℕ) → AreNeedlesWithin (names_at ss k) (names_at ss l) → IsIn (length known) (length ss) (mem_at known ss) k l
in_from_within known ss k l w i small e = mem_from known ss l i (w (get_or known i no_needle) (from_mem known ss k i e))

within_from_in : (limit : ℕ) (known : List Needle) (ss : List Sized) (k l : ℕ) → AreSizes limit known ss → k < length ss →
    IsIn (length known) (length ss) (mem_at known ss) k l → AreNeedlesWithin (names_at ss k) (names_at ss l)
within_from_in limit known ss k l h hk w n there =
    let p = place_of known n (h.within k hk n there) in
    subst (Contains (names_at ss l)) p.2 (from_mem known ss l p.0 (w p.0 p.1 (mem_from known ss k p.0 (subst (Contains (names_at ss k)) (sym p.2) there))))

family : (limit : ℕ) (known : List Needle) (ss : List Sized) → AreSizes limit known ss → IsFamily (length known) (length ss) (mem_at known ss)
family limit known ss h = record {
  some = λ k hk.
      let n = some_of (names_at ss k) (h.some k hk) in
      let p = place_of known n.0 (h.within k hk n.0 n.1) in
      (p.0, p.1, mem_from known ss k p.0 (subst (Contains (names_at ss k)) (sym p.2) n.1));
  nested = λ k l hk hl. elim (h.nested k l hk hl) [
    | inl a ↦ inl (in_from_within known ss k l a)
    | inr rest ↦ elim rest [
      | inl b ↦ inr (inl (in_from_within known ss l k b))
      | inr apart ↦ inr (inr (λ i small e g. apart (get_or known i no_needle) (from_mem known ss k i e) (from_mem known ss l i g)))
    ]
  ];
}

-- a number for each condition: by its set and then by its maximum
abbrev number_of : ℕ → List Needle → List Sized → ℕ → ℕ
number_of limit known ss k = set_code (length known) (length ss) (mem_at known ss) k * (limit + 1) + most_at ss k

same_digits : (a b p q c : ℕ) → p < c → q < c → a * c + p ≡ b * c + q → (a ≡ b) × (p ≡ q)
same_digits a b p q c hp hq e = elim (cases_order a b) [
  | inl same ↦ (same, omega (arith, e, ap (λ x. x * c) same))
  | inr rest ↦ elim rest [
    | inl below ↦ (let m : (a + 1) * c ≤ b * c = mul-le-mul_right c (let more : a + 1 ≤ b = omega (arith, below) in more) in absurd (omega (arith, m, e, hp)))
    | inr above ↦ (let m : (b + 1) * c ≤ a * c = mul-le-mul_right c (let more : b + 1 ≤ a = omega (arith, above) in more) in absurd (omega (arith, m, e, hq)))
  ]
]

-- How many conditions on sizes there can be.
pub sizes_bound : (limit : ℕ) (known : List Needle) (ss : List Sized) → AreSizes limit known ss → length ss ≤ (2 * length known - 1) * (limit + 1)
sizes_bound limit known ss h = at_most_bound (number_of limit known ss) (length ss) ((2 * length known - 1) * (limit + 1))
    (λ k hk.
    let c = set_code (length known) (length ss) (mem_at known ss) k in
    let below = code_below (length known) (length ss) (mem_at known ss) (family limit known ss h) k hk in
    let more : c + 1 ≤ 2 * length known - 1 = omega (arith, below) in
    let m : (c + 1) * (limit + 1) ≤ (2 * length known - 1) * (limit + 1) = mul-le-mul_right (limit + 1) more in
    omega (arith, m, h.at_most k hk))
    (λ k l hk hl e.
    let both = same_digits (set_code (length known) (length ss) (mem_at known ss) k) (set_code (length known) (length ss) (mem_at known ss) l) (most_at ss k) (most_at ss l) (limit + 1)
    (omega (arith, h.at_most k hk)) (omega (arith, h.at_most l (omega arith))) e in
    let same = same_code (length known) (length ss) (mem_at known ss) (family limit known ss h) k l hk (omega arith) both.0 in
    h.needed l k hl hk (within_from_in limit known ss k l h hk same.0) (omega (arith, both.1)))
