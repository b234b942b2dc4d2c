-- How many different sets a family has in which any two are nested or apart: at most 2 t - 1 over t places.
use Rattle.std.proofs.Common.{◌≡◌, ◌≢◌, ℕ, zero, suc, ◌+◌, ◌-◌, ◌*◌, ◌≤◌, ◌<◌, Bool, true, false, not, ◌&&◌, ◌||◌, refl, sym, ap, ◌∙◌, subst, arith, inl, inr, ◌⊎◌}
use Rattle.std.specs.Prelude.{if◌then◌else◌, nat_eq, nat_lt}
use Rattle.std.proofs.lemmas.Bool.{true≢false, and_parts, and_from, not-true, ltb-true, ltb-false, lt-ltb, le-ltb, eqb-true, eqb-false, eq-eqb, ne_eqb, cases_Bool, or_cases, cases_lt, cases_eq}

-- the least number below n that passes, or n where none does
unfoldable pub first : (ℕ → Bool) → ℕ → ℕ
first p zero = zero
first p (suc n) = if nat_lt (first p n) n then first p n else (if p n then n else suc n)

-- the number is the least below n that passes, or n
pub record IsFirst (p : ℕ → Bool) (n f : ℕ) : Type 0 where
  pub at_most : f ≤ n
  pub before : (i : ℕ) → i < f → p i ≡ false
  pub here : f < n → p f ≡ true

first_step : (p : ℕ → Bool) (n f : ℕ) (b c : Bool) → nat_lt f n ≡ b → p n ≡ c → IsFirst p n f → IsFirst p (suc n) (if b then f else (if c then n else suc n))
first_step p n f true c e g h = record {
  at_most = omega (arith, ltb-true f n e);
  before = h.before;
  here = λ k. h.here (ltb-true f n e);
}
first_step p n f false true e g h = record {
  at_most = omega arith;
  before = λ i k. h.before i (omega (arith, ltb-false f n e, h.at_most));
  here = λ k. g;
}
first_step p n f false false e g h = record {
  at_most = omega arith;
  before = λ i k. elim (cases_lt i n) [
    | inl below ↦ h.before i (omega (arith, ltb-false f n e, h.at_most))
    | inr above ↦ (let same : n ≡ i = omega arith in subst (λ j. p j ≡ false) same g)
  ];
  here = λ k. absurd (omega arith);
}

-- what was found is the least
pub first_is : (p : ℕ → Bool) (n : ℕ) → IsFirst p n (first p n)
unfolding first
first_is p zero = record { at_most = omega arith; before = λ i k. absurd (omega arith); here = λ k. absurd (omega arith) }
first_is p (suc n) = first_step p n (first p n) (nat_lt (first p n) n) (p n) refl refl (first_is p n)

-- no number that passes is less
pub first_least : (p : ℕ → Bool) (n i : ℕ) → i < n → p i ≡ true → first p n ≤ i
first_least p n i h e = elim (cases_lt i (first p n)) [
  | inl below ↦ absurd (true≢false (sym e ∙ (first_is p n).before i below))
  | inr above ↦ above
]

not_true : (b : Bool) → not b ≡ true → b ≡ false
not_true b = not-true b

-- a family of n sets of numbers below t
module _ (t n : ℕ) (mem : ℕ → ℕ → Bool) where
  -- the one set lies within the other
  abbrev pub IsIn : ℕ → ℕ → Type 0
  IsIn k l = (i : ℕ) → i < t → mem k i ≡ true → mem l i ≡ true

  -- no member is in both
  abbrev pub AreApart : ℕ → ℕ → Type 0
  AreApart k l = (i : ℕ) → i < t → mem k i ≡ true → mem l i ≡ true → ⊥

  -- the least member, a member outside another set, a second member
  abbrev pub lowest : ℕ → ℕ
  lowest k = first (mem k) t

  -- the least member of the one set that is not in the other
  abbrev pub outside : ℕ → ℕ → ℕ
  outside k l = first (λ i. mem k i && not (mem l i)) t

  -- the least member but for the lowest
  abbrev pub second : ℕ → ℕ
  second k = first (λ i. mem k i && not (nat_eq i (lowest k))) t

  -- a set that holds the lowest member of k, and not all of k
  abbrev pub smaller : ℕ → ℕ → Bool
  smaller k l = mem l (lowest k) && nat_lt (outside k l) t

  -- the lowest member, and the members of such sets
  abbrev pub inner : ℕ → ℕ → Bool
  inner k i = nat_eq i (lowest k) || nat_lt (first (λ l. smaller k l && mem l i) n) n

  -- the first member that stands in none of them
  abbrev pub mark : ℕ → ℕ
  mark k = first (λ i. mem k i && not (inner k i)) t

  -- a set of one member contains_carrier that member's number, a larger one a number from t on by its mark
  abbrev pub set_code : ℕ → ℕ
  set_code k = if nat_lt (second k) t then t + mark k - 1 else lowest k

  -- each set has a member, and any two are nested or apart
  pub record IsFamily : Type 0 where
    pub some : (k : ℕ) → k < n → (i : ℕ) × (i < t) × (mem k i ≡ true)
    pub nested : (k l : ℕ) → k < n → l < n → IsIn k l ⊎ (IsIn l k ⊎ AreApart k l)

  lowest_in : IsFamily → (k : ℕ) → k < n → (lowest k < t) × (mem k (lowest k) ≡ true)
  lowest_in f k h =
      let w = f.some k h in
      let small : lowest k < t = omega (arith, first_least (mem k) t w.0 w.1 w.2, w.1) in
      (small, (first_is (mem k) t).here small)

  -- what is outside l
  outside_in : (k l : ℕ) → outside k l < t → (mem k (outside k l) ≡ true) × (mem l (outside k l) ≡ false)
  outside_in k l h =
      let both = and_parts (mem k (outside k l)) (not (mem l (outside k l))) ((first_is (λ i. mem k i && not (mem l i)) t).here h) in
      (both.0, not_true (mem l (outside k l)) both.1)

  -- a set is in another where nothing is outside
  in_from_outside : (k l : ℕ) → t ≤ outside k l → IsIn k l
  in_from_outside k l h i small m = elim (cases_Bool (mem l i)) [
    | inl yes_in ↦ yes_in
    | inr not_in ↦ absurd (true≢false (sym (and_from (mem k i) (not (mem l i)) m (ap not not_in)) ∙ (first_is (λ i. mem k i && not (mem l i)) t).before i (omega arith)))
  ]

  -- of the sets that are smaller than k, up to some number: none, or one that holds all others
  abbrev Greatest : ℕ → ℕ → Type 0
  Greatest k m = ((l : ℕ) → l < m → smaller k l ≡ false)
      ⊎ ((g : ℕ) × (g < n) × (smaller k g ≡ true) × ((l : ℕ) → l < m → smaller k l ≡ true → IsIn l g))

  smaller_parts : (k l : ℕ) → smaller k l ≡ true → (mem l (lowest k) ≡ true) × (outside k l < t)
  smaller_parts k l h =
      let both = and_parts (mem l (lowest k)) (nat_lt (outside k l) t) h in
      (both.0, ltb-true (outside k l) t both.1)

  greatest_step : IsFamily → (k m : ℕ) → k < n → m < n → (b : Bool) → smaller k m ≡ b → Greatest k m → Greatest k (suc m)
  greatest_step f k m hk hm false e (inl none) = inl (λ l h. elim (cases_lt l m) [
    | inl below ↦ none l below
    | inr above ↦ (let same : m ≡ l = omega arith in subst (λ j. smaller k j ≡ false) same e)
  ])
  greatest_step f k m hk hm true e (inl none) = inr (
    m,
    hm,
    e,
    λ l h is. elim (cases_lt l m) [
      | inl below ↦ absurd (true≢false (sym is ∙ none l below))
      | inr above ↦ (let same : m ≡ l = omega arith in subst (λ j. IsIn j m) same (λ i small x. x))
    ],
  )
  greatest_step f k m hk hm false e (inr g) = inr (
    g.0,
    g.1,
    g.2,
    λ l h is. elim (cases_lt l m) [
      | inl below ↦ g.3 l below is
      | inr above ↦ (let same : m ≡ l = omega arith in absurd (true≢false (sym is ∙ subst (λ j. smaller k j ≡ false) same e)))
    ],
  )
  greatest_step f k m hk hm true e (inr g) = elim (f.nested m g.0 hm g.1) [
    | inl m_in_g ↦ inr (
      g.0,
      g.1,
      g.2,
      λ l h is. elim (cases_lt l m) [
        | inl below ↦ g.3 l below is
        | inr above ↦ (let same : m ≡ l = omega arith in subst (λ j. IsIn j g.0) same m_in_g)
      ],
    )
    | inr rest ↦ elim rest [
      | inl g_in_m ↦ inr (
        m,
        hm,
        e,
        λ l h is. elim (cases_lt l m) [
          | inl below ↦ (λ i small x. g_in_m i small (g.3 l below is i small x))
          | inr above ↦ (let same : m ≡ l = omega arith in subst (λ j. IsIn j m) same (λ i small x. x))
        ],
      )
      | inr apart ↦ absurd (apart (lowest k) (lowest_in f k hk).0 (smaller_parts k m e).0 (smaller_parts k g.0 g.2).0)
    ]
  ]

  greatest : IsFamily → (k m : ℕ) → k < n → m ≤ n → Greatest k m
  greatest f k zero hk hm = inl (λ l h. absurd (omega arith))
  greatest f k (suc m) hk hm = greatest_step f k m hk (omega arith) (smaller k m) refl (greatest f k m hk (omega arith))

  -- not inner, where no smaller set holds i
  not_inner : (k i : ℕ) → i ≢ lowest k → ((l : ℕ) → l < n → smaller k l ≡ true → mem l i ≡ true → ⊥) → inner k i ≡ false
  not_inner k i other none = elim (cases_Bool (inner k i)) [
    | inr no_inner ↦ no_inner
    | inl is ↦ absurd (elim (or_cases (nat_eq i (lowest k)) (nat_lt (first (λ l. smaller k l && mem l i) n) n) is) [
      | inl same ↦ other (eqb-true i (lowest k) same)
      | inr found ↦ (let stop_at = first (λ l. smaller k l && mem l i) n in
          let below : stop_at < n = ltb-true stop_at n found in
          let both = and_parts (smaller k stop_at) (mem stop_at i) ((first_is (λ l. smaller k l && mem l i) n).here below) in
          none stop_at below both.0 both.1)
    ])
  ]

  mark_by : (k i : ℕ) → i < t → mem k i ≡ true → inner k i ≡ false → mark k < t
  mark_by k i small m e = omega (arith, first_least (λ i. mem k i && not (inner k i)) t i small (and_from (mem k i) (not (inner k i)) m (ap not e)), small)

  mark_exists : IsFamily → (k : ℕ) → k < n → second k < t → mark k < t
  mark_exists f k hk large = elim (greatest f k n hk (omega arith)) [
    | inl none ↦ (let both = and_parts (mem k (second k)) (not (nat_eq (second k) (lowest k))) ((first_is (λ i. mem k i && not (nat_eq i (lowest k))) t).here large) in
        mark_by k (second k) large both.0
        (not_inner k (second k) (eqb-false (second k) (lowest k) (not_true (nat_eq (second k) (lowest k)) both.1))
        (λ l h is m. absurd (true≢false (sym is ∙ none l h)))))
    | inr g ↦ (let parts = smaller_parts k g.0 g.2 in
        let out = outside_in k g.0 parts.1 in
        mark_by k (outside k g.0) parts.1 out.0
        (not_inner k (outside k g.0) (λ same. true≢false (sym parts.0 ∙ subst (λ j. mem g.0 j ≡ false) same out.1))
        (λ l h is m. true≢false (sym (g.3 l h is (outside k g.0) parts.1 m) ∙ out.1))))
  ]

  mark_in : (k : ℕ) → mark k < t → (mem k (mark k) ≡ true) × (inner k (mark k) ≡ false)
  mark_in k h =
      let both = and_parts (mem k (mark k)) (not (inner k (mark k))) ((first_is (λ i. mem k i && not (inner k i)) t).here h) in
      (both.0, not_true (inner k (mark k)) both.1)

  -- the lowest member and the members of smaller sets are inner
  inner_lowest : (k : ℕ) → inner k (lowest k) ≡ true
  inner_lowest k = or_from_left (nat_eq (lowest k) (lowest k)) (nat_lt (first (λ l. smaller k l && mem l (lowest k)) n) n) (eq-eqb (lowest k) (lowest k) refl)
    where
      or_from_left : (x y : Bool) → x ≡ true → (x || y) ≡ true
      or_from_left true y e = refl
      or_from_left false y e = absurd (true≢false (sym e))

  inner_smaller : (k l i : ℕ) → l < n → smaller k l ≡ true → mem l i ≡ true → inner k i ≡ true
  inner_smaller k l i h is m = or_from_right (nat_eq i (lowest k)) (nat_lt (first (λ l. smaller k l && mem l i) n) n)
      (lt-ltb (first (λ l. smaller k l && mem l i) n) n (omega (arith, h, first_least (λ l. smaller k l && mem l i) n l h (and_from (smaller k l) (mem l i) is m))))
    where
      or_from_right : (x y : Bool) → y ≡ true → (x || y) ≡ true
      or_from_right true y e = refl
      or_from_right false y e = e

  -- outside where not in: nested the other way only, so something of l is outside k
  apart_or_smaller : IsFamily → (k l : ℕ) → k < n → l < n → (j : ℕ) → j < t → mem k j ≡ true → mem l j ≡ true → (IsIn k l ⊎ IsIn l k)
  apart_or_smaller f k l hk hl j small mk ml = elim (f.nested k l hk hl) [
    | inl a ↦ inl a
    | inr rest ↦ elim rest [ inl b ↦ inr b | inr apart ↦ absurd (apart j small mk ml) ]
  ]

  -- two larger sets with one mark: where k is in l, l is in k
  same_mark_in : IsFamily → (k l : ℕ) → k < n → l < n → mark k < t → mark l < t → mark k ≡ mark l → IsIn k l → IsIn l k
  same_mark_in f k l hk hl sk sl e k_in_l = elim (cases_lt (outside l k) t) [
    | inr none ↦ in_from_outside l k none
    | inl some ↦ absurd (step (mem k (lowest l)) refl some)
  ]
    where
      at_k : mem k (mark l) ≡ true
      at_k = subst (λ j. mem k j ≡ true) e (mark_in k sk).0

      step : (b : Bool) → mem k (lowest l) ≡ b → outside l k < t → ⊥
      step true has_lowest some = true≢false (sym (inner_smaller l k (mark l) hk (and_from (mem k (lowest l)) (nat_lt (outside l k) t) has_lowest (lt-ltb (outside l k) t some)) at_k) ∙ (mark_in l sl).1)
      step false no_lowest some = inner_or_not (inner l (lowest k)) refl
        where
          low_k : (lowest k < t) × (mem k (lowest k) ≡ true)
          low_k = lowest_in f k hk

          inner_or_not : (b : Bool) → inner l (lowest k) ≡ b → ⊥
          inner_or_not false is =
              let below : mark l ≤ lowest k = first_least (λ i. mem l i && not (inner l i)) t (lowest k) low_k.0
              (and_from (mem l (lowest k)) (not (inner l (lowest k))) (k_in_l (lowest k) low_k.0 low_k.1) (ap not is)) in
              let above : lowest k ≤ mark l = first_least (mem k) t (mark l) sl at_k in
              let same : mark k ≡ lowest k = omega (arith, below, above, e) in
              true≢false (sym (inner_lowest k) ∙ subst (λ j. inner k j ≡ false) same (mark_in k sk).1)
          inner_or_not true is = elim (or_cases (nat_eq (lowest k) (lowest l)) (nat_lt (first (λ m. smaller l m && mem m (lowest k)) n) n) is) [
            | inl same ↦ true≢false (sym (subst (λ j. mem k j ≡ true) (eqb-true (lowest k) (lowest l) same) low_k.1) ∙ no_lowest)
            | inr found ↦ by_third (first (λ m. smaller l m && mem m (lowest k)) n) (ltb-true (first (λ m. smaller l m && mem m (lowest k)) n) n found)
                ((first_is (λ m. smaller l m && mem m (lowest k)) n).here (ltb-true (first (λ m. smaller l m && mem m (lowest k)) n) n found))
          ]
            where
              by_third : (m : ℕ) → m < n → (smaller l m && mem m (lowest k)) ≡ true → ⊥
              by_third m hm both' =
                  let both = and_parts (smaller l m) (mem m (lowest k)) both' in
                  elim (apart_or_smaller f k m hk hm (lowest k) low_k.0 low_k.1 both.1) [
                    | inl k_in_m ↦ true≢false (sym (inner_smaller l m (mark l) hm both.0 (k_in_m (mark l) sl at_k)) ∙ (mark_in l sl).1)
                    | inr m_in_k ↦ true≢false (sym (m_in_k (lowest l) (lowest_in f l hl).0 (smaller_parts l m both.0).0) ∙ no_lowest)
                  ]

  same_mark : IsFamily → (k l : ℕ) → k < n → l < n → mark k < t → mark l < t → mark k ≡ mark l → IsIn k l × IsIn l k
  same_mark f k l hk hl sk sl e =
      elim (apart_or_smaller f k l hk hl (mark k) sk (mark_in k sk).0 (subst (λ j. mem l j ≡ true) (sym e) (mark_in l sl).0)) [
        | inl a ↦ (a, same_mark_in f k l hk hl sk sl e a)
        | inr b ↦ (same_mark_in f l k hl hk sl sk (sym e) b, b)
      ]

  -- a mark isn't the least number
  mark_positive : IsFamily → (k : ℕ) → k < n → mark k < t → 1 ≤ mark k
  mark_positive f k hk sk =
      let above : lowest k ≤ mark k = first_least (mem k) t (mark k) sk (mark_in k sk).0 in
      elim (cases_eq (mark k) (lowest k)) [
        | inl same ↦ absurd (true≢false (sym (inner_lowest k) ∙ subst (λ j. inner k j ≡ false) same (mark_in k sk).1))
        | inr other ↦ (let apart : mark k ≢ lowest k = other in omega arith)
      ]

  -- a set of one member
  single_in : (k l : ℕ) → t ≤ second k → lowest k ≡ lowest l → mem l (lowest l) ≡ true → IsIn k l
  single_in k l one e there i small m = elim (cases_eq i (lowest k)) [
    | inl same ↦ subst (λ j. mem l j ≡ true) (sym (same ∙ e)) there
    | inr other ↦ absurd (true≢false (sym (and_from (mem k i) (not (nat_eq i (lowest k))) m (ap not (ne_eqb i (lowest k) other)))
        ∙ (first_is (λ i. mem k i && not (nat_eq i (lowest k))) t).before i (omega arith)))
  ]

  code_large : (k : ℕ) → second k < t → set_code k ≡ t + mark k - 1
  code_large k h = ap (λ b. if b then t + mark k - 1 else lowest k) (lt-ltb (second k) t h)

  code_single : (k : ℕ) → t ≤ second k → set_code k ≡ lowest k
  code_single k h = ap (λ b. if b then t + mark k - 1 else lowest k) (le-ltb (second k) t h)

  pub code_below : IsFamily → (k : ℕ) → k < n → set_code k + 1 < 2 * t
  code_below f k hk = elim (cases_lt (second k) t) [
    | inl large ↦ (let sk = mark_exists f k hk large in omega (arith, code_large k large, sk, mark_positive f k hk sk))
    | inr one ↦ (let low = (lowest_in f k hk).0 in omega (arith, code_single k one, low))
  ]

  -- one code, one set
  pub same_code : IsFamily → (k l : ℕ) → k < n → l < n → set_code k ≡ set_code l → IsIn k l × IsIn l k
  same_code f k l hk hl e = elim (cases_lt (second k) t) [
    | inl large_k ↦ elim (cases_lt (second l) t) [
      | inl large_l ↦ (let sk = mark_exists f k hk large_k in let sl = mark_exists f l hl large_l in
          same_mark f k l hk hl sk sl (omega (arith, e, code_large k large_k, code_large l large_l, mark_positive f k hk sk, mark_positive f l hl sl)))
      | inr one_l ↦ (let sk = mark_exists f k hk large_k in
          absurd (omega (arith, e, code_large k large_k, code_single l one_l, mark_positive f k hk sk, (lowest_in f l hl).0)))
    ]
    | inr one_k ↦ elim (cases_lt (second l) t) [
      | inl large_l ↦ (let sl = mark_exists f l hl large_l in
          absurd (omega (arith, e, code_single k one_k, code_large l large_l, mark_positive f l hl sl, (lowest_in f k hk).0)))
      | inr one_l ↦ (let same : lowest k ≡ lowest l = omega (arith, e, code_single k one_k, code_single l one_l) in
          (single_in k l one_k same (lowest_in f l hl).1, single_in l k one_l (sym same) (lowest_in f k hk).1))
    ]
  ]
