-- The list of the needles that hold loops, of the stacks in the row.
use Rattle.std.proofs.Common.{◌≡◌, ◌≢◌, ℕ, zero, suc, ◌+◌, ◌*◌, ◌<◌, ◌≤◌, ℤ, Bool, true, false, cond, List, [], ◌∷◌, ◌++◌, length, get_or, map, nat_eq, All, refl, sym, ap, subst, ◌∙◌, arith}
use Rattle.std.specs.declared.cmp.Ordering.TheVariants.{Less}
use Rattle.std.specs.List.{AllByRecursion, enumerate_from}
use Rattle.std.specs.List.Sorted.{IsStrictlySortedBy}
use Rattle.std.proofs.lemmas.Bool.{true≢false, eqb-true}
use Rattle.std.proofs.lemmas.List.Elements.{All-nil, All-cons}
use Rattle.knit_base.specs.declared.needle.Needle.{Needle}
use Rattle.knit_base.specs.Needle.{needle_cmp, same_needle}
use Rattle.carriage_model.specs.declared.verdict.Stack.{Stack}
use Rattle.carriage_model.specs.Places.{Spans, is_spanned, stack_place, needle_at, stack_in}
use Rattle.carriage_model.specs.Verdict.{AreStacks, loops_on}
use Rattle.knit_base.proofs.Needles.{same_needle-false, same_needle-refl}
use Rattle.carriage_model.proofs.Places.{needles-rise, needle_at-spans, needle_at-place, place-needle_at, is_spanned_spans, spans_is_spanned}

-- the needles of these stacks, of which the first stands at this place, that hold loops
abbrev pub stacks_listed : ℤ → ℕ → ℕ → List (List ℕ) → List Stack
stacks_listed low width p [] = []
stacks_listed low width p ([] ∷ rest) = stacks_listed low width (p + 1) rest
stacks_listed low width p ((line ∷ lines) ∷ rest) = record { needle = needle_at low width p; loops = line ∷ lines } ∷ stacks_listed low width (p + 1) rest

abbrev needle_of : Stack → Needle
needle_of stack = stack.needle

pub stacks_listed_few : (low : ℤ) (width p : ℕ) (stacks : List (List ℕ)) → length (stacks_listed low width p stacks) ≤ length stacks
stacks_listed_few low width p [] = omega arith
stacks_listed_few low width p ([] ∷ rest) = omega (arith, stacks_listed_few low width (p + 1) rest)
stacks_listed_few low width p ((line ∷ lines) ∷ rest) = omega (arith, stacks_listed_few low width (p + 1) rest)

all-after : (low : ℤ) (width p q : ℕ) (stacks : List (List ℕ)) → p < q → q + length stacks ≤ 4 * width
    → AllByRecursion (λ n. needle_cmp (needle_at low width p) n ≡ Less) (map needle_of (stacks_listed low width q stacks))
all-after low width p q [] less within = tt
all-after low width p q ([] ∷ rest) less within =
    let less1 : p < q + 1 = omega arith in
    let within1 : q + 1 + length rest ≤ 4 * width = omega arith in
    all-after low width p (q + 1) rest less1 within1
all-after low width p q ((line ∷ lines) ∷ rest) less within =
    let less1 : p < q + 1 = omega arith in
    let within1 : q + 1 + length rest ≤ 4 * width = omega arith in
    let here : q < 4 * width = omega arith in
    (needles-rise low width p q less here, all-after low width p (q + 1) rest less1 within1)

in_order : (low : ℤ) (width p : ℕ) (stacks : List (List ℕ)) → p + length stacks ≤ 4 * width → IsStrictlySortedBy needle_cmp (map needle_of (stacks_listed low width p stacks))
unfolding IsStrictlySortedBy
in_order low width p [] within = tt
in_order low width p ([] ∷ rest) within =
    let within1 : p + 1 + length rest ≤ 4 * width = omega arith in
    in_order low width (p + 1) rest within1
in_order low width p ((line ∷ lines) ∷ rest) within =
    let less : p < p + 1 = omega arith in
    let within1 : p + 1 + length rest ≤ 4 * width = omega arith in
    (all-after low width p (p + 1) rest less within1, in_order low width (p + 1) rest within1)

abbrev HoldsLoops : Stack → Type 0
HoldsLoops stack = 0 < length stack.loops

nonempty : (low : ℤ) (width p : ℕ) (stacks : List (List ℕ)) → All HoldsLoops (stacks_listed low width p stacks)
nonempty low width p [] = All-nil HoldsLoops
nonempty low width p ([] ∷ rest) = nonempty low width (p + 1) rest
nonempty low width p ((line ∷ lines) ∷ rest) =
    All-cons HoldsLoops (record { needle = needle_at low width p; loops = line ∷ lines }) (stacks_listed low width (p + 1) rest) (omega arith) (nonempty low width (p + 1) rest)

-- none of the needles from this place on is this needle
abbrev IsAway : ℤ → ℕ → ℕ → Needle → Type 0
IsAway low width p n = (k : ℕ) → p ≤ k → k < 4 * width → same_needle n (needle_at low width k) ≡ false

away-next : (low : ℤ) (width p : ℕ) (n : Needle) → IsAway low width p n → IsAway low width (p + 1) n
away-next low width p n away k from below = away k (omega arith) below

away-none : (low : ℤ) (width p : ℕ) (n : Needle) (stacks : List (List ℕ)) → p + length stacks ≤ 4 * width → IsAway low width p n → loops_on (stacks_listed low width p stacks) n ≡ []
away-none low width p n [] within away = refl
away-none low width p n ([] ∷ rest) within away =
    let within1 : p + 1 + length rest ≤ 4 * width = omega arith in
    away-none low width (p + 1) n rest within1 (away-next low width p n away)
away-none low width p n ((line ∷ lines) ∷ rest) within away =
    let within1 : p + 1 + length rest ≤ 4 * width = omega arith in
    let here : p < 4 * width = omega arith in
    let same : p ≤ p = omega arith in
    ap (λ b. cond b (line ∷ lines) (loops_on (stacks_listed low width (p + 1) rest) n)) (away p same here) ∙ away-none low width (p + 1) n rest within1 (away-next low width p n away)

-- a needle that the beds don't have is none of those at places
off-away : (low : ℤ) (width : ℕ) (n : Needle) → is_spanned low width n.at ≡ false → IsAway low width 0 n
off-away low width n off k from below =
    same_needle-false n (needle_at low width k) (λ e. true≢false (sym (spans_is_spanned low width (needle_at low width k).at (needle_at-spans low width k below)) ∙ ap (λ (m : Needle). is_spanned low width m.at) (sym e) ∙ off))

-- two needles at two places are two
other-place : (low : ℤ) (width k : ℕ) (n : Needle) → stack_place low width n ≢ k → same_needle n (needle_at low width k) ≡ false
other-place low width k n apart = same_needle-false n (needle_at low width k) (λ e. apart (ap (stack_place low width) e ∙ place-needle_at low width k))

own-place : (low : ℤ) (width k : ℕ) (n : Needle) → Spans low width n.at → stack_place low width n ≡ k → same_needle n (needle_at low width k) ≡ true
own-place low width k n on is = ap (same_needle n) (ap (needle_at low width) (sym is) ∙ needle_at-place low width n on) ∙ same_needle-refl n

found : (low : ℤ) (width p j : ℕ) (n : Needle) (stacks : List (List ℕ)) → p + length stacks ≤ 4 * width → Spans low width n.at → stack_place low width n ≡ p + j
    → loops_on (stacks_listed low width p stacks) n ≡ get_or stacks j []
found low width p j n [] within on is = refl
found low width p zero n ([] ∷ rest) within on is =
    let within1 : p + 1 + length rest ≤ 4 * width = omega arith in
    away-none low width (p + 1) n rest within1 (λ k from below. other-place low width k n (λ e. omega arith))
found low width p (suc j) n ([] ∷ rest) within on is =
    let within1 : p + 1 + length rest ≤ 4 * width = omega arith in
    found low width (p + 1) j n rest within1 on (omega arith)
found low width p zero n ((line ∷ lines) ∷ rest) within on is =
    ap (λ b. cond b (line ∷ lines) (loops_on (stacks_listed low width (p + 1) rest) n)) (own-place low width p n on (omega arith))
found low width p (suc j) n ((line ∷ lines) ∷ rest) within on is =
    let within1 : p + 1 + length rest ≤ 4 * width = omega arith in
    ap (λ b. cond b (line ∷ lines) (loops_on (stacks_listed low width (p + 1) rest) n)) (other-place low width p n (λ e. omega arith))
    ∙ found low width (p + 1) j n rest within1 on (omega arith)

loops-by : (low : ℤ) (width : ℕ) (stacks : List (List ℕ)) (n : Needle) → length stacks ≤ 4 * width → (b : Bool) → is_spanned low width n.at ≡ b
    → loops_on (stacks_listed low width 0 stacks) n ≡ cond b (get_or stacks (stack_place low width n) []) []
loops-by low width stacks n full true on = found low width 0 (stack_place low width n) n stacks (omega arith) (is_spanned_spans low width n.at on) (omega arith)
loops-by low width stacks n full false off = away-none low width 0 n stacks (omega arith) (off-away low width n off)

-- the list of all stacks has what the needles hold
pub listed-stacks : (low : ℤ) (width : ℕ) (stacks : List (List ℕ)) (list : List Stack) → length stacks ≡ 4 * width → list ≡ stacks_listed low width 0 stacks → AreStacks list (stack_in low width stacks)
listed-stacks low width stacks list full is =
    let within : length stacks ≤ 4 * width = omega arith in
    let here : 0 + length stacks ≤ 4 * width = omega arith in
    subst (λ l. AreStacks l (stack_in low width stacks)) (sym is) (record {
      in_order = in_order low width 0 stacks here;
      nonempty = nonempty low width 0 stacks;
      loops = λ n. loops-by low width stacks n within (is_spanned low width n.at) refl;
    })

pub listed-empty : (low : ℤ) (width p : ℕ) (stacks : List (List ℕ)) (loops : List ℕ) → length loops ≡ 0 → stacks_listed low width p (stacks ++ loops ∷ []) ≡ stacks_listed low width p stacks
listed-empty low width p [] [] none = refl
listed-empty low width p [] (line ∷ lines) none = absurd (omega arith)
listed-empty low width p ([] ∷ rest) loops none = listed-empty low width (p + 1) rest loops none
listed-empty low width p ((line ∷ lines) ∷ rest) loops none =
    ap (λ l. record { needle = needle_at low width p; loops = line ∷ lines } ∷ l) (listed-empty low width (p + 1) rest loops none)

pub listed-more : (low : ℤ) (width p q : ℕ) (stacks : List (List ℕ)) (loops : List ℕ) → 0 < length loops → q ≡ p + length stacks
    → stacks_listed low width p (stacks ++ loops ∷ []) ≡ stacks_listed low width p stacks ++ record { needle = needle_at low width q; loops = loops } ∷ []
listed-more low width p q [] [] some is = absurd (omega arith)
listed-more low width p q [] (line ∷ lines) some is =
    let here : p ≡ q = omega arith in
    ap (λ k. record { needle = needle_at low width k; loops = line ∷ lines } ∷ []) here
listed-more low width p q ([] ∷ rest) loops some is = listed-more low width (p + 1) q rest loops some (omega arith)
listed-more low width p q ((line ∷ lines) ∷ rest) loops some is =
    ap (λ l. record { needle = needle_at low width p; loops = line ∷ lines } ∷ l) (listed-more low width (p + 1) q rest loops some (omega arith))

-- the stacks of numbered ones
abbrev pub stacks_of : List (ℕ × List ℕ) → List (List ℕ)
stacks_of = map (λ p. p.1)

rewritten : (xs : List (ℕ × List ℕ)) → stacks_of (map (λ (p : ℕ × List ℕ). (p.0, p.1)) xs) ≡ stacks_of xs
rewritten [] = refl
rewritten (x ∷ xs) = ap (λ l. x.1 ∷ l) (rewritten xs)

unnumbered : (i : ℕ) (stacks : List (List ℕ)) → stacks_of (enumerate_from i stacks) ≡ stacks
unnumbered i [] = refl
unnumbered i (loops ∷ stacks) = ap (λ l. loops ∷ l) (unnumbered (i + 1) stacks)

-- all stacks were gone over
pub all-stacks : (xs : List (ℕ × List ℕ)) (stacks : List (List ℕ)) → map (λ (p : ℕ × List ℕ). (p.0, p.1)) xs ≡ enumerate_from 0 stacks → stacks_of xs ≡ stacks
all-stacks xs stacks e = sym (rewritten xs) ∙ ap stacks_of e ∙ unnumbered 0 stacks

pub enumerate-length : (i : ℕ) (stacks : List (List ℕ)) → length (enumerate_from i stacks) ≡ length stacks
enumerate-length i [] = refl
enumerate-length i (loops ∷ stacks) = ap suc (enumerate-length (i + 1) stacks)

-- a stack is numbered by its place
pub stack_number_is_place : (i j : ℕ) (stacks : List (List ℕ)) (p : ℕ × List ℕ) → j < length (enumerate_from i stacks) → p ≡ get_or (enumerate_from i stacks) j p → p.0 ≡ i + j
stack_number_is_place i j [] p within is = absurd (omega arith)
stack_number_is_place i zero (loops ∷ stacks) p within is = omega (arith, ap (λ (q : ℕ × List ℕ). q.0) is)
stack_number_is_place i (suc j) (loops ∷ stacks) p within is = omega (arith, stack_number_is_place (i + 1) j stacks p (omega arith) is)

pub stacks_of-length : (xs : List (ℕ × List ℕ)) → length (stacks_of xs) ≡ length xs
stacks_of-length [] = refl
stacks_of-length (x ∷ xs) = ap suc (stacks_of-length xs)

stacks_of-more : (xs : List (ℕ × List ℕ)) (p : ℕ × List ℕ) → stacks_of (xs ++ p ∷ []) ≡ stacks_of xs ++ p.1 ∷ []
stacks_of-more [] p = refl
stacks_of-more (x ∷ xs) p = ap (λ l. x.1 ∷ l) (stacks_of-more xs p)

-- a stack with loops came to the list
pub list-grows : (low : ℤ) (width place : ℕ) (xs : List (ℕ × List ℕ)) (loops : List ℕ) (needle : Needle) (list new : List Stack)
    → list ≡ stacks_listed low width 0 (stacks_of xs) → needle ≡ needle_at low width place → place ≡ length xs → 0 < length loops
    → new ≡ list ++ record { needle = needle; loops = loops } ∷ []
    → new ≡ stacks_listed low width 0 (stacks_of (xs ++ (place, loops) ∷ []))
list-grows low width place xs loops needle list new before is there some pushed =
    let here : place ≡ 0 + length (stacks_of xs) = omega (arith, there, stacks_of-length xs) in
    pushed
    ∙ ap (λ (l : List Stack). l ++ record { needle = needle; loops = loops } ∷ []) before
    ∙ ap (λ (n : Needle). stacks_listed low width 0 (stacks_of xs) ++ record { needle = n; loops = loops } ∷ []) is
    ∙ sym (ap (stacks_listed low width 0) (stacks_of-more xs (place, loops)) ∙ listed-more low width 0 place (stacks_of xs) loops some here)

-- an empty stack was passed over
pub list-stays : (low : ℤ) (width place : ℕ) (xs : List (ℕ × List ℕ)) (loops : List ℕ) (list : List Stack)
    → list ≡ stacks_listed low width 0 (stacks_of xs) → length loops ≡ 0 → list ≡ stacks_listed low width 0 (stacks_of (xs ++ (place, loops) ∷ []))
list-stays low width place xs loops list before none =
    before ∙ sym (ap (stacks_listed low width 0) (stacks_of-more xs (place, loops)) ∙ listed-empty low width 0 (stacks_of xs) loops none)

pub some_from_test : (loops : List ℕ) → nat_eq (length loops) 0 ≡ false → 0 < length loops
some_from_test [] e = absurd (true≢false e)
some_from_test (line ∷ lines) e = omega arith

pub none_from_test : (loops : List ℕ) → nat_eq (length loops) 0 ≡ true → length loops ≡ 0
none_from_test loops e = eqb-true (length loops) 0 e
