-- Quarters, by the first two digits behind the point.
use Rattle.std.proofs.Common.{◌≡◌, ℕ, ◌+◌, ◌-◌, ◌*◌, ◌^◌, ◌<◌, ◌≤◌, List, [], ◌∷◌, length, take, drop, get_or, fold, All, MatchOption, Option, None, Some, ⊎_elim, ap, sym, subst, ◌∙◌, refl, arith}
use Rattle.std.proofs.lemmas.Bool.{cases_lt}
use Rattle.std.proofs.lemmas.List.{take_rest}
use Rattle.std.proofs.lemmas.List.Elements.{All-head, All-tail}
use Rattle.std.proofs.Math.Nat.{pow-succ', mul-le-mul_right}
use Rattle.knitout_reader.specs.Numbers.{IsDigit, IsQuarter, value_of_digits}
use Rattle.knitout_reader.specs.Shapes.{AreQuarters}

-- the value of digits that stand behind such a value
abbrev pub read_from : ℕ → List ℕ → ℕ
read_from value digits = fold (λ value digit. 10 * value + (digit - 48)) value digits

-- what was read before counts for a power of ten
read_from-is : (digits : List ℕ) (value : ℕ) → read_from value digits ≡ value * 10 ^ length digits + value_of_digits digits
read_from-is [] value = omega arith
read_from-is (d ∷ digits) value =
    let power : value * 10 ^ length (d ∷ digits) ≡ value * (10 * 10 ^ length digits) = ap (λ p. value * p) (pow-succ' 10 (length digits)) in
    omega (arith, read_from-is digits (10 * value + (d - 48)), read_from-is digits (10 * 0 + (d - 48)), power)

-- digits are below their power of ten
number-small : (digits : List ℕ) → All IsDigit digits → value_of_digits digits < 10 ^ length digits
number-small [] are = omega arith
number-small (d ∷ digits) are =
    let digit : IsDigit d = All-head IsDigit d digits are in
    let nine : (d - 48) * 10 ^ length digits ≤ 9 * 10 ^ length digits = mul-le-mul_right (10 ^ length digits) (omega (arith, digit.1)) in
    omega (arith, read_from-is digits (10 * 0 + (d - 48)), pow-succ' 10 (length digits), number-small digits (All-tail IsDigit d digits are), nine)

-- the value of two digits
abbrev pub hundredths : ℕ → ℕ → ℕ
hundredths a b = 10 * (a - 48) + (b - 48)

number-two : (a b : ℕ) (rest : List ℕ) → value_of_digits (a ∷ b ∷ rest) ≡ hundredths a b * 10 ^ length rest + value_of_digits rest
number-two a b rest = omega (arith, read_from-is rest (10 * (10 * 0 + (a - 48)) + (b - 48)))

hundred : (a b q : ℕ) (rest : List ℕ) → q * 10 ^ length (a ∷ b ∷ rest) ≡ 100 * (q * 10 ^ length rest)
hundred a b q rest =
    ap (λ p. q * p) (pow-succ' 10 (length (b ∷ rest)) ∙ ap (λ p. 10 * p) (pow-succ' 10 (length rest))) ∙ omega arith

is_quarter : (a b q : ℕ) (rest : List ℕ) → value_of_digits rest ≡ 0 → hundredths a b ≡ 25 * q → IsQuarter (a ∷ b ∷ rest) q
is_quarter a b q rest zeros is =
    omega (arith, number-two a b rest, hundred a b q rest, zeros, ap (λ d. d * 10 ^ length rest) is)

-- no multiple of the power lies between
no_rest : (d q p r : ℕ) → 4 * (d * p + r) ≡ 100 * (q * p) → r < p → (d ≡ 25 * q) × (r ≡ 0)
no_rest d q p r is small =
    ⊎_elim
    (λ (below : d < 25 * q).
    let less : (d + 1) * p ≤ (25 * q) * p = mul-le-mul_right p (omega arith) in
    absurd (omega (arith, less)))
    (λ (le : 25 * q ≤ d).
    ⊎_elim
    (λ (above : 25 * q < d).
    let more : (25 * q + 1) * p ≤ d * p = mul-le-mul_right p (omega arith) in
    absurd (omega (arith, more)))
    (λ (ge : d ≤ 25 * q).
    let same : d ≡ 25 * q = omega arith in
    let products : d * p ≡ (25 * q) * p = ap (λ n. n * p) same in
    (same, omega (arith, products)))
    (cases_lt (25 * q) d))
    (cases_lt d (25 * q))

only_quarter : (a b q : ℕ) (rest : List ℕ) → All IsDigit rest → IsQuarter (a ∷ b ∷ rest) q → (hundredths a b ≡ 25 * q) × (value_of_digits rest ≡ 0)
only_quarter a b q rest are is =
    no_rest (hundredths a b) q (10 ^ length rest) (value_of_digits rest)
    (sym (ap (λ n. 4 * n) (number-two a b rest)) ∙ is ∙ hundred a b q rest)
    (number-small rest are)

-- the digits behind the first two
abbrev pub behind_two : List ℕ → List ℕ
behind_two fraction = take (length fraction - 2) (drop 2 fraction)

two_first : (fraction : List ℕ) → 2 ≤ length fraction → fraction ≡ get_or fraction 0 0 ∷ get_or fraction 1 0 ∷ behind_two fraction
two_first [] some = absurd (omega arith)
two_first (a ∷ []) some = absurd (omega arith)
two_first (a ∷ b ∷ rest) some = ap (λ r. a ∷ b ∷ r) (sym (take_rest (a ∷ b ∷ rest) 2))

one_first : (fraction : List ℕ) → 1 ≤ length fraction → length fraction < 2 → fraction ≡ get_or fraction 0 0 ∷ []
one_first [] some few = absurd (omega arith)
one_first (a ∷ []) some few = refl
one_first (a ∷ b ∷ rest) some few = absurd (omega arith)

-- what so many hundredths say of quarters
abbrev pub Hundredths : ℕ → Option ℕ → Type 0
Hundredths h found = MatchOption found ((q : ℕ) → h ≡ 25 * q → ⊥) (λ q. h ≡ 25 * q)

two_found : (a b : ℕ) (rest : List ℕ) (found : Option ℕ) → All IsDigit rest → value_of_digits rest ≡ 0 → Hundredths (hundredths a b) found → AreQuarters (a ∷ b ∷ rest) found
two_found a b rest None are zeros none = λ q is. none q (only_quarter a b q rest are is).0
two_found a b rest (Some q) are zeros is = is_quarter a b q rest zeros is

-- two digits, and zeros behind them
pub quarter-two : (fraction : List ℕ) (found : Option ℕ) → 2 ≤ length fraction → All IsDigit (behind_two fraction) → value_of_digits (behind_two fraction) ≡ 0
    → Hundredths (hundredths (get_or fraction 0 0) (get_or fraction 1 0)) found → AreQuarters fraction found
quarter-two fraction found some are zeros is =
    subst (λ f. AreQuarters f found) (sym (two_first fraction some)) (two_found (get_or fraction 0 0) (get_or fraction 1 0) (behind_two fraction) found are zeros is)

-- more than zeros behind the first two digits
pub no_quarter : (fraction : List ℕ) → 2 ≤ length fraction → All IsDigit (behind_two fraction) → 0 < value_of_digits (behind_two fraction) → (q : ℕ) → IsQuarter fraction q → ⊥
no_quarter fraction some are more q is =
    let none : value_of_digits (behind_two fraction) ≡ 0 =
    (only_quarter (get_or fraction 0 0) (get_or fraction 1 0) q (behind_two fraction) are (subst (λ f. IsQuarter f q) (two_first fraction some) is)).1 in
    omega arith

one_found : (a : ℕ) (found : Option ℕ) → Hundredths (10 * (a - 48)) found → AreQuarters (a ∷ []) found
one_found a None none = λ q is. none q (omega (arith, is))
one_found a (Some q) is = omega (arith, is)

-- one digit
pub quarter-one : (fraction : List ℕ) (found : Option ℕ) → 1 ≤ length fraction → length fraction < 2 → Hundredths (10 * (get_or fraction 0 0 - 48)) found → AreQuarters fraction found
quarter-one fraction found some few is = subst (λ f. AreQuarters f found) (sym (one_first fraction some few)) (one_found (get_or fraction 0 0) found is)

same_factor : (q q' p : ℕ) → 0 < p → q * p ≡ q' * p → q ≡ q'
same_factor q q' p some same =
    ⊎_elim
    (λ (below : q < q').
    let less : (q + 1) * p ≤ q' * p = mul-le-mul_right p (omega arith) in
    absurd (omega (arith, less)))
    (λ (le : q' ≤ q).
    ⊎_elim
    (λ (above : q' < q).
    let more : (q' + 1) * p ≤ q * p = mul-le-mul_right p (omega arith) in
    absurd (omega (arith, more)))
    (λ (ge : q ≤ q'). omega arith)
    (cases_lt q' q))
    (cases_lt q q')

-- digits are so many quarters or none, and fewer than four
pub one_quarter : (fraction : List ℕ) (q q' : ℕ) → All IsDigit fraction → IsQuarter fraction q → IsQuarter fraction q' → q ≡ q'
one_quarter fraction q q' are one other = same_factor q q' (10 ^ length fraction) (omega (arith, number-small fraction are)) (sym one ∙ other)

-- less than a needle is three quarters at most
pub few_quarters : (fraction : List ℕ) (q : ℕ) → All IsDigit fraction → IsQuarter fraction q → q < 4
few_quarters fraction q are is =
    ⊎_elim
    (λ (few : q < 4). few)
    (λ (many : 4 ≤ q).
    let more : 4 * 10 ^ length fraction ≤ q * 10 ^ length fraction = mul-le-mul_right (10 ^ length fraction) many in
    absurd (omega (arith, more, is, number-small fraction are)))
    (cases_lt q 4)
