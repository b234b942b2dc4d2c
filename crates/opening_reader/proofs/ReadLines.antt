-- A line of which a front is kept is read as the whole line is.
use Rattle.std.proofs.Common.{◌≡◌, ◌≢◌, ◌==◌, ℕ, suc, ◌+◌, ◌<◌, ◌≤◌, Bool, true, false, nat_le, List, [], ◌∷◌, length, take, Option, Some, None, if◌then◌else◌, ap, ◌∙◌, sym, refl, subst, arith}
use Rattle.std.specs.Str.{IsUtf8, is_utf8}
use Rattle.std.proofs.lemmas.Bool.{false_from_ne_true}
use Rattle.std.proofs.lemmas.List.{length-take-le, take_all}
use Rattle.std.proofs.lemmas.List.Elements.{All-cons, All-head, All-nil, All-tail, All-take}
use Rattle.std.proofs.lemmas.Str.{IsUtf8-from_is_utf8, is_utf8-from_IsUtf8}
use Rattle.knit_base.specs.Lines.{HasNoLineEnd, IsLine, without_return}
use Rattle.knit_ports.specs.Ears.{kept_front, kept_limit}
use Rattle.knit_ports.specs.declared.limit.TheConstants.{HEARD_LIMIT}
use Rattle.opening_reader.specs.Openings.{fault_within}
use Rattle.script_reader.specs.declared.fault.Cause.{Cause}
use Rattle.script_reader.specs.declared.fault.Cause.TheVariants.{LineLong, NotUtf8}

one-by : (b : Bool) (byte : ℕ) → byte ≢ 10 → HasNoLineEnd (if b then [] else byte ∷ [])
one-by true byte isnt = All-nil (λ (x : ℕ). x ≢ 10)
one-by false byte isnt = All-cons (λ (x : ℕ). x ≢ 10) byte [] isnt (All-nil (λ (x : ℕ). x ≢ 10))

-- without a carriage return there is no line feed either
pub one-without : (line : List ℕ) → HasNoLineEnd line → HasNoLineEnd (without_return line)
one-without [] one = one
one-without (byte ∷ []) one = one-by (byte == 13) byte (All-head (λ (x : ℕ). x ≢ 10) byte [] one)
one-without (byte ∷ next ∷ bytes) one =
    All-cons (λ (x : ℕ). x ≢ 10) byte (without_return (next ∷ bytes)) (All-head (λ (x : ℕ). x ≢ 10) byte (next ∷ bytes) one)
    (one-without (next ∷ bytes) (All-tail (λ (x : ℕ). x ≢ 10) byte (next ∷ bytes) one))

few-by : (b : Bool) (byte : ℕ) → 1 ≤ length (if b then [] else byte ∷ []) + 1
few-by true byte = omega arith
few-by false byte = omega arith

-- one byte less at most
few-without : (line : List ℕ) → length line ≤ length (without_return line) + 1
few-without [] = omega arith
few-without (byte ∷ []) = few-by (byte == 13) byte
few-without (byte ∷ next ∷ bytes) = let rest : length (next ∷ bytes) ≤ length (without_return (next ∷ bytes)) + 1 = few-without (next ∷ bytes) in omega (arith, rest)

too-long : (limit : ℕ) (line : List ℕ) → limit < length line → fault_within limit line ≡ Some LineLong
too-long limit line long = let e : nat_le (length line) limit ≡ false = grind arith in rw e

long-without : (limit : ℕ) (line : List ℕ) → limit + 1 < length line → fault_within limit (without_return line) ≡ Some LineLong
long-without limit line long = too-long limit (without_return line) (omega (arith, long, few-without line))

-- a line that can be read
pub good-line : (limit : ℕ) (line read : List ℕ) → limit ≤ HEARD_LIMIT → length line ≤ limit → read ≡ line → IsUtf8 line → HasNoLineEnd line
    → (fault_within limit line ≡ None) × (read ≡ line) × IsLine read × (length read ≤ HEARD_LIMIT)
good-line limit line read low short same utf8 one =
    let fits : nat_le (length line) limit ≡ true = grind arith in
    let good : is_utf8 line ≡ true = is_utf8-from_IsUtf8 line utf8 in
    let is_line : IsLine line = record { utf8 = good; one = one; short = omega (arith, low, short) } in
    let within : length line ≤ HEARD_LIMIT = omega (arith, low, short) in (rw (fits, good) refl, same, subst IsLine (sym same) is_line, rw same within)

-- one that isn't UTF-8
pub bad-line : (limit : ℕ) (line : List ℕ) → length line ≤ limit → (IsUtf8 line → ⊥) → fault_within limit line ≡ Some NotUtf8
bad-line limit line short bad =
    let fits : nat_le (length line) limit ≡ true = grind arith in
    let fails : is_utf8 line ≡ false = false_from_ne_true (is_utf8 line) (λ passes. bad (IsUtf8-from_is_utf8 line passes)) in rw (fits, fails) refl

-- what is kept is the whole line, or neither can be read
data IsKept (limit : ℕ) (line kept : List ℕ) : Type 0 where
  all : kept ≡ line → IsKept limit line kept
  cut : fault_within limit (without_return kept) ≡ Some LineLong → fault_within limit (without_return line) ≡ Some LineLong → IsKept limit line kept

kept-parts : (limit : ℕ) (line : List ℕ) → limit ≤ HEARD_LIMIT → IsKept limit line (kept_front line)
kept-parts limit line low = by (nat_le (length line) kept_limit) refl
  where
    by : (fits : Bool) → nat_le (length line) kept_limit ≡ fits → IsKept limit line (kept_front line)
    by true e = all (take_all kept_limit line (grind arith))
    by false e =
        let longer : kept_limit < length line = grind arith in
        let len : length (kept_front line) ≡ kept_limit = length-take-le kept_limit line (omega (arith, longer)) in
        cut (long-without limit (kept_front line) (omega (arith, len, low))) (long-without limit line (omega (arith, longer, low)))

abbrev IsSome : Option Cause → Type 0
IsSome None = ⊥
IsSome (Some cause) = Unit {0}

some-none : (cause : Cause) → Some cause ≡ None → ⊥
some-none cause e = subst IsSome e tt

good-by : (limit : ℕ) (line kept : List ℕ) → IsKept limit line kept → fault_within limit (without_return kept) ≡ None → without_return kept ≡ without_return line
good-by limit line kept (all is) good = ap without_return is
good-by limit line kept (cut long other) good = absurd (some-none LineLong (sym long ∙ good))

bad-by : (limit : ℕ) (line kept : List ℕ) (cause : Cause) → IsKept limit line kept → fault_within limit (without_return kept) ≡ Some cause → fault_within limit (without_return line) ≡ Some cause
bad-by limit line kept cause (all is) bad = ap (λ (l : List ℕ). fault_within limit (without_return l)) (sym is) ∙ bad
bad-by limit line kept cause (cut long other) bad = other ∙ sym long ∙ bad

-- where what is kept can be read, it is the line
pub kept-good : (limit : ℕ) (line kept : List ℕ) → limit ≤ HEARD_LIMIT → kept ≡ kept_front line → fault_within limit (without_return kept) ≡ None → without_return kept ≡ without_return line
kept-good limit line kept low is = good-by limit line kept (subst (IsKept limit line) (sym is) (kept-parts limit line low))

-- and where it can't, the line can't either
pub kept-bad : (limit : ℕ) (line kept : List ℕ) (cause : Cause) → limit ≤ HEARD_LIMIT → kept ≡ kept_front line → fault_within limit (without_return kept) ≡ Some cause
    → fault_within limit (without_return line) ≡ Some cause
kept-bad limit line kept cause low is = bad-by limit line kept cause (subst (IsKept limit line) (sym is) (kept-parts limit line low))

-- a line of which nothing is kept is empty
pub none-kept : (line kept : List ℕ) → kept ≡ kept_front line → length kept ≡ 0 → line ≡ []
none-kept [] kept is none = refl
none-kept (byte ∷ bytes) kept is none = absurd (let some : length kept ≡ suc (length (take 8193 bytes)) = ap length is in omega (arith, some, none))

-- and one of which bytes are kept isn't
pub some-kept : (line kept : List ℕ) → kept ≡ kept_front line → 0 < length kept → 0 < length line
some-kept [] kept is some = absurd (let none : length kept ≡ 0 = ap length is in omega (arith, some, none))
some-kept (byte ∷ bytes) kept is some = omega arith

-- what is kept of a line has no line feed either
pub kept-one : (line kept : List ℕ) → kept ≡ kept_front line → HasNoLineEnd line → HasNoLineEnd kept
kept-one line kept is one = subst HasNoLineEnd (sym is) (All-take (λ (byte : ℕ). byte ≢ 10) kept_limit line one)
