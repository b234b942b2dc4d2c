-- What lines say from place to place.
use Rattle.std.proofs.Common.{◌≡◌, ◌⊎◌, inl, inr, ℕ, ◌+◌, ◌<◌, ◌≤◌, Bool, false, List, [], ◌∷◌, ◌++◌, length, drop, filter, get_or, sym, ap, ◌∙◌, refl, subst, append_assoc, append-nil, arith, length-append}
use Rattle.std.proofs.Math.Nat.{eq-or-lt_of_le}
use Rattle.std.proofs.lemmas.List.{drop_all, length-drop}
use Rattle.std.proofs.lemmas.List.Elements.{filter-append}
use Rattle.script_reader.specs.Places.{IsAtSaid, Say, StandsBehind}
use Rattle.script_reader.specs.Reading.{IsPassed}
use Rattle.script_reader.specs.Statements.{Statement, Nothing, kind_of, says_something, statements_of, told_from}
use Rattle.script_reader.specs.declared.line.Kind.TheVariants as kind
use Rattle.script_reader.proofs.Lines.{ahead_at, length_told, told_at}

-- how many lines stand between two places
long_between : (wants after : Bool) (lines : List (List ℕ)) (start next : ℕ) (xs : List Statement) → start ≤ next → next ≤ length lines → told_from wants (drop start lines) ≡ xs ++ told_from after (drop next lines) → start + length xs ≡ next
long_between wants after lines start next xs low high told =
    omega (arith, ap length told, length-append xs (told_from after (drop next lines)), length_told wants (drop start lines), length_told after (drop next lines), length-drop start lines, length-drop next lines)

pub long_said : (lines : List (List ℕ)) (start next : ℕ) (said : List Statement) (s : Say lines start next said) → start + length s.front ≡ next
long_said lines start next said s = long_between false false lines start next s.front s.low s.high s.told

pub long_passed : (lines : List (List ℕ)) (start next : ℕ) (p : IsPassed lines start next) → start + length p.front ≡ next
long_passed lines start next p = long_between false false lines start next p.front p.low p.high (p.told false)

pub say_none : (lines : List (List ℕ)) (start : ℕ) → start ≤ length lines → Say lines start start []
say_none lines start high = record { low = omega arith; high = high; front = []; told = refl; are = refl }

pub say_more : (lines : List (List ℕ)) (start next end : ℕ) (xs ys : List Statement) → Say lines start next xs → Say lines next end ys → Say lines start end (xs ++ ys)
say_more lines start next end xs ys s t = record {
  low = let low = s.low in let more = t.low in omega arith;
  high = t.high;
  front = s.front ++ t.front;
  told = s.told ∙ ap (λ l. s.front ++ l) t.told ∙ sym (append_assoc s.front t.front (statements_of (drop end lines)));
  are = filter-append says_something s.front t.front ∙ ap (λ l. l ++ filter says_something t.front) s.are ∙ ap (λ l. xs ++ l) t.are;
}

-- lines that say nothing, and those behind others
pub say_passed : (lines : List (List ℕ)) (start next : ℕ) → IsPassed lines start next → Say lines start next []
say_passed lines start next p = record { low = p.low; high = p.high; front = p.front; told = p.told false; are = p.silent }

pub say_on : (lines : List (List ℕ)) (start next end : ℕ) (xs : List Statement) → Say lines start next xs → IsPassed lines next end → Say lines start end xs
say_on lines start next end xs s p = subst (Say lines start end) (append-nil xs) (say_more lines start next end xs [] s (say_passed lines next end p))

pub passed_none : (lines : List (List ℕ)) (start : ℕ) → start ≤ length lines → IsPassed lines start start
passed_none lines start high = record { low = omega arith; high = high; front = []; silent = refl; told = λ wants. refl; ahead = refl }

-- one more line that says nothing
pub passed_more : (lines : List (List ℕ)) (start at : ℕ) → at < length lines → kind_of (get_or lines at []) ≡ kind.Skipped → IsPassed lines start at → IsPassed lines start (at + 1)
passed_more lines start at within is p = record {
  low = let low = p.low in omega arith;
  high = omega arith;
  front = p.front ++ Nothing ∷ [];
  silent = filter-append says_something p.front (Nothing ∷ []) ∙ append-nil (filter says_something p.front) ∙ p.silent;
  told = λ wants. p.told wants ∙ ap (λ l. p.front ++ l) (told_at lines at within wants kind.Skipped is) ∙ sym (append_assoc p.front (Nothing ∷ []) (told_from wants (drop (at + 1) lines)));
  ahead = p.ahead ∙ ahead_at lines at within kind.Skipped is;
}

-- a line that says something
pub say_here : (lines : List (List ℕ)) (at : ℕ) (x : Statement) → at < length lines → statements_of (drop at lines) ≡ x ∷ statements_of (drop (at + 1) lines) → filter says_something (x ∷ []) ≡ x ∷ [] → Say lines at (at + 1) (x ∷ [])
say_here lines at x within told something = record { low = omega arith; high = omega arith; front = x ∷ []; told = told; are = something }

-- the line at a place stands behind those before it
pub stands_here : (lines : List (List ℕ)) (at : ℕ) (x : Statement) (back : List Statement) → statements_of (drop at lines) ≡ x ∷ back → StandsBehind lines at at [] x
stands_here lines at x back told = record { front = []; back = back; told = told; placed = omega arith; are = refl }

pub stands_behind : (lines : List (List ℕ)) (start next at : ℕ) (xs ys : List Statement) (here : Statement) → Say lines start next xs → StandsBehind lines next at ys here → StandsBehind lines start at (xs ++ ys) here
stands_behind lines start next at xs ys here s t = record {
  front = s.front ++ t.front;
  back = t.back;
  told = s.told ∙ ap (λ l. s.front ++ l) t.told ∙ sym (append_assoc s.front t.front (here ∷ t.back));
  placed = omega (arith, long_said lines start next xs s, t.placed, length-append s.front t.front);
  are = filter-append says_something s.front t.front ∙ ap (λ l. l ++ filter says_something t.front) s.are ∙ ap (λ l. xs ++ l) t.are;
}

-- what stands directly at a place
pub stands_told : (lines : List (List ℕ)) (at : ℕ) (here : Statement) (s : StandsBehind lines at at [] here) → statements_of (drop at lines) ≡ here ∷ s.back
stands_told lines at here s = none s.front s.told (omega (arith, s.placed))
  where
    none : (front : List Statement) → statements_of (drop at lines) ≡ front ++ here ∷ s.back → length front ≡ 0 → statements_of (drop at lines) ≡ here ∷ s.back
    none [] told long = told
    none (x ∷ front) told long = absurd (omega (arith, long))

-- where something is said, the place is further on
pub say_grows : (lines : List (List ℕ)) (start next : ℕ) (x : Statement) (xs : List Statement) → Say lines start next (x ∷ xs) → start < next
say_grows lines start next x xs s = some s.front s.are (long_said lines start next (x ∷ xs) s)
  where
    some : (front : List Statement) → filter says_something front ≡ x ∷ xs → start + length front ≡ next → start < next
    some [] are long = absurd (cc)
    some (y ∷ front) are long = omega (arith, long)

-- what all lines say
pub say_all : (lines : List (List ℕ)) (start : ℕ) (xs : List Statement) → Say lines start (length lines) xs → filter says_something (statements_of (drop start lines)) ≡ xs
say_all lines start xs s = ap (filter says_something) (s.told ∙ ap (λ (l : List (List ℕ)). s.front ++ statements_of l) (drop_all (length lines) lines (omega arith)) ∙ append-nil s.front) ∙ s.are

-- where lines are passed, the first of them is skipped
pub first_skipped : (lines : List (List ℕ)) (start at : ℕ) → IsPassed lines start at → kind_of (get_or lines at []) ≡ kind.Skipped → (start < at → kind_of (get_or lines start []) ≡ kind.Skipped) → start < at + 1 → kind_of (get_or lines start []) ≡ kind.Skipped
first_skipped lines start at p is before later = go (eq-or-lt_of_le p.low)
  where
    go : (start ≡ at) ⊎ (start < at) → kind_of (get_or lines start []) ≡ kind.Skipped
    go (inl same) = subst (λ n. kind_of (get_or lines n []) ≡ kind.Skipped) (sym same) is
    go (inr below) = before below

-- so none are where it isn't
pub stays_there : (lines : List (List ℕ)) (start at : ℕ) → IsPassed lines start at → (start < at → kind_of (get_or lines start []) ≡ kind.Skipped) → IsAtSaid lines start → at ≡ start
stays_there lines start at p before said = go (eq-or-lt_of_le p.low)
  where
    go : (start ≡ at) ⊎ (start < at) → at ≡ start
    go (inl same) = sym same
    go (inr below) = let high = p.high in absurd (said (omega arith) (before below))
