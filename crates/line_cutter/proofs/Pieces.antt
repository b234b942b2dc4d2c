-- The first piece of a text, and its line.
use Rattle.std.proofs.Common.{◌≡◌, ◌≢◌, ℕ, ◌+◌, ◌-◌, ◌<◌, ◌≤◌, false, List, [], ◌∷◌, ◌++◌, length, take, get_or, map, All, MatchOption, Option, None, Some, ap, sym, subst, ◌∙◌, refl, arith, ⊎_elim}
use Rattle.std.specs.List.{count_by, slice_split, position_or_len, before_first, after_first}
use Rattle.std.proofs.lemmas.Bool.{cases_lt, false_from_ne_true, false≢true}
use Rattle.std.proofs.lemmas.List.{take_all, drop_all, length-map, take_more}
use Rattle.std.proofs.lemmas.List.Sums.{fails_before_first, passes_at_first, position_or_len_is}
use Rattle.std.proofs.lemmas.List.Splits.{slice_split_first, slice_split_none, length-slice_split}
use Rattle.knit_base.specs.Lines.{is_line_feed, lines_of, without_empty_end, without_return}
use Rattle.memchr.specs.Find.{IsFirstByte, NoneBefore, Nowhere, Passes, TakesFirst, is_byte, places, places_between}
use Rattle.memchr.proofs.lemmas.PlaceLemmas.{places_between-first, places_between-none}

-- a piece that others follow stays, also where it is empty
pub not_last : (piece : List ℕ) (pieces : List (List ℕ)) → 0 < length pieces → without_empty_end (piece ∷ pieces) ≡ piece ∷ without_empty_end pieces
not_last piece [] some = absurd (omega arith)
not_last [] (next ∷ pieces) some = refl
not_last (byte ∷ bytes) (next ∷ pieces) some = refl

last_piece : (text : List ℕ) → 0 < length text → without_empty_end (text ∷ []) ≡ text ∷ []
last_piece [] some = absurd (omega arith)
last_piece (byte ∷ bytes) some = refl

no_feed : (text : List ℕ) → length text ≤ position_or_len is_line_feed text → All (λ byte. is_line_feed byte ≡ false) text
no_feed text past = λ k d below. fails_before_first is_line_feed text k d (omega arith)

-- the first line of a text, and those of what stands behind its line feed
pub lines_of-next : (text : List ℕ) → 0 < length text
    → lines_of text ≡ without_return (before_first is_line_feed text) ∷ lines_of (after_first is_line_feed text)
lines_of-next text some =
    ⊎_elim
    (λ found. ap (λ pieces. map without_return (without_empty_end pieces)) (slice_split_first is_line_feed text 0 found)
    ∙ ap (map without_return) (not_last (before_first is_line_feed text) (slice_split is_line_feed (after_first is_line_feed text)) (omega (arith, length-slice_split is_line_feed (after_first is_line_feed text)))))
    (λ past. ap (λ pieces. map without_return (without_empty_end pieces)) (slice_split_none is_line_feed text (no_feed text past))
    ∙ ap (map without_return) (last_piece text some)
    ∙ ap (λ piece. without_return piece ∷ []) (sym (take_all (position_or_len is_line_feed text) text past))
    ∙ ap (λ rest. without_return (before_first is_line_feed text) ∷ lines_of rest) (sym (drop_all (position_or_len is_line_feed text + 1) text (omega arith))))
    (cases_lt (position_or_len is_line_feed text) (length text))

-- what a search for a line feed gives
pub first_feed : (text : List ℕ) (place : Option ℕ) → IsFirstByte (is_byte 10) text place
    → MatchOption place (length text ≡ position_or_len is_line_feed text) (λ k. (k ≤ length text) × (k ≡ position_or_len is_line_feed text))
first_feed text None none =
    sym (position_or_len_is is_line_feed text (length text) 0 (omega arith) (λ k below. false_from_ne_true _ (none k (omega arith) below)) (λ within. absurd (omega arith)))
first_feed text (Some k) found = (
  omega (arith, found.0.high),
  sym (position_or_len_is is_line_feed text k 0 (omega (arith, found.0.high)) (λ j below. false_from_ne_true _ (found.0.before j (omega arith) below)) (λ within. found.1)),
)

returned : (front : List ℕ) → without_return (front ++ 13 ∷ []) ≡ front
returned [] = refl
returned (byte ∷ []) = refl
returned (byte ∷ next ∷ bytes) = ap (λ l. byte ∷ l) (returned (next ∷ bytes))

kept : (front : List ℕ) (byte : ℕ) → byte ≢ 13 → without_return (front ++ byte ∷ []) ≡ front ++ byte ∷ []
kept [] byte other = grind arith
kept (first ∷ []) byte other = ap (λ l. first ∷ l) (kept [] byte other)
kept (first ∷ next ∷ bytes) byte other = ap (λ l. first ∷ l) (kept (next ∷ bytes) byte other)

-- a piece is what stands before its last byte, and that byte
front_and_last : (piece : List ℕ) → 0 < length piece → piece ≡ take (length piece - 1) piece ++ get_or piece (length piece - 1) 0 ∷ []
front_and_last piece some =
    let count : length piece ≡ length piece - 1 + 1 = omega arith in
    sym (take_all (length piece) piece (omega arith)) ∙ ap (λ n. take n piece) count ∙ take_more piece (length piece - 1) 0 (omega arith)

-- a carriage return at the end of a piece is no part of its line
pub return_dropped : (piece : List ℕ) → 0 < length piece → get_or piece (length piece - 1) 0 ≡ 13 → take (length piece - 1) piece ≡ without_return piece
return_dropped piece some ends =
    sym (returned (take (length piece - 1) piece))
    ∙ ap (λ byte. without_return (take (length piece - 1) piece ++ byte ∷ [])) (sym ends)
    ∙ ap without_return (sym (front_and_last piece some))

-- a piece without one is its line
pub nothing_dropped : (piece : List ℕ) → (0 < length piece → get_or piece (length piece - 1) 0 ≢ 13) → take (length piece) piece ≡ without_return piece
nothing_dropped [] other = refl
nothing_dropped (byte ∷ bytes) other =
    let some : 0 < length (byte ∷ bytes) = omega arith in
    take_all (length (byte ∷ bytes)) (byte ∷ bytes) (omega arith) ∙ front_and_last (byte ∷ bytes) some
    ∙ sym (kept (take (length (byte ∷ bytes) - 1) (byte ∷ bytes)) (get_or (byte ∷ bytes) (length (byte ∷ bytes) - 1) 0) (other some))
    ∙ ap without_return (sym (front_and_last (byte ∷ bytes) some))

-- the first line feed, where there is one
found_first : (text : List ℕ) → position_or_len is_line_feed text < length text
    → NoneBefore (Passes (is_byte 10) text) 0 (length text) (position_or_len is_line_feed text) × Passes (is_byte 10) text (position_or_len is_line_feed text)
found_first text inside = (
  record {
    low = omega arith;
    high = inside;
    before = λ k low below passes. absurd (false≢true (sym (fails_before_first is_line_feed text k 0 below) ∙ passes));
  },
  passes_at_first is_line_feed text 0 inside,
)

found_none : (text : List ℕ) → length text ≤ position_or_len is_line_feed text → Nowhere (Passes (is_byte 10) text) 0 (length text)
found_none text past = λ k low below passes. absurd (false≢true (sym (fails_before_first is_line_feed text k 0 (omega arith)) ∙ passes))

-- what the first step of a walk over the line feeds gives
pub first_step : (text feeds later : List ℕ) (place : Option ℕ) → feeds ≡ places (is_byte 10) text → TakesFirst feeds place later → IsFirstByte (is_byte 10) text place
first_step text feeds later None are step =
    let first : ℕ = position_or_len is_line_feed text in
    ⊎_elim
    (λ inside.
    let here = found_first text inside in
    let begins : places (is_byte 10) text ≡ first ∷ places_between (is_byte 10) text (first + 1) (length text) = places_between-first (is_byte 10) text 0 (length text) first here.0 here.1 in
    let none : feeds ≡ [] = step.0 in
    absurd (cc))
    (λ past. found_none text past)
    (cases_lt first (length text))
first_step text feeds later (Some k) are step =
    let first : ℕ = position_or_len is_line_feed text in
    ⊎_elim
    (λ inside.
    let here = found_first text inside in
    let begins : places (is_byte 10) text ≡ first ∷ places_between (is_byte 10) text (first + 1) (length text) = places_between-first (is_byte 10) text 0 (length text) first here.0 here.1 in
    let some : feeds ≡ k ∷ later = step in
    let same : first ≡ k = cc in
    subst (λ n. NoneBefore (Passes (is_byte 10) text) 0 (length text) n × Passes (is_byte 10) text n) same here)
    (λ past.
    let none : places (is_byte 10) text ≡ [] = places_between-none (is_byte 10) text 0 (length text) (omega arith) (found_none text past) in
    let some : feeds ≡ k ∷ later = step in
    absurd (cc))
    (cases_lt first (length text))

without-few : (pieces : List (List ℕ)) → length (without_empty_end pieces) ≤ length pieces
without-few [] = omega arith
without-few ([] ∷ []) = omega arith
without-few ((byte ∷ bytes) ∷ []) = omega arith
without-few (piece ∷ next ∷ pieces) = omega (arith, ap length (not_last piece (next ∷ pieces) (omega arith)), without-few (next ∷ pieces))

-- a text has at most one line more than line feeds
pub lines_few : (text : List ℕ) → length (lines_of text) ≤ count_by is_line_feed text + 1
lines_few text =
    omega
    (arith, length-map (without_empty_end (slice_split is_line_feed text)) without_return, without-few (slice_split is_line_feed text), length-slice_split is_line_feed text)
