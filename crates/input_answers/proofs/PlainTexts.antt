-- The lines of a text have no line feed, and a good one may stand behind a bar.
use Rattle.std.proofs.Common.{◌≡◌, ◌≢◌, ℕ, ◌+◌, ◌≤◌, Bool, true, false, cond, ◌==◌, List, [], ◌∷◌, All, length, map, refl, arith}
use Rattle.std.specs.List.{AllByRecursion, onto_first, slice_split}
use Rattle.std.proofs.lemmas.Bool.{eqb-false}
use Rattle.std.proofs.lemmas.List.Elements.{All-cons, All-head, All-nil, All-tail}
use Rattle.std.proofs.lemmas.List.Sums.{count_by-le-length}
use Rattle.knit_base.specs.Lines.{HasNoLineEnd, is_line_feed, lines_of, without_empty_end, without_return}
use Rattle.line_cutter.specs.Cut.{IsGoodLine}
use Rattle.line_cutter.proofs.Pieces.{lines_few}
use Rattle.journal_file.specs.SavedParts.{IsShortLine}

abbrev IsPlain : ℕ → Type 0
IsPlain byte = byte ≢ 10

no_feed : HasNoLineEnd []
no_feed = All-nil IsPlain

onto_plain : (byte : ℕ) → byte ≢ 10 → (pieces : List (List ℕ)) → AllByRecursion HasNoLineEnd pieces → AllByRecursion HasNoLineEnd (onto_first byte pieces)
onto_plain byte other [] each = (All-cons IsPlain byte [] other no_feed, tt)
onto_plain byte other (piece ∷ pieces) each = (All-cons IsPlain byte piece other each.0, each.1)

-- what stands between line feeds has none
split_plain : (text : List ℕ) → AllByRecursion HasNoLineEnd (slice_split is_line_feed text)
split_plain [] = (no_feed, tt)
split_plain (byte ∷ text) = go (is_line_feed byte) refl (split_plain text)
  where
    go : (t : Bool) → is_line_feed byte ≡ t → AllByRecursion HasNoLineEnd (slice_split is_line_feed text)
        → AllByRecursion HasNoLineEnd (cond t ([] ∷ slice_split is_line_feed text) (onto_first byte (slice_split is_line_feed text)))
    go true is rest = (no_feed, rest)
    go false is rest = onto_plain byte (eqb-false byte 10 is) (slice_split is_line_feed text) rest

kept_plain : (pieces : List (List ℕ)) → AllByRecursion HasNoLineEnd pieces → AllByRecursion HasNoLineEnd (without_empty_end pieces)
kept_plain [] each = tt
kept_plain ([] ∷ []) each = tt
kept_plain ([] ∷ next ∷ pieces) each = (each.0, kept_plain (next ∷ pieces) each.1)
kept_plain ((byte ∷ bytes) ∷ []) each = (each.0, tt)
kept_plain ((byte ∷ bytes) ∷ next ∷ pieces) each = (each.0, kept_plain (next ∷ pieces) each.1)

returned_plain : (piece : List ℕ) → HasNoLineEnd piece → HasNoLineEnd (without_return piece)
returned_plain [] plain = no_feed
returned_plain (byte ∷ []) plain = go (byte == 13)
  where
    go : (t : Bool) → HasNoLineEnd (cond t [] (byte ∷ []))
    go true = no_feed
    go false = plain
returned_plain (byte ∷ next ∷ bytes) plain =
    All-cons IsPlain byte (without_return (next ∷ bytes)) (All-head IsPlain byte (next ∷ bytes) plain) (returned_plain (next ∷ bytes) (All-tail IsPlain byte (next ∷ bytes) plain))

all_returned : (pieces : List (List ℕ)) → AllByRecursion HasNoLineEnd pieces → AllByRecursion HasNoLineEnd (map without_return pieces)
all_returned [] each = tt
all_returned (piece ∷ pieces) each = (returned_plain piece each.0, all_returned pieces each.1)

-- the lines of a text
lines_plain : (text : List ℕ) → AllByRecursion HasNoLineEnd (lines_of text)
lines_plain text = all_returned (without_empty_end (slice_split is_line_feed text)) (kept_plain (slice_split is_line_feed text) (split_plain text))

short_too : (lines : List (List ℕ)) → All IsGoodLine lines → AllByRecursion HasNoLineEnd lines → AllByRecursion IsShortLine lines
short_too [] good plain = tt
short_too (line ∷ lines) good plain =
    let first = All-head IsGoodLine line lines good in
    (record { utf8 = first.utf8; one = plain.0; short = first.short }, short_too lines (All-tail IsGoodLine line lines good) plain.1)

-- the good lines of a text
pub short_lines : (text : List ℕ) → All IsGoodLine (lines_of text) → AllByRecursion IsShortLine (lines_of text)
short_lines text good = short_too (lines_of text) good (lines_plain text)

-- are at most one more than its bytes
pub lines_count : (text : List ℕ) → length (lines_of text) ≤ length text + 1
lines_count text = omega (arith, lines_few text, count_by-le-length is_line_feed text)
