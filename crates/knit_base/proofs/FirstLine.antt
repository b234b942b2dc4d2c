-- The first line of a text, where it is given.
use Rattle.std.proofs.Common.{◌≡◌, ◌≢◌, ℕ, ◌<◌, false, List, [], ◌∷◌, ◌++◌, length, map, All, ap, sym, ◌∙◌, refl, arith, append-nil, length-append}
use Rattle.std.specs.List.{onto_first, slice_split}
use Rattle.std.proofs.lemmas.List.{map-append}
use Rattle.std.proofs.lemmas.List.Elements.{All-head, All-tail}
use Rattle.std.proofs.lemmas.List.Splits.{slice_split_at, slice_split-cons_no, slice_split-cons_yes, length-slice_split}
use Rattle.knit_base.proofs.Places.{by_test}
use Rattle.knit_base.specs.Lines.{is_line_feed, lines_of, without_empty_end, without_return}

-- a piece that others follow stays, also where it is empty
not_last : (piece : List ℕ) (pieces : List (List ℕ)) → 0 < length pieces → without_empty_end (piece ∷ pieces) ≡ piece ∷ without_empty_end pieces
not_last piece [] some = absurd (omega arith)
not_last [] (next ∷ pieces) some = refl
not_last (byte ∷ bytes) (next ∷ pieces) some = refl

-- the byte is neither of the two that can end a line
pub record IsInLine (byte : ℕ) : Type 0 where
  pub feed : byte ≢ 10
  pub back : byte ≢ 13

no_feed : (byte : ℕ) → byte ≢ 10 → is_line_feed byte ≡ false
no_feed byte other = grind arith

kept : (line : List ℕ) → All IsInLine line → without_return line ≡ line
kept [] are = refl
kept (byte ∷ []) are = let other : byte ≢ 13 = (All-head IsInLine byte [] are).back in grind arith
kept (byte ∷ next ∷ bytes) are = ap (λ l. byte ∷ l) (kept (next ∷ bytes) (All-tail IsInLine byte (next ∷ bytes) are))

-- a line without line ends, its line feed, and what stands behind it
pub lines_of-line : (line rest : List ℕ) → All IsInLine line → lines_of (line ++ 10 ∷ rest) ≡ line ∷ lines_of rest
lines_of-line line rest are =
    ap (λ pieces. map without_return (without_empty_end pieces)) (slice_split_at is_line_feed line 10 rest (λ k d below. no_feed _ (are k d below).feed) refl)
    ∙ ap (map without_return) (not_last line (slice_split is_line_feed rest) (omega (arith, length-slice_split is_line_feed rest)))
    ∙ ap (λ l. l ∷ lines_of rest) (kept line are)

onto_append : (byte : ℕ) (pieces more : List (List ℕ)) → 0 < length pieces → onto_first byte (pieces ++ more) ≡ onto_first byte pieces ++ more
onto_append byte [] more some = absurd (omega arith)
onto_append byte (piece ∷ pieces) more some = refl

split-append : (front rest : List ℕ) → slice_split is_line_feed (front ++ 10 ∷ rest) ≡ slice_split is_line_feed front ++ slice_split is_line_feed rest
split-append [] rest = slice_split-cons_yes is_line_feed 10 rest refl
split-append (byte ∷ front) rest =
    by_test (is_line_feed byte)
    (λ is. slice_split-cons_yes is_line_feed byte (front ++ 10 ∷ rest) is
    ∙ ap (λ pieces. [] ∷ pieces) (split-append front rest)
    ∙ ap (λ pieces. pieces ++ slice_split is_line_feed rest) (sym (slice_split-cons_yes is_line_feed byte front is)))
    (λ isnt. slice_split-cons_no is_line_feed byte (front ++ 10 ∷ rest) isnt
    ∙ ap (onto_first byte) (split-append front rest)
    ∙ onto_append byte (slice_split is_line_feed front) (slice_split is_line_feed rest) (omega (arith, length-slice_split is_line_feed front))
    ∙ ap (λ pieces. pieces ++ slice_split is_line_feed rest) (sym (slice_split-cons_no is_line_feed byte front isnt)))

kept_before : (pieces last : List (List ℕ)) → 0 < length last → without_empty_end (pieces ++ last) ≡ pieces ++ without_empty_end last
kept_before [] last some = refl
kept_before (piece ∷ pieces) last some =
    not_last piece (pieces ++ last) (omega (arith, length-append pieces last)) ∙ ap (λ ps. piece ∷ ps) (kept_before pieces last some)

split_lines : (front rest : List ℕ) → lines_of (front ++ 10 ∷ rest) ≡ map without_return (slice_split is_line_feed front) ++ lines_of rest
split_lines front rest =
    ap (λ pieces. map without_return (without_empty_end pieces)) (split-append front rest)
    ∙ ap (map without_return) (kept_before (slice_split is_line_feed front) (slice_split is_line_feed rest) (omega (arith, length-slice_split is_line_feed rest)))
    ∙ map-append without_return (slice_split is_line_feed front) (without_empty_end (slice_split is_line_feed rest))

-- the lines of a front that ends with a line feed, and those behind it
pub lines_of-front : (front rest : List ℕ) → lines_of (front ++ 10 ∷ rest) ≡ lines_of (front ++ 10 ∷ []) ++ lines_of rest
lines_of-front front rest =
    split_lines front rest ∙ ap (λ lines. lines ++ lines_of rest) (sym (append-nil (map without_return (slice_split is_line_feed front)))) ∙ ap (λ lines. lines ++ lines_of rest) (sym (split_lines front []))
