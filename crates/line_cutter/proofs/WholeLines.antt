-- The lines of ASCII bytes up to a line feed.
use Rattle.std.proofs.Common.{◌≡◌, ℕ, ◌+◌, ◌-◌, ◌<◌, ◌≤◌, true, cond, List, [], ◌∷◌, ◌++◌, length, take, drop, get_or, map, All, ap, sym, subst, ◌∙◌, refl, arith, length-drop, length-append, suc}
use Rattle.std.specs.List.{slice_split, onto_first, count_by}
use Rattle.std.specs.Str.{IsAscii}
use Rattle.std.proofs.Math.Seq.{split_at}
use Rattle.std.proofs.lemmas.Bool.{eqb-true}
use Rattle.std.proofs.lemmas.List.{take_all, take-take, drop-drop, get_or-take, length-map, length-take, map-append}
use Rattle.std.proofs.lemmas.List.Elements.{All-cons, All-head, All-map, All-nil, All-tail}
use Rattle.std.proofs.lemmas.List.Splits.{length-slice_split, slice_split-cons_no, slice_split-cons_yes}
use Rattle.std.proofs.lemmas.List.Sums.{count_by-le-length}
use Rattle.std.proofs.lemmas.Str.{IsAscii-append, IsAscii-drop, IsAscii-take, IsUtf8-from_ascii, is_utf8-from_IsUtf8}
use Rattle.std.proofs.lemmas.Str.Ascii.{IsAscii-nil}
use Rattle.knit_base.specs.Lines.{is_line_feed, lines_of, without_empty_end, without_return}
use Rattle.knit_base.proofs.Places.{by_test}
use Rattle.memchr.specs.Find.{is_byte}
use Rattle.line_cutter.specs.Cut.{IsGoodLine, StandBetween}
use Rattle.line_cutter.proofs.Pieces.{not_last}

onto-append : (byte : ℕ) (pieces later : List (List ℕ)) → 0 < length pieces → onto_first byte (pieces ++ later) ≡ onto_first byte pieces ++ later
onto-append byte [] later some = absurd (omega arith)
onto-append byte (piece ∷ pieces) later some = refl

-- a line feed parts the pieces before it from those behind it
split-append : (front back : List ℕ) → slice_split is_line_feed (front ++ 10 ∷ back) ≡ slice_split is_line_feed front ++ slice_split is_line_feed back
split-append [] back = slice_split-cons_yes is_line_feed 10 back refl
split-append (byte ∷ front) back =
    by_test (is_line_feed byte)
    (λ is.
    slice_split-cons_yes is_line_feed byte (front ++ 10 ∷ back) is
    ∙ ap (λ pieces. [] ∷ pieces) (split-append front back)
    ∙ ap (λ pieces. pieces ++ slice_split is_line_feed back) (sym (slice_split-cons_yes is_line_feed byte front is)))
    (λ isnt.
    slice_split-cons_no is_line_feed byte (front ++ 10 ∷ back) isnt
    ∙ ap (onto_first byte) (split-append front back)
    ∙ onto-append byte (slice_split is_line_feed front) (slice_split is_line_feed back) (omega (arith, length-slice_split is_line_feed front))
    ∙ ap (λ pieces. pieces ++ slice_split is_line_feed back) (sym (slice_split-cons_no is_line_feed byte front isnt)))

-- pieces that others follow stay
none_last : (pieces later : List (List ℕ)) → 0 < length later → without_empty_end (pieces ++ later) ≡ pieces ++ without_empty_end later
none_last [] later some = refl
none_last (piece ∷ pieces) later some =
    not_last piece (pieces ++ later) (omega (arith, length-append pieces later)) ∙ ap (λ ps. piece ∷ ps) (none_last pieces later some)

-- the lines before a line feed, and those behind it
lines-joined : (front back : List ℕ) → lines_of (front ++ 10 ∷ back) ≡ map without_return (slice_split is_line_feed front) ++ lines_of back
lines-joined front back =
    ap (λ pieces. map without_return (without_empty_end pieces)) (split-append front back)
    ∙ ap (map without_return) (none_last (slice_split is_line_feed front) (slice_split is_line_feed back) (omega (arith, length-slice_split is_line_feed back)))
    ∙ map-append without_return (slice_split is_line_feed front) (without_empty_end (slice_split is_line_feed back))

-- an ASCII piece of at most so many bytes
record IsShortPiece (most : ℕ) (piece : List ℕ) : Type 0 where
  ascii : IsAscii piece
  short : length piece ≤ most

onto-short : (most byte : ℕ) (pieces : List (List ℕ)) → IsAscii (byte ∷ []) → All (IsShortPiece most) pieces → All (IsShortPiece (suc most)) (onto_first byte pieces)
onto-short most byte [] ascii are = All-cons (IsShortPiece (suc most)) (byte ∷ []) [] (record { ascii = ascii; short = omega arith }) (All-nil (IsShortPiece (suc most)))
onto-short most byte (piece ∷ pieces) ascii are =
    let here : IsShortPiece most piece = All-head (IsShortPiece most) piece pieces are in
    All-cons (IsShortPiece (suc most)) (byte ∷ piece) pieces
    (record { ascii = IsAscii-append (byte ∷ []) piece ascii here.ascii; short = omega (arith, here.short) })
    (λ k d below. let there = All-tail (IsShortPiece most) piece pieces are k d below in record { ascii = there.ascii; short = omega (arith, there.short) })

-- the pieces of ASCII bytes
pieces-short : (text : List ℕ) → IsAscii text → All (IsShortPiece (length text)) (slice_split is_line_feed text)
pieces-short [] ascii = All-cons (IsShortPiece 0) [] [] (record { ascii = IsAscii-nil; short = omega arith }) (All-nil (IsShortPiece 0))
pieces-short (byte ∷ text) ascii =
    let later : All (IsShortPiece (length text)) (slice_split is_line_feed text) = pieces-short text (IsAscii-drop (byte ∷ text) 1 ascii) in
    by_test (is_line_feed byte)
    (λ is.
    subst (All (IsShortPiece (suc (length text)))) (sym (slice_split-cons_yes is_line_feed byte text is))
    (All-cons (IsShortPiece (suc (length text))) [] (slice_split is_line_feed text) (record { ascii = IsAscii-nil; short = omega arith })
    (λ k d below. let there = later k d below in record { ascii = there.ascii; short = omega (arith, there.short) })))
    (λ isnt.
    subst (All (IsShortPiece (suc (length text)))) (sym (slice_split-cons_no is_line_feed byte text isnt))
    (onto-short (length text) byte (slice_split is_line_feed text) (IsAscii-take (byte ∷ text) 1 ascii) later))

-- the line of a piece is its front
line-front : (piece : List ℕ) → (n : ℕ) × (take n piece ≡ without_return piece)
line-front [] = (0, refl)
line-front (byte ∷ []) =
    by_test (is_byte 13 byte)
    (λ is. (0, sym (ap (λ b. cond b [] (byte ∷ [])) is)))
    (λ isnt. (1, sym (ap (λ b. cond b [] (byte ∷ [])) isnt)))
line-front (byte ∷ next ∷ bytes) = let front = line-front (next ∷ bytes) in (suc front.0, ap (λ l. byte ∷ l) front.1)

good-piece : (most : ℕ) (piece : List ℕ) → most ≤ 4096 → IsShortPiece most piece → IsGoodLine (without_return piece)
good-piece most piece few is =
    let front = line-front piece in
    subst IsGoodLine front.1 (record {
      utf8 = is_utf8-from_IsUtf8 (take front.0 piece) (IsUtf8-from_ascii (take front.0 piece) (IsAscii-take piece front.0 is.ascii));
      short = omega (arith, length-take front.0 piece, is.short);
    })

-- the whole lines among the next bytes of a text, of which the last line feed is found
pub whole_lines : (text rest near lines : List ℕ) (start len end : ℕ) → rest ≡ take (length text - start) (drop start text) → near ≡ take len rest → len ≤ 4096
    → end < length near → is_byte 10 (get_or near end 0) ≡ true → lines ≡ take end near → IsAscii lines
    → StandBetween text start (count_by is_line_feed lines + 1) (start + end + 1)
whole_lines text rest near lines start len end rest_is near_is few within feed lines_is ascii =
    let left : rest ≡ drop start text = rest_is ∙ take_all (length text - start) (drop start text) (omega (arith, length-drop start text)) in
    let near_len : length near ≤ length rest = omega (arith, ap length near_is, length-take len rest) in
    let below : end < len = omega (arith, ap length near_is, length-take len rest) in
    let lines_len : length lines ≡ end = ap length lines_is ∙ omega (arith, length-take end near) in
    let front : take end rest ≡ lines = sym (take-take end len rest (omega arith)) ∙ ap (take end) (sym near_is) ∙ sym lines_is in
    let byte : get_or rest end 0 ≡ 10 = sym (get_or-take len rest end 0 below) ∙ ap (λ (l : List ℕ). get_or l end 0) (sym near_is) ∙ eqb-true (get_or near end 0) 10 feed in
    let behind : drop (suc end) rest ≡ drop (start + end + 1) text = ap (drop (suc end)) left ∙ drop-drop (suc end) start text ∙ ap (λ n. drop n text) (omega arith) in
    let all : drop start text ≡ lines ++ 10 ∷ drop (start + end + 1) text =
    sym left ∙ split_at rest end 0 (omega arith) ∙ ap (λ l. l ++ get_or rest end 0 ∷ drop (suc end) rest) front
    ∙ ap (λ b. lines ++ b ∷ drop (suc end) rest) byte ∙ ap (λ l. lines ++ 10 ∷ l) behind in
    record {
      lines = map without_return (slice_split is_line_feed lines);
      further = omega arith;
      first = ap lines_of all ∙ lines-joined lines (drop (start + end + 1) text);
      counted = length-map (slice_split is_line_feed lines) without_return ∙ length-slice_split is_line_feed lines;
      few = omega (arith, count_by-le-length is_line_feed lines);
      within = omega (arith, count_by-le-length is_line_feed lines, length-drop start text, ap length left);
      good = All-map IsGoodLine without_return (slice_split is_line_feed lines)
          (λ k d inside. good-piece (length lines) _ (omega arith) (pieces-short lines ascii k d inside));
    }
