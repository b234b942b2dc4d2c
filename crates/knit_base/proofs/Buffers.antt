-- Lines in a buffer that grows.
use Rattle.std.proofs.Common.{◌≡◌, ℕ, ◌+◌, ◌-◌, ◌<◌, ◌≤◌, ◌^◌, Some, List, [], ◌∷◌, ◌++◌, length, take, drop, get_or, map, All, ap, sym, subst, ◌∙◌, refl, arith, length-append}
use Rattle.std.proofs.lemmas.List.{map-append, take-append-le, drop-append-le, length-drop, take_all, length-map, get_or-map}
use Rattle.std.proofs.lemmas.List.Elements.{All-push, All-head, All-tail}
use Rattle.std.proofs.lemmas.Option.{get_or_from_slice_get, slice_get-map, slice_get_within}
use Rattle.std.specs.List.{slice_get}
use Rattle.std.specs.Option.{option_map}
use Rattle.std.proofs.Math.Seq.{drop-append_seam}
use Rattle.knit_base.specs.declared.lines.Span.{Span}
use Rattle.std.specs.Str.{IsUtf8}
use Rattle.std.proofs.lemmas.Str.{is_utf8-from_IsUtf8}
use Rattle.knit_base.specs.Lines.{AreLineSpans, HasNoLineEnd, IsLine, IsSpanWithin, last_span, span_bytes}

-- a piece that lies in the buffer stays as it is when the buffer grows
pub piece-append : (bytes more : List ℕ) (span : Span) → IsSpanWithin bytes span → span_bytes (bytes ++ more) span ≡ span_bytes bytes span
piece-append bytes more span within =
    let start : span.start ≤ length bytes = omega (arith, within.ordered, within.inside) in
    let fits : span.end - span.start ≤ length (drop span.start bytes) = omega (arith, length-drop span.start bytes, within.ordered, within.inside) in
    ap (take (span.end - span.start)) (drop-append-le span.start bytes more start)
    ∙ take-append-le (span.end - span.start) (drop span.start bytes) more fits

pub pieces-append : (bytes more : List ℕ) (spans : List Span) → All (IsSpanWithin bytes) spans → map (span_bytes (bytes ++ more)) spans ≡ map (span_bytes bytes) spans
pieces-append bytes more [] within = refl
pieces-append bytes more (span ∷ spans) within =
    ap (λ p. p ∷ map (span_bytes (bytes ++ more)) spans) (piece-append bytes more span (All-head (IsSpanWithin bytes) span spans within))
    ∙ ap (λ ps. span_bytes bytes span ∷ ps) (pieces-append bytes more spans (All-tail (IsSpanWithin bytes) span spans within))

-- what was appended is a piece
piece-last : (bytes line : List ℕ) → span_bytes (bytes ++ line) (last_span bytes line) ≡ line
piece-last bytes line =
    ap (take (length bytes + length line - length bytes)) (drop-append_seam bytes line)
    ∙ take_all (length bytes + length line - length bytes) line (omega arith)

-- the lines of a buffer, and one more
pub pieces-push : (bytes line : List ℕ) (spans : List Span) → All (IsSpanWithin bytes) spans
    → map (span_bytes (bytes ++ line)) (spans ++ last_span bytes line ∷ []) ≡ map (span_bytes bytes) spans ++ line ∷ []
pieces-push bytes line spans within =
    map-append (span_bytes (bytes ++ line)) spans (last_span bytes line ∷ [])
    ∙ ap (λ ps. ps ++ span_bytes (bytes ++ line) (last_span bytes line) ∷ []) (pieces-append bytes line spans within)
    ∙ ap (λ p. map (span_bytes bytes) spans ++ p ∷ []) (piece-last bytes line)

still_within : (bytes line : List ℕ) (span : Span) → IsSpanWithin bytes span → IsSpanWithin (bytes ++ line) span
still_within bytes line span within = record { ordered = within.ordered; inside = omega (arith, length-append bytes line, within.inside) }

pub lines-push : (bytes line : List ℕ) (spans : List Span) → AreLineSpans bytes spans → IsLine line → length spans < 16777217
    → AreLineSpans (bytes ++ line) (spans ++ last_span bytes line ∷ [])
lines-push bytes line spans lines is few = record {
  few = omega (arith, length-append spans (last_span bytes line ∷ []));
  within =
      All-push (IsSpanWithin (bytes ++ line)) spans (last_span bytes line)
      (λ k d below. still_within bytes line (get_or spans k d) (lines.within k d below))
      (record { ordered = omega arith; inside = omega (arith, length-append bytes line) });
  lines = subst (All IsLine) (sym (pieces-push bytes line spans lines.within)) (All-push IsLine (map (span_bytes bytes) spans) line lines.lines is);
}

-- the line at a place
pub line_at : (bytes : List ℕ) (spans : List Span) (i : ℕ) (d : Span) → AreLineSpans bytes spans → i < length spans → IsLine (span_bytes bytes (get_or spans i d))
line_at bytes spans i d lines within =
    subst IsLine (get_or-map (span_bytes bytes) spans i d [] within) (lines.lines i [] (subst (λ n. i < n) (sym (length-map spans (span_bytes bytes))) within))

-- the piece at a place is a line, and the line at that place
pub got_line : (bytes buffer : List ℕ) (spans : List Span) (names : List (List ℕ)) (i : ℕ) (span : Span) → AreLineSpans bytes spans → map (span_bytes bytes) spans ≡ names
    → buffer ≡ bytes → slice_get spans i ≡ Some span → IsLine (span_bytes buffer span) × (Some (span_bytes buffer span) ≡ slice_get names i)
got_line bytes buffer spans names i span lines view same found =
    let within : i < length spans = slice_get_within spans i span found in
    let here : span ≡ get_or spans i span = sym (get_or_from_slice_get spans i span span found) in
    let text : span_bytes buffer span ≡ span_bytes bytes (get_or spans i span) = ap (λ b. span_bytes b span) same ∙ ap (span_bytes bytes) here in (
      subst IsLine (sym text) (line_at bytes spans i span lines within),
      ap (λ b. Some (span_bytes b span)) same ∙ sym (ap (option_map (span_bytes bytes)) found) ∙ sym (slice_get-map (span_bytes bytes) spans i) ∙ ap (λ ls. slice_get ls i) view,
    )

-- a line was put at the end of the buffer, and its span behind the others
pub lines-pushed : (bytes bytes' text line : List ℕ) (spans all : List Span) (names : List (List ℕ)) → AreLineSpans bytes spans → map (span_bytes bytes) spans ≡ names → IsLine line → length names < 16777217
    → text ≡ line → bytes' ≡ bytes ++ text → all ≡ spans ++ last_span bytes text ∷ [] → AreLineSpans bytes' all × (map (span_bytes bytes') all ≡ names ++ line ∷ [])
lines-pushed bytes bytes' text line spans all names lines view is few same_text grown pushed =
    let buffer : bytes' ≡ bytes ++ line = grown ∙ ap (λ t. bytes ++ t) same_text in
    let places : all ≡ spans ++ last_span bytes line ∷ [] = pushed ∙ ap (λ t. spans ++ last_span bytes t ∷ []) same_text in
    let room : length spans < 16777217 = omega (arith, length-map spans (span_bytes bytes), ap length view) in (
      subst (λ b. AreLineSpans b all) (sym buffer) (subst (AreLineSpans (bytes ++ line)) (sym places) (lines-push bytes line spans lines is room)),
      ap (λ b. map (span_bytes b) all) buffer ∙ ap (map (span_bytes (bytes ++ line))) places ∙ pieces-push bytes line spans lines.within ∙ ap (λ n. n ++ line ∷ []) view,
    )

-- a short text without a line feed is a line
pub text_line : (text : List ℕ) → IsUtf8 text → HasNoLineEnd text → length text < 2 ^ 16 → IsLine text
text_line text utf8 one short = record { utf8 = is_utf8-from_IsUtf8 text utf8; one = one; short = short }
