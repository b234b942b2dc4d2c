-- Copies of pieces of a buffer.
use Rattle.std.proofs.Common.{◌≡◌, ℕ, ◌+◌, ◌-◌, ◌<◌, ◌≤◌, List, [], ◌∷◌, ◌++◌, length, take, drop, get_or, map, All, ap, sym, ◌∙◌, refl, arith, subst, length-append, append_assoc}
use Rattle.std.specs.List.{slice_range}
use Rattle.std.proofs.lemmas.List.{drop-drop, drop-map, drop-take, get_or-map, length-drop, length-map, length-take, map-append, take-map, take-take, take_more}
use Rattle.std.proofs.lemmas.List.Elements.{All-cons, All-drop, All-head, All-nil, All-push, All-tail, All-take}
use Rattle.knit_base.specs.declared.lines.Span.{Span}
use Rattle.knit_base.specs.Lines.{AreCopied, BeginWith, HasBytes, IsSpanWithin, MayLoseFirst, behind_first, span_bytes}
use Rattle.knit_base.proofs.Buffers.{piece-append, pieces-append}

abbrev pub moved : Span → Span → Span
moved reach wanted = record { start = wanted.start - reach.start; end = wanted.end - reach.start }

-- a piece of a piece
piece-piece : (bytes : List ℕ) (reach wanted : Span) → IsSpanWithin bytes reach → IsSpanWithin bytes wanted → reach.start ≤ wanted.start → wanted.end ≤ reach.end
    → span_bytes (span_bytes bytes reach) (moved reach wanted) ≡ span_bytes bytes wanted
piece-piece bytes reach wanted around within begins ends =
    let before : ℕ = wanted.start - reach.start in
    let left : ℕ = reach.end - wanted.start in
    let count : ℕ = wanted.end - wanted.start in
    let whole : reach.end - reach.start ≡ (wanted.start - reach.start) + (reach.end - wanted.start) = omega (arith, within.ordered) in
    let counted : wanted.end - reach.start - (wanted.start - reach.start) ≡ wanted.end - wanted.start = omega (arith, within.ordered) in
    let place : reach.start + (wanted.start - reach.start) ≡ wanted.start = omega arith in
    ap (λ n. take n (drop before (span_bytes bytes reach))) counted
    ∙ ap (λ n. take count (drop before (take n (drop reach.start bytes)))) whole
    ∙ ap (take count) (drop-take before left (drop reach.start bytes))
    ∙ take-take count left (drop before (drop reach.start bytes)) (omega arith)
    ∙ ap (take count) (drop-drop before reach.start bytes ∙ ap (λ n. drop n bytes) place)

-- a piece that stands in the front of a copy
pub piece-front : (bytes copy : List ℕ) (reach wanted : Span) → IsSpanWithin bytes reach → IsSpanWithin bytes wanted → BeginWith (span_bytes bytes reach) copy
    → reach.start ≤ wanted.start → wanted.end ≤ reach.end → span_bytes copy (moved reach wanted) ≡ span_bytes bytes wanted
piece-front bytes copy reach wanted around within front begins ends =
    let ordered : wanted.start ≤ wanted.end = within.ordered in
    let inside : reach.end ≤ length bytes = around.inside in
    let counted : length (span_bytes bytes reach) ≡ reach.end - reach.start = omega (arith, length-take (reach.end - reach.start) (drop reach.start bytes), length-drop reach.start bytes) in
    let here : IsSpanWithin (span_bytes bytes reach) (moved reach wanted) = record { ordered = omega arith; inside = omega arith } in
    ap (λ b. span_bytes b (moved reach wanted)) front.whole
    ∙ piece-append (span_bytes bytes reach) front.rest (moved reach wanted) here
    ∙ piece-piece bytes reach wanted around within begins ends

-- the first so many pieces are copied
pub record CopiedSoFar (bytes : List ℕ) (count : ℕ) (spans : List Span) (reach : Span) (i : ℕ) (copy : List ℕ) (places : List Span) : Type 0 where
  pub front : BeginWith (span_bytes bytes reach) copy
  pub copied : AreCopied bytes count (take i spans) copy places
  pub counted : length places ≡ i

-- one more
pub copied_more : (bytes copy longer : List ℕ) (count : ℕ) (spans places more : List Span) (reach place d : Span) (i : ℕ)
    → CopiedSoFar bytes count spans reach i copy places → i < length spans
    → BeginWith copy longer → IsSpanWithin longer place → span_bytes longer place ≡ span_bytes bytes (behind_first count (get_or spans i d)) → more ≡ places ++ place ∷ []
    → CopiedSoFar bytes count spans reach (i + 1) longer more
copied_more bytes copy longer count spans places more reach place d i so_far below grown within same pushed =
    let read : Span → List ℕ = λ s. span_bytes bytes (behind_first count s) in
    record {
      front = record {
        rest = so_far.front.rest ++ grown.rest;
        whole = grown.whole ∙ ap (λ b. b ++ grown.rest) so_far.front.whole ∙ append_assoc (span_bytes bytes reach) so_far.front.rest grown.rest;
      };
      copied = record {
        within = subst (All (IsSpanWithin longer)) (sym pushed) (All-push (IsSpanWithin longer) places place
            (λ k d inside. let here = so_far.copied.within k d inside in record { ordered = here.ordered; inside = omega (arith, here.inside, ap length grown.whole, length-append copy grown.rest) })
            within);
        same = ap (map (span_bytes longer)) pushed
            ∙ map-append (span_bytes longer) places (place ∷ [])
            ∙ ap (λ (ps : List (List ℕ)). ps ++ span_bytes longer place ∷ []) (ap (λ b. map (span_bytes b) places) grown.whole ∙ pieces-append copy grown.rest places so_far.copied.within ∙ so_far.copied.same)
            ∙ ap (λ (p : List ℕ). map read (take i spans) ++ p ∷ []) same
            ∙ sym (map-append read (take i spans) (get_or spans i d ∷ []))
            ∙ ap (map read) (sym (take_more spans i d below));
      };
      counted = ap length pushed ∙ length-append places (place ∷ []) ∙ ap (λ n. n + 1) so_far.counted;
    }

-- a piece without its first bytes
piece-behind : (bytes : List ℕ) (count : ℕ) (span : Span) → HasBytes count span → span_bytes bytes (behind_first count span) ≡ drop count (span_bytes bytes span)
piece-behind bytes count span long =
    let left : ℕ = span.end - (span.start + count) in
    let whole : span.end - span.start ≡ count + (span.end - (span.start + count)) = omega (arith, long) in
    sym
    (ap (λ n. drop count (take n (drop span.start bytes))) whole
    ∙ drop-take count left (drop span.start bytes)
    ∙ ap (take left) (drop-drop count span.start bytes))

pieces-behind : (bytes : List ℕ) (count : ℕ) (spans : List Span) → All (HasBytes count) spans
    → map (λ span. span_bytes bytes (behind_first count span)) spans ≡ map (drop count) (map (span_bytes bytes) spans)
pieces-behind bytes count [] long = refl
pieces-behind bytes count (span ∷ spans) long =
    ap (λ (p : List ℕ). p ∷ map (λ s. span_bytes bytes (behind_first count s)) spans) (piece-behind bytes count span (All-head (HasBytes count) span spans long))
    ∙ ap (λ (ps : List (List ℕ)). drop count (span_bytes bytes span) ∷ ps) (pieces-behind bytes count spans (All-tail (HasBytes count) span spans long))

module _ (bytes : List ℕ) (spans : List Span) (names : List (List ℕ)) (start end : ℕ) (view : map (span_bytes bytes) spans ≡ names) where
  names_of_range : map (span_bytes bytes) (slice_range spans start end) ≡ slice_range names start end
  names_of_range =
      sym (take-map (span_bytes bytes) (end - start) (drop start spans))
      ∙ ap (take (end - start)) (sym (drop-map (span_bytes bytes) start spans))
      ∙ ap (λ (l : List (List ℕ)). slice_range l start end) view

  -- what was copied of some of the lines
  pub range_copied : (count : ℕ) (copy : List ℕ) (places : List Span) → All (HasBytes count) (slice_range spans start end)
      → AreCopied bytes count (slice_range spans start end) copy places → map (span_bytes copy) places ≡ map (drop count) (slice_range names start end)
  range_copied count copy places long copied =
      copied.same ∙ pieces-behind bytes count (slice_range spans start end) long ∙ ap (map (drop count)) names_of_range

  -- lines that have a first byte lie in spans that have one
  pub have_first : All MayLoseFirst (slice_range names start end) → All (HasBytes 1) (slice_range spans start end)
  have_first first = λ k d below.
      let span : Span = get_or (slice_range spans start end) k d in
      let line : get_or (slice_range names start end) k [] ≡ span_bytes bytes (get_or (slice_range spans start end) k d) =
      ap (λ (l : List (List ℕ)). get_or l k []) (sym names_of_range) ∙ get_or-map (span_bytes bytes) (slice_range spans start end) k d [] below in
      let inside : k < length (slice_range names start end) = omega (arith, below, ap length names_of_range, length-map (slice_range spans start end) (span_bytes bytes)) in
      omega (arith, (first k [] inside).some, ap length line, length-take (span.end - span.start) (drop span.start bytes))

pub have_none : (bytes : List ℕ) (spans : List Span) (start end : ℕ) → All (IsSpanWithin bytes) spans → All (HasBytes 0) (slice_range spans start end)
have_none bytes spans start end within = λ k d below.
    let here = All-take (IsSpanWithin bytes) (end - start) (drop start spans) (All-drop (IsSpanWithin bytes) start spans within) k d below in
    omega (arith, here.ordered)

-- the bytes themselves hold what a copy would
pub kept_bytes : (bytes : List ℕ) (count : ℕ) (spans places : List Span) → All (IsSpanWithin bytes) spans → All (HasBytes count) spans → places ≡ map (behind_first count) spans
    → AreCopied bytes count spans bytes places
kept_bytes bytes count spans places within long is = record {
  within = subst (All (IsSpanWithin bytes)) (sym is) (each spans within long);
  same = ap (map (span_bytes bytes)) is ∙ read spans;
}
  where
    each : (some : List Span) → All (IsSpanWithin bytes) some → All (HasBytes count) some → All (IsSpanWithin bytes) (map (behind_first count) some)
    each [] w h = All-nil (IsSpanWithin bytes)
    each (span ∷ rest) w h =
        let here = All-head (IsSpanWithin bytes) span rest w in
        All-cons (IsSpanWithin bytes) (behind_first count span) (map (behind_first count) rest)
        (record { ordered = All-head (HasBytes count) span rest h; inside = here.inside })
        (each rest (All-tail (IsSpanWithin bytes) span rest w) (All-tail (HasBytes count) span rest h))

    read : (some : List Span) → map (span_bytes bytes) (map (behind_first count) some) ≡ map (λ span. span_bytes bytes (behind_first count span)) some
    read [] = refl
    read (span ∷ rest) = ap (λ (ps : List (List ℕ)). span_bytes bytes (behind_first count span) ∷ ps) (read rest)
