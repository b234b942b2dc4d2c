-- Some of the lines that several lists hold.
use Rattle.std.proofs.Common.{◌≡◌, ℕ, ◌+◌, ◌-◌, ◌≤◌, List, [], ◌∷◌, length, take, drop, map, All, ap, sym, subst, ◌∙◌, refl, arith, add_assoc}
use Rattle.std.specs.List.{slice_range}
use Rattle.std.proofs.lemmas.List.{drop-drop, drop-map, drop-take, length-drop, length-map, length-take, take-map, take-take, take_all}
use Rattle.std.proofs.lemmas.List.Elements.{All-cons, All-head, All-nil, All-tail}
use Rattle.knit_base.specs.declared.lines.Span.{Span}
use Rattle.knit_base.specs.Lines.{HasBytes, AreSomeSpans, behind_first}

-- a range of mapped spans
range_mapped : (f : Span → Span) (spans : List Span) (start end : ℕ) → slice_range (map f spans) start end ≡ map f (slice_range spans start end)
range_mapped f spans start end = ap (take (end - start)) (drop-map f start spans) ∙ take-map f (end - start) (drop start spans)

-- a range of a range
range_twice : (spans : List Span) (start end from to : ℕ) → from ≤ to → to ≤ end - start → slice_range (slice_range spans start end) from to ≡ slice_range spans (start + from) (start + to)
range_twice spans start end from to ordered inside =
    let left : ℕ = end - start - from in
    let whole : end - start ≡ from + (end - start - from) = omega (arith, ordered, inside) in
    let count : to - from ≡ start + to - (start + from) = omega arith in
    ap (λ n. take (to - from) (drop from (take n (drop start spans)))) whole
    ∙ ap (take (to - from)) (drop-take from left (drop start spans))
    ∙ take-take (to - from) left (drop from (drop start spans)) (omega (arith, ordered, inside))
    ∙ ap (take (to - from)) (drop-drop from start spans)
    ∙ ap (λ n. take n (drop (start + from) spans)) count

-- bytes skipped twice
skipped_twice : (first more : ℕ) (spans : List Span) → map (behind_first more) (map (behind_first first) spans) ≡ map (behind_first (first + more)) spans
skipped_twice first more [] = refl
skipped_twice first more (span ∷ spans) =
    let here : ◌≡◌ {A = Span} (behind_first more (behind_first first span)) (behind_first (first + more) span) = λ i. record { start = add_assoc span.start first more i; end = span.end } in
    ap (λ (s : Span). s ∷ map (behind_first more) (map (behind_first first) spans)) here ∙ ap (λ ss. behind_first (first + more) span ∷ ss) (skipped_twice first more spans)

long_twice : (first more : ℕ) (spans : List Span) → All (HasBytes more) (map (behind_first first) spans) → All (HasBytes (first + more)) spans
long_twice first more [] all = All-nil (HasBytes (first + more))
long_twice first more (span ∷ spans) all =
    let here = All-head (HasBytes more) (behind_first first span) (map (behind_first first) spans) all in
    All-cons (HasBytes (first + more)) span spans (omega (arith, here)) (long_twice first more spans (All-tail (HasBytes more) (behind_first first span) (map (behind_first first) spans) all))

-- how many spans a part has
part_len : (spans : List Span) (start end skipped : ℕ) → AreSomeSpans spans start end skipped → length (map (behind_first skipped) (slice_range spans start end)) ≡ end - start
part_len spans start end skipped part =
    omega (arith, part.ordered, part.inside, length-map (slice_range spans start end) (behind_first skipped), length-take (end - start) (drop start spans), length-drop start spans)

-- A part of a part.
module _ (spans : List Span) (start end first : ℕ) (part : AreSomeSpans spans start end first) (from to more : ℕ) (ordered : from ≤ to) (inside : to ≤ length (map (behind_first first) (slice_range spans start end))) where
  fits : to ≤ end - start
  fits = omega (arith, inside, part_len spans start end first part)

  same : slice_range (map (behind_first first) (slice_range spans start end)) from to ≡ map (behind_first first) (slice_range spans (start + from) (start + to))
  same = range_mapped (behind_first first) (slice_range spans start end) from to ∙ ap (map (behind_first first)) (range_twice spans start end from to ordered fits)

  pub part_spans : map (behind_first (first + more)) (slice_range spans (start + from) (start + to)) ≡ map (behind_first more) (slice_range (map (behind_first first) (slice_range spans start end)) from to)
  part_spans = sym (skipped_twice first more (slice_range spans (start + from) (start + to))) ∙ ap (map (behind_first more)) (sym same)

  pub part_is : All (HasBytes more) (slice_range (map (behind_first first) (slice_range spans start end)) from to) → AreSomeSpans spans (start + from) (start + to) (first + more)
  part_is long = record {
    ordered = omega (arith, ordered);
    inside = omega (arith, fits, part.ordered, part.inside);
    long = long_twice first more (slice_range spans (start + from) (start + to)) (subst (All (HasBytes more)) same long);
  }

none_skipped : (spans : List Span) → map (behind_first 0) spans ≡ spans
none_skipped [] = refl
none_skipped (span ∷ spans) =
    let start : span.start + 0 ≡ span.start = omega arith in
    let here : ◌≡◌ {A = Span} (behind_first 0 span) span = λ i. record { start = start i; end = span.end } in
    ap (λ (s : Span). s ∷ map (behind_first 0) spans) here ∙ ap (λ ss. span ∷ ss) (none_skipped spans)

-- all spans are a part of themselves
pub whole_spans : (spans : List Span) (count : ℕ) → count ≡ length spans → map (behind_first 0) (slice_range spans 0 count) ≡ spans
whole_spans spans count all = none_skipped (slice_range spans 0 count) ∙ take_all (count - 0) spans (omega (arith, all))
