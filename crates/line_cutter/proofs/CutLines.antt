-- Line after line of a text.
use Rattle.std.proofs.Common.{◌≡◌, ◌≢◌, ℕ, ◌+◌, ◌-◌, ◌<◌, ◌≤◌, true, false, List, [], ◌∷◌, ◌++◌, length, take, drop, get_or, map, All, ap, sym, subst, ◌∙◌, refl, arith, length-drop, length-append, append_assoc, append-nil}
use Rattle.std.specs.List.{position_or_len, before_first, after_first}
use Rattle.std.proofs.lemmas.List.{take_all, drop_all, drop-drop, map-append, length-map, length-take, get_or-take, take-take}
use Rattle.std.proofs.lemmas.List.Sums.{fails_before_first}
use Rattle.std.proofs.lemmas.List.Elements.{All-push}
use Rattle.knit_base.specs.declared.lines.Span.{Span}
use Rattle.knit_base.specs.Lines.{HasNoLineEnd, IsLine, IsSpanWithin, is_line_feed, lines_of, span_bytes, without_return}
use Rattle.line_cutter.specs.declared.line.Found.{Found}
use Rattle.line_cutter.specs.declared.fault.CutFault.{CutFault}
use Rattle.line_cutter.specs.declared.fault.CutFault.TheVariants.{NotUtf8, LineLong, NoMemory}
use Rattle.line_cutter.specs.Cut.{AreCut, AreCutTo, IsFirstBad, IsGoodLine, IsNextLine, IsNextRefused, IsLineRefused}
use Rattle.line_cutter.proofs.Pieces.{lines_of-next}

-- one more line
pub cut_more : (text : List ℕ) (spans more : List Span) (next : ℕ) (found : Found) → AreCutTo text spans next → next < length text
    → IsNextLine text next found → more ≡ spans ++ found.line ∷ [] → AreCutTo text more found.next
cut_more text spans more next found so_far some here pushed =
    let grown : map (span_bytes text) more ≡ map (span_bytes text) spans ++ span_bytes text found.line ∷ [] = ap (map (span_bytes text)) pushed ∙ map-append (span_bytes text) spans (found.line ∷ []) in
    let line : IsLine (span_bytes text found.line) = record { utf8 = here.good.utf8; one = here.one; short = omega (arith, here.good.short) } in
    let count : length more ≡ length spans + 1 = ap length pushed ∙ length-append spans (found.line ∷ []) in
    record {
      lines_are = ap (λ l. l ++ lines_of (drop found.next text)) grown
          ∙ append_assoc (map (span_bytes text) spans) (span_bytes text found.line ∷ []) (lines_of (drop found.next text))
          ∙ ap (λ l. map (span_bytes text) spans ++ l) (sym here.first) ∙ so_far.lines_are;
      good = subst (All IsGoodLine) (sym grown) (All-push IsGoodLine (map (span_bytes text) spans) (span_bytes text found.line) so_far.good here.good);
      within = subst (All (IsSpanWithin text)) (sym pushed) (All-push (IsSpanWithin text) spans found.line so_far.within here.within);
      lines = subst (All IsLine) (sym grown) (All-push IsLine (map (span_bytes text) spans) (span_bytes text found.line) so_far.lines line);
      few = omega (arith, so_far.few, here.further, count);
      fit = omega (arith, so_far.few, count);
    }

-- nothing is cut yet
pub cut_none : (text : List ℕ) → AreCutTo text [] 0
cut_none text = record {
  lines_are = refl;
  good = λ k d below. absurd (omega arith);
  within = λ k d below. absurd (omega arith);
  lines = λ k d below. absurd (omega arith);
  few = omega arith;
  fit = omega arith;
}

-- nothing is left
pub cut_all : (text : List ℕ) (spans : List Span) (next : ℕ) → AreCutTo text spans next → length text ≤ next → AreCut text spans
cut_all text spans next all past = record {
  lines_are = sym (append-nil (map (span_bytes text) spans)) ∙ ap (λ rest. map (span_bytes text) spans ++ lines_of rest) (sym (drop_all next text past)) ∙ all.lines_are;
  good = all.good;
  within = all.within;
  lines = all.lines;
  fit = all.fit;
}

-- the next line is refused, so it is the first bad one
pub bad_found : (text : List ℕ) (spans : List Span) (next number : ℕ) (fault : CutFault) → AreCutTo text spans next → number ≡ length spans + 1
    → IsNextRefused text next number fault → IsFirstBad (lines_of text) fault
bad_found text spans next number (NotUtf8 named) so_far count here = record {
  before = map (span_bytes text) spans;
  bad = here.line;
  after = here.later;
  lines_are = sym so_far.lines_are ∙ ap (λ l. map (span_bytes text) spans ++ l) here.first;
  counted = here.refused.0 ∙ count ∙ ap (λ n. n + 1) (sym (length-map spans (span_bytes text)));
  good_before = so_far.good;
  is_bad = here.refused.1;
}
bad_found text spans next number (LineLong named) so_far count here = record {
  before = map (span_bytes text) spans;
  bad = here.line;
  after = here.later;
  lines_are = sym so_far.lines_are ∙ ap (λ l. map (span_bytes text) spans ++ l) here.first;
  counted = here.refused.0 ∙ count ∙ ap (λ n. n + 1) (sym (length-map spans (span_bytes text)));
  good_before = so_far.good;
  is_bad = here.refused.1;
}
bad_found text spans next number NoMemory so_far count here = absurd here.refused

is_no_feed : (byte : ℕ) → is_line_feed byte ≡ false → byte ≢ 10
is_no_feed byte fails same =
    let yes : is_line_feed byte ≡ true = ap is_line_feed same in
    cc

-- the first line of what is left of a text
pub record FirstLine (text line : List ℕ) (start next : ℕ) : Type 0 where
  pub first : lines_of (drop start text) ≡ line ∷ lines_of (drop next text)
  pub here : span_bytes text (record { start = start; end = start + length line }) ≡ line
  pub inside : start + length line ≤ length text
  pub one : HasNoLineEnd line

-- the first line of what is left, and the lines behind it
pub first_line : (text rest front line : List ℕ) (start len n : ℕ) → start < length text → rest ≡ take (length text - start) (drop start text)
    → len ≡ position_or_len is_line_feed rest → len ≤ length rest → front ≡ take len rest
    → n ≤ length front → take n front ≡ without_return front → line ≡ take n front
    → FirstLine text line start (start + length front + 1)
first_line text rest front line start len n some rest_is len_is fits front_is few dropped line_is =
    let left : rest ≡ drop start text = rest_is ∙ take_all (length text - start) (drop start text) (omega (arith, length-drop start text)) in
    let left_len : length rest ≡ length text - start = ap length left ∙ length-drop start text in
    let front_len : length front ≡ len = ap length front_is ∙ omega (arith, length-take len rest) in
    let line_len : length line ≡ n = ap length line_is ∙ omega (arith, length-take n front) in
    let whole : front ≡ before_first is_line_feed rest = front_is ∙ ap (λ k. take k rest) len_is in
    let of_rest : line ≡ take n rest = line_is ∙ ap (take n) front_is ∙ take-take n len rest (omega arith) in
    let behind : after_first is_line_feed rest ≡ drop (start + length front + 1) text =
    ap (λ k. drop (k + 1) rest) (sym len_is) ∙ ap (drop (len + 1)) left ∙ drop-drop (len + 1) start text ∙ ap (λ k. drop k text) (omega arith) in
    record {
      first = ap lines_of (sym left) ∙ lines_of-next rest (omega arith)
          ∙ ap (λ l. l ∷ lines_of (after_first is_line_feed rest)) (ap without_return (sym whole) ∙ sym dropped ∙ sym line_is)
          ∙ ap (λ l. line ∷ lines_of l) behind;
      here = ap (λ k. take k (drop start text)) (omega arith) ∙ ap (take n) (sym left) ∙ sym of_rest;
      inside = omega arith;
      one = λ k d below.
          let before : k < position_or_len is_line_feed rest = omega arith in
          let same : get_or line k d ≡ get_or rest k d = ap (λ l. get_or l k d) of_rest ∙ get_or-take n rest k d (omega arith) in
          is_no_feed (get_or line k d) (ap is_line_feed same ∙ fails_before_first is_line_feed rest k d before);
    }

-- it is good
pub good_line : (text line : List ℕ) (start next : ℕ) → start < next → FirstLine text line start next → IsGoodLine line
    → IsNextLine text start (record { line = record { start = start; end = start + length line }; next = next })
good_line text line start next further found good = record {
  here = refl;
  within = record { ordered = omega arith; inside = found.inside };
  further = further;
  first = found.first ∙ ap (λ l. l ∷ lines_of (drop next text)) (sym found.here);
  good = subst IsGoodLine (sym found.here) good;
  one = subst HasNoLineEnd (sym found.here) found.one;
}

-- it is refused
pub bad_line : (text line : List ℕ) (start next number : ℕ) (fault : CutFault) → FirstLine text line start next → IsLineRefused line number fault → IsNextRefused text start number fault
bad_line text line start next number fault found refused = record {
  line = line;
  later = lines_of (drop next text);
  first = found.first;
  refused = refused;
}
