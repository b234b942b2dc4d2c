-- Places between the lines of a text.
use Rattle.std.proofs.Common.{◌≡◌, ℕ, ◌+◌, ◌<◌, ◌≤◌, List, [], ◌∷◌, ◌++◌, length, take, drop, get_or, All, ap, sym, subst, ◌∙◌, refl, arith, length-drop, length-append, append_assoc, append-nil}
use Rattle.std.proofs.lemmas.List.{drop_more, take_all, drop_all, length-take, take-append-drop}
use Rattle.std.proofs.Math.Seq.{drop-append_seam, take-append_seam}
use Rattle.std.proofs.lemmas.List.Elements.{All-append, All-cons, All-nil}
use Rattle.knit_base.specs.Lines.{lines_of}
use Rattle.line_cutter.specs.declared.fault.CutFault.{CutFault}
use Rattle.line_cutter.specs.declared.fault.CutFault.TheVariants.{NotUtf8, LineLong, NoMemory}
use Rattle.line_cutter.specs.Cut.{HasGoodLines, IsPlaceBehind, IsFirstBadBehind, IsFirstBadLine, IsGoodLine, IsNextRefused, StandBetween, GoodLineStandsAt}

-- the text begins behind no lines
pub behind-none : (text : List ℕ) → IsPlaceBehind text 0 0
behind-none text = record { left = refl; within = omega arith; few = omega arith; fit = omega arith; good = λ k d below. absurd (omega arith) }

-- the line that begins here
pub line_here : (text line : List ℕ) (count start next : ℕ) → IsPlaceBehind text count start → GoodLineStandsAt text start line next
    → (count < length (lines_of text)) × (get_or (lines_of text) count [] ≡ line)
line_here text line count start next here stands =
    let left : drop count (lines_of text) ≡ line ∷ lines_of (drop next text) = here.left ∙ stands.first in
    let within : count < length (lines_of text) = omega (arith, ap length left, length-drop count (lines_of text)) in
    (within, ap (λ ls. get_or ls 0 []) (sym (drop_more (lines_of text) count [] within) ∙ left))

-- one line stands between its place and the next
pub between-one : (text line : List ℕ) (start next : ℕ) → start < length text → GoodLineStandsAt text start line next → StandBetween text start 1 next
between-one text line start next some stands = record {
  lines = line ∷ [];
  further = stands.further;
  first = stands.first;
  counted = refl;
  few = omega (arith, stands.further);
  within = omega arith;
  good = All-cons IsGoodLine line [] stands.good (All-nil IsGoodLine);
}

-- so many lines more
pub behind-between : (text : List ℕ) (count start more next : ℕ) → IsPlaceBehind text count start → StandBetween text start more next → IsPlaceBehind text (count + more) next
behind-between text count start more next here between =
    let left : drop count (lines_of text) ≡ between.lines ++ lines_of (drop next text) = here.left ∙ between.first in
    let all : lines_of text ≡ (take count (lines_of text) ++ between.lines) ++ lines_of (drop next text) =
    sym (take-append-drop count (lines_of text)) ∙ ap (λ ls. take count (lines_of text) ++ ls) left ∙ sym (append_assoc (take count (lines_of text)) between.lines (lines_of (drop next text))) in
    let counted : length (take count (lines_of text) ++ between.lines) ≡ count + more =
    length-append (take count (lines_of text)) between.lines ∙ omega (arith, length-take count (lines_of text), here.within, between.counted) in
    record {
      left = ap (drop (count + more)) all ∙ ap (λ n. drop n ((take count (lines_of text) ++ between.lines) ++ lines_of (drop next text))) (sym counted)
          ∙ drop-append_seam (take count (lines_of text) ++ between.lines) (lines_of (drop next text));
      within = omega (arith, ap length all, length-append (take count (lines_of text) ++ between.lines) (lines_of (drop next text)), counted);
      few = omega (arith, here.few, between.few);
      fit = omega (arith, here.few, between.within);
      good = subst (All IsGoodLine)
          (sym (ap (take (count + more)) all ∙ ap (λ n. take n ((take count (lines_of text) ++ between.lines) ++ lines_of (drop next text))) (sym counted)
          ∙ take-append_seam (take count (lines_of text) ++ between.lines) (lines_of (drop next text))))
          (All-append IsGoodLine (take count (lines_of text)) between.lines here.good between.good);
    }

-- one line more
pub behind-more : (text line : List ℕ) (count start next : ℕ) → start < length text → IsPlaceBehind text count start → GoodLineStandsAt text start line next → IsPlaceBehind text (count + 1) next
behind-more text line count start next some here stands = behind-between text count start 1 next here (between-one text line start next some stands)

-- no line is left
pub behind-all : (text : List ℕ) (count start : ℕ) → IsPlaceBehind text count start → length text ≤ start → (count ≡ length (lines_of text)) × All IsGoodLine (lines_of text)
behind-all text count start here past =
    let none : drop count (lines_of text) ≡ [] = here.left ∙ ap lines_of (drop_all start text past) in
    let all : length (lines_of text) ≤ count = omega (arith, ap length none, length-drop count (lines_of text)) in
    (omega (arith, all, here.within), subst (All IsGoodLine) (take_all count (lines_of text) all) here.good)

-- so the text has so many lines, all of them good
pub behind-counted : (text : List ℕ) (count start : ℕ) → IsPlaceBehind text count start → length text ≤ start → HasGoodLines text count
behind-counted text count start here past = let all = behind-all text count start here past in record { counted = all.0; fit = here.fit; good = all.1 }

-- the lines of the rest of a text stand between this place and its end
pub between-rest : (text : List ℕ) (start count : ℕ) → start < length text → HasGoodLines (drop start text) count → StandBetween text start count (length text)
between-rest text start count some rest =
    let none : lines_of (drop (length text) text) ≡ [] = ap lines_of (drop_all (length text) text (omega arith)) in
    record {
      lines = lines_of (drop start text);
      further = some;
      first = sym (append-nil (lines_of (drop start text))) ∙ ap (λ ls. lines_of (drop start text) ++ ls) (sym none);
      counted = sym rest.counted;
      few = omega (arith, rest.fit, length-drop start text);
      within = omega (arith, rest.fit, length-drop start text);
      good = rest.good;
    }

bad_behind : (IsBad : List ℕ → Type 0) (text bad : List ℕ) (later : List (List ℕ)) (before count start number : ℕ) → IsPlaceBehind text count start → lines_of (drop start text) ≡ bad ∷ later → number ≡ before + count + 1
    → IsBad bad → (front : List (List ℕ)) → length front ≡ before → All IsGoodLine front → IsFirstBadLine IsBad (front ++ lines_of text) number
bad_behind IsBad text bad later before count start number here first is wrong front len good = record {
  before = front ++ take count (lines_of text);
  bad = bad;
  after = later;
  lines_are =
      ap (λ ls. front ++ ls) (sym (take-append-drop count (lines_of text)) ∙ ap (λ ls. take count (lines_of text) ++ ls) (here.left ∙ first))
      ∙ sym (append_assoc front (take count (lines_of text)) (bad ∷ later));
  counted = omega (arith, is, len, length-append front (take count (lines_of text)), length-take count (lines_of text), here.within);
  good_before = All-append IsGoodLine front (take count (lines_of text)) good here.good;
  is_bad = wrong;
}

-- the line that is refused is the first bad one, wherever the lines of the text stand
pub refused-behind : (text : List ℕ) (before count start number : ℕ) (fault : CutFault) → IsPlaceBehind text count start → IsNextRefused text start number fault → number ≡ before + count + 1
    → IsFirstBadBehind before (lines_of text) fault
refused-behind text before count start number (NotUtf8 named) here refused is =
    bad_behind _ text refused.line refused.later before count start named here refused.first (refused.refused.0 ∙ is) refused.refused.1
refused-behind text before count start number (LineLong named) here refused is =
    bad_behind _ text refused.line refused.later before count start named here refused.first (refused.refused.0 ∙ is) refused.refused.1
refused-behind text before count start number NoMemory here refused is = λ front len good. tt
