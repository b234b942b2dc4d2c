-- What the loop over text lines makes of a text.
use Rattle.std.proofs.Common.{◌≡◌, ℕ, ◌+◌, ◌-◌, ◌<◌, ◌≤◌, false, List, [], ◌∷◌, ◌++◌, length, drop, get_or, map, filter, All, sym, ap, subst, ◌∙◌, refl, arith, length-append}
use Rattle.std.specs.List.{slice_range}
use Rattle.std.proofs.lemmas.List.{drop-drop, length-map, length-take, map-append, take-append-drop}
use Rattle.std.proofs.lemmas.List.Elements.{All-head, All-push, All-tail}
use Rattle.std.proofs.lemmas.Option.{slice_get-get_or}
use Rattle.knit_base.proofs.Ranges.{range_more}
use Rattle.script_reader.specs.Places.{Say}
use Rattle.script_reader.specs.Reading.{IsTextLine}
use Rattle.script_reader.specs.Statements.{Statement, Text, kind_of, says_something, statements_of}
use Rattle.script_reader.specs.declared.line.Kind.TheVariants as kind
use Rattle.script_reader.proofs.Lines.{told_at, told_line}
use Rattle.script_reader.proofs.Places.{passed_more, passed_none, say_here, say_more, say_on}
use Rattle.script_reader.proofs.Texts.{text_line_kind}

-- texts say something
texts_said : (texts : List (List ℕ)) → filter says_something (map Text texts) ≡ map Text texts
texts_said [] = refl
texts_said (text ∷ texts) = ap (λ l. Text text ∷ l) (texts_said texts)

-- what a run of text lines says
run_told : (run rest : List (List ℕ)) → All IsTextLine run → statements_of (run ++ rest) ≡ map Text (map (drop 1) run) ++ statements_of rest
run_told [] rest are = refl
run_told (line ∷ run) rest are =
    told_line false line (run ++ rest) kind.Text (text_line_kind line (All-head IsTextLine line run are).begins)
    ∙ ap (λ (l : List Statement). Text (drop 1 line) ∷ l) (run_told run rest (All-tail IsTextLine line run are))

-- the texts that were read from these lines, up to the place i
pub record TextSoFar (lines : List (List ℕ)) (start i : ℕ) (text : List (List ℕ)) : Type 0 where
  pub few : length text ≤ i
  pub says : Say lines start i (map Text text)

module _ (lines : List (List ℕ)) (start end : ℕ) (ordered : start ≤ end) (inside : end ≤ length lines) (are : All IsTextLine (slice_range lines start end)) where
  split_run : slice_range lines start end ++ drop end lines ≡ drop start lines
  split_run =
      let place : start + (end - start) ≡ end = omega arith in
      ap (λ (l : List (List ℕ)). slice_range lines start end ++ l) (ap (λ n. drop n lines) (sym place) ∙ sym (drop-drop (end - start) start lines))
      ∙ take-append-drop (end - start) (drop start lines)

  -- what a run of text lines makes of a text
  pub text_begins : TextSoFar lines start end (map (drop 1) (slice_range lines start end))
  text_begins = record {
    few = omega (arith, length-map (slice_range lines start end) (drop 1), length-take (end - start) (drop start lines));
    says = record {
      low = ordered;
      high = inside;
      front = map Text (map (drop 1) (slice_range lines start end));
      told = ap statements_of (sym split_run) ∙ run_told (slice_range lines start end) (drop end lines) are;
      are = texts_said (map (drop 1) (slice_range lines start end));
    };
  }

module _ (lines : List (List ℕ)) (start i : ℕ) (text : List (List ℕ)) (within : i < length lines) where
  pub text_skipped : kind_of (get_or lines i []) ≡ kind.Skipped → TextSoFar lines start i text → TextSoFar lines start (i + 1) text
  text_skipped is s = record {
    few = let few = s.few in omega arith;
    says = say_on lines start i (i + 1) (map Text text) s.says (passed_more lines i i within is (passed_none lines i (omega arith)));
  }

  pub text_more : (line : List ℕ) → kind_of (get_or lines i []) ≡ kind.Text → line ≡ drop 1 (get_or lines i []) → TextSoFar lines start i text → TextSoFar lines start (i + 1) (text ++ line ∷ [])
  text_more line is line_is s =
      let said : statements_of (drop i lines) ≡ Text line ∷ statements_of (drop (i + 1) lines) =
      told_at lines i within false kind.Text is ∙ ap (λ (l : List ℕ). Text l ∷ statements_of (drop (i + 1) lines)) (sym line_is) in
      record {
        few = let few = s.few in omega (arith, length-append text (line ∷ []));
        says = subst (Say lines start (i + 1)) (sym (map-append Text text (line ∷ [])))
            (say_more lines start i (i + 1) (map Text text) (Text line ∷ []) s.says (say_here lines i (Text line) within said refl));
      }

-- a run of text lines, with one more
pub run_more : (lines : List (List ℕ)) (start i : ℕ) → start ≤ i → i < length lines → All IsTextLine (slice_range lines start i) → IsTextLine (get_or lines i [])
    → All IsTextLine (slice_range lines start (i + 1))
run_more lines start i ordered within are is =
    subst (All IsTextLine) (sym (range_more lines start i (get_or lines i []) ordered (slice_get-get_or lines i [] within)))
    (All-push IsTextLine (slice_range lines start i) (get_or lines i []) are is)
