-- What `put head` reads: lines that say nothing are passed, and the text behind them gives names.
use Rattle.std.proofs.Common.{◌≡◌, ◌≢◌, ℕ, ◌+◌, ◌<◌, ◌≤◌, true, false, List, [], ◌∷◌, ◌++◌, length, drop, filter, get_or, Option, Some, None, unwrap_or, sym, ap, ◌∙◌, refl, append_assoc, append-nil, arith}
use Rattle.std.proofs.lemmas.List.{drop_all}
use Rattle.std.proofs.lemmas.List.Elements.{filter-append}
use Rattle.knitout_reader.specs.Head.{names_in_line}
use Rattle.script_reader.specs.Command.{BeginsNoCommand, GivesNoNames}
use Rattle.script_reader.specs.Reading.{IsCommandRead, IsPassed}
use Rattle.script_reader.specs.Statements.{Statement, Nothing, Header, Nonsense, header_said, kind_of, names_said, says_something, statements_of, text_ahead, text_or, told_from}
use Rattle.script_reader.specs.declared.command.Command.TheVariants as command
use Rattle.script_reader.specs.declared.fault.Cause.TheVariants.{BadLine}
use Rattle.script_reader.specs.declared.line.Kind.{Kind}
use Rattle.script_reader.specs.declared.line.Kind.TheVariants as kind
use Rattle.script_reader.proofs.Lines.{ahead_at, told_at}
use Rattle.script_reader.proofs.Places.{long_passed, stands_here}

module _ (lines : List (List ℕ)) (at : ℕ) (within : at < length lines) (is : kind_of (get_or lines at []) ≡ kind.Header) where
  said_ahead : (ahead : Option (List ℕ)) → text_ahead (drop (at + 1) lines) ≡ ahead → statements_of (drop at lines) ≡ header_said ahead ∷ told_from true (drop (at + 1) lines)
  said_ahead ahead ahead_is = told_at lines at within false kind.Header is ∙ ap (λ (o : Option (List ℕ)). header_said o ∷ told_from true (drop (at + 1) lines)) ahead_is

  -- no text stands there: the line of `put head` is refused
  none_ahead : (adds : ℕ) → text_ahead (drop (at + 1) lines) ≡ None → BeginsNoCommand lines at adds (at + 1) BadLine
  none_ahead adds none = record { here = Nonsense; stands = stands_here lines at Nonsense (told_from true (drop (at + 1) lines)) (said_ahead None none); counted = refl; is_cause = refl }

  module _ (place : ℕ) (p : IsPassed lines (at + 1) place) where
    pub none_at_end : (adds : ℕ) → length lines ≤ place → BeginsNoCommand lines at adds (at + 1) BadLine
    none_at_end adds past = none_ahead adds (p.ahead ∙ ap text_ahead (drop_all place lines past))

    other_ahead : (k : Kind) → k ≢ kind.Skipped → k ≢ kind.Text → (line : List ℕ) (rest : Option (List ℕ)) → text_or k line rest ≡ None
    other_ahead kind.Skipped not_skipped not_text line rest = absurd (not_skipped refl)
    other_ahead kind.Text not_skipped not_text line rest = absurd (not_text refl)
    other_ahead kind.Session not_skipped not_text line rest = refl
    other_ahead (kind.Command h) not_skipped not_text line rest = refl
    other_ahead kind.Header not_skipped not_text line rest = refl
    other_ahead (kind.Mark m) not_skipped not_text line rest = refl
    other_ahead kind.Other not_skipped not_text line rest = refl

    pub none_here : (adds : ℕ) → place < length lines → kind_of (get_or lines place []) ≢ kind.Skipped → kind_of (get_or lines place []) ≢ kind.Text → BeginsNoCommand lines at adds (at + 1) BadLine
    none_here adds there not_skipped not_text =
        none_ahead adds (p.ahead ∙ ahead_at lines place there (kind_of (get_or lines place [])) refl ∙ other_ahead (kind_of (get_or lines place [])) not_skipped not_text (get_or lines place []) (text_ahead (drop (place + 1) lines)))

    module _ (there : place < length lines) (text : kind_of (get_or lines place []) ≡ kind.Text) where
      -- what the lines say as far as the text
      said_there : (found : Option (List (List ℕ))) → names_in_line (drop 1 (get_or lines place [])) ≡ found
          → statements_of (drop at lines) ≡ (Header (unwrap_or found []) ∷ p.front) ++ names_said found ∷ statements_of (drop (place + 1) lines)
      said_there found names =
          let ahead : text_ahead (drop (at + 1) lines) ≡ Some (drop 1 (get_or lines place [])) = p.ahead ∙ ahead_at lines place there kind.Text text in
          said_ahead (Some (drop 1 (get_or lines place []))) ahead
          ∙ ap (λ (l : List Statement). header_said (Some (drop 1 (get_or lines place []))) ∷ l) (p.told true ∙ ap (λ (l : List Statement). p.front ++ l) (told_at lines place there true kind.Text text))
          ∙ ap (λ (o : Option (List (List ℕ))). Header (unwrap_or o []) ∷ (p.front ++ names_said o ∷ statements_of (drop (place + 1) lines))) names

      -- a text that gives none: that line is refused
      pub no_names : names_in_line (drop 1 (get_or lines place [])) ≡ None → GivesNoNames lines at (place + 1) BadLine
      no_names names = record {
        place = place;
        stands = record {
          front = Header [] ∷ p.front;
          back = statements_of (drop (place + 1) lines);
          told = said_there None names;
          placed = omega (arith, long_passed lines (at + 1) place p);
          are = ap (λ (l : List Statement). Header [] ∷ l) p.silent;
        };
        counted = refl;
        is_cause = refl;
      }

      -- a text that gives names
      pub gives_names : (names : List (List ℕ)) → names_in_line (drop 1 (get_or lines place [])) ≡ Some names → (adds : ℕ) → IsCommandRead lines at adds (command.PutHead names) (place + 1)
      gives_names names found adds = record {
        begins = λ skipped. let clash : kind.Skipped ≡ kind.Header = sym skipped ∙ is in cc;
        says = record {
          low = let low = p.low in omega arith;
          high = omega arith;
          front = Header names ∷ (p.front ++ Nothing ∷ []);
          told = said_there (Some names) found ∙ ap (λ (l : List Statement). Header names ∷ l) (sym (append_assoc p.front (Nothing ∷ []) (statements_of (drop (place + 1) lines))));
          are = ap (λ (l : List Statement). Header names ∷ l) (filter-append says_something p.front (Nothing ∷ []) ∙ append-nil (filter says_something p.front) ∙ p.silent);
        };
        known = refl;
        heading = λ takes. absurd (cc);
      }
