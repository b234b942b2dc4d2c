-- What follows from clap's answer.
use Rattle.std.proofs.Common.{◌≡◌, ◌∙◌, ◌≤◌, refl, sym, ap, subst, arith, true, false, List, [], ◌∷◌, map, length, Option, Some, None, codes}
use Rattle.std.specs.Prelude.{IsUtf8, String, string_bytes, slice_get, option_and_then}
use Rattle.std.specs.List.{AllByRecursion}
use Rattle.std.proofs.lemmas.Str.{IsUtf8-string_bytes}
use Rattle.clap.specs.Walk.{all_of, first_of, rows_of, settled, nothing_held}
use Rattle.clap.specs.Simple.{matches_of}
use Rattle.clap.specs.Kinds.{IsAmong}
use Rattle.clap.specs.Faults.{fault_of}
use Rattle.clap.specs.Matches.{first_value}
use Rattle.clap.specs.declared.error.kind.ErrorKind.{ErrorKind}
use Rattle.clap.specs.declared.parser.matches.Found.{Found}
use Rattle.clap.proofs.WalkLemmas.{first_value-rows}
use Rattle.command_words.specs.Arguments.{check_app}
use Rattle.command_words.specs.Grammar.{Name, Text, Item, Loops, Json, are_distinct, is_flag, option_names_in, positional_words, option_spelling, value_in}
use Rattle.command_words.specs.Taken.{taken_of}
use Rattle.command_words.specs.Given.{ItemsFit, is_on}
use Rattle.command_words.proofs.Rules.{Spot, first, second, third, command_shape, spot_at, spot_id}
use Rattle.command_words.proofs.Rows.{or_first}
use Rattle.command_words.proofs.Turns.{end_of, faults_from}
use Rattle.command_words.proofs.WalkItems.{count_at, single_value}
use Rattle.command_words.proofs.Outcomes.{Comes, bad, good}
use Rattle.command_words.proofs.Walks.{walk_comes}
use Rattle.command_words.proofs.Matches.{fault_fails, fault_none, finished_is, first_is, first_single, json_matched, loops_matched, rows_with_flags, option_matched, spot_matched, stands_first, start}

-- the words of a command line are UTF-8
pub all_utf8 : {Z : Type 0} (words : List (String Z)) → AllByRecursion IsUtf8 (map string_bytes words)
all_utf8 [] = tt
all_utf8 (w ∷ ws) = (IsUtf8-string_bytes w, all_utf8 ws)

-- the walk over the words
pub comes_of : (words : List Text) → AllByRecursion IsUtf8 words → Comes [] (taken_of None words) (faults_from start words) (end_of start words)
comes_of words u = walk_comes words u [] nothing_held (Some first) None tt stands_first

-- clap refuses only words that spell no items that fit
pub refusal_spells_nothing : (words : List Text) → AllByRecursion IsUtf8 words → (k : ErrorKind) → IsAmong k (fault_of check_app words)
    → (items : List Item) → taken_of None words ≡ Some items → ItemsFit items → ⊥
refusal_spells_nothing words u k among items is fit = go (comes_of words u)
  where
    go : Comes [] (taken_of None words) (faults_from start words) (end_of start words) → ⊥
    go (good more place spelled none stands at_top) = subst (IsAmong k) (fault_none words none at_top) among
    go (bad fails never) = never items is fit

-- what is found is what the items of the words say
pub record IsReadAs (words : List Text) (f : Found) : Type 0 where
  pub items : List Item
  pub spelled : taken_of None words ≡ Some items
  pub distinct : are_distinct (option_names_in items) ≡ true
  pub few : length (positional_words items) ≤ 3
  pub option : (n : Name) → is_flag n ≡ false → first_value f (option_spelling n) ≡ value_in n items
  pub loops : is_on (first_value f (option_spelling Loops)) ≡ is_on (value_in Loops items)
  pub json : is_on (first_value f (option_spelling Json)) ≡ is_on (value_in Json items)
  pub spot : (s : Spot) → first_value f (spot_id s) ≡ slice_get (positional_words items) (spot_at s)

few_at : (place : Option Spot) → count_at place ≤ 3
few_at (Some first) = omega arith
few_at (Some second) = omega arith
few_at (Some third) = omega arith
few_at None = omega arith

on_or : (o : Option Text) → is_on (option_and_then (λ vs. slice_get vs 0) (or_first (single_value o) (Some (codes "false" ∷ [])))) ≡ is_on o
on_or None = refl
on_or (Some v) = refl

-- words without a fault spell items that fit, and these are found
pub faultless_words_found : (words : List Text) (f : Found) → AllByRecursion IsUtf8 words → fault_of check_app words ≡ [] → rows_of f ≡ matches_of check_app words → IsReadAs words f
faultless_words_found words f u none rows = go (comes_of words u)
  where
    read : (k : Text) → first_value f k ≡ option_and_then (λ vs. slice_get vs 0) (all_of k (rows_with_flags (settled command_shape.rules (end_of start words).held).rows))
    read k = first_value-rows f k ∙ ap (first_of k) (rows ∙ finished_is (end_of start words).held) ∙ first_is k (rows_with_flags ((settled command_shape.rules (end_of start words).held).rows))

    one : List Text → Option Text
    one vs = slice_get vs 0

    go : Comes [] (taken_of None words) (faults_from start words) (end_of start words) → IsReadAs words f
    go (bad fails never) = absurd (fault_fails words fails none)
    go (good more place spelled no_fault stands at_top) = record {
      items = more;
      spelled = spelled;
      distinct = stands.distinct;
      few = subst (λ k. k ≤ 3) (sym stands.count) (few_at place);
      option = λ n flag. read (option_spelling n) ∙ ap (option_and_then (λ vs. slice_get vs 0)) (option_matched n ((settled command_shape.rules (end_of start words).held).rows) flag ∙ stands.named n) ∙ first_single (value_in n more);
      loops = ap is_on (read (option_spelling Loops) ∙ ap (option_and_then (λ vs. slice_get vs 0)) (loops_matched ((settled command_shape.rules (end_of start words).held).rows) ∙ ap (λ o. or_first o (Some (codes "false" ∷ []))) (stands.named Loops))) ∙ on_or (value_in Loops more);
      json = ap is_on (read (option_spelling Json) ∙ ap (option_and_then (λ vs. slice_get vs 0)) (json_matched ((settled command_shape.rules (end_of start words).held).rows) ∙ ap (λ o. or_first o (Some (codes "false" ∷ []))) (stands.named Json))) ∙ on_or (value_in Json more);
      spot = λ s. read (spot_id s) ∙ ap (option_and_then (λ vs. slice_get vs 0)) (spot_matched s ((settled command_shape.rules (end_of start words).held).rows) ∙ stands.spots s) ∙ first_single (slice_get (positional_words more) (spot_at s));
    }
