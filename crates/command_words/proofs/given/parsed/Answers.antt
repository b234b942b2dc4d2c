use Rattle.std.proofs.Common.{◌≡◌, ◌∙◌, inl, inr, refl, sym, ap, subst, [], map, string_bytes}
use Rattle.clap.specs.Simple.{is_simple, matches_of}
use Rattle.clap.specs.Faults.{fault_of, is_simple_and_free}
use Rattle.clap.specs.Matches.{found_of}
use Rattle.command_words.specs.Grammar.{Low, High, Rack, Hold, Block, Float, Loops, Json}
use Rattle.command_words.specs.Arguments.{check_app}
use Rattle.command_words.proofs.Rules.{first, second, third, is_free_app, is_simple_app}
use Rattle.command_words.proofs.Agreement.{flag_stands_is}
use Rattle.command_words.proofs.Results.{all_utf8, refusal_spells_nothing, faultless_words_found}
use Rattle.clap.specs.Kinds.{IsAmong}
use Rattle.clap.specs.Values.{kind_of}
use Rattle.command_words.proofs.Faults.{usage_from}
use Rattle.command_words.proofs.given.parsed.Goals as goal

pub returns-in_err-matches-clause-usage : goal.returns-in_err-matches-clause-usage
returns-in_err-matches-clause-usage c = λ usage items is fit.
    let app = c.in_ok-reader.ensures in
    let kinds = c.in_err-matches.ensures.kinds (ap is_simple_and_free app ∙ is_free_app) in
    elim kinds [
      | inl memory ↦ absurd (usage_from _ _ c.from_residual-in_err-matches.ensures.1 usage memory)
      | inr among ↦ refusal_spells_nothing (map string_bytes c.args.words.now) (all_utf8 c.args.words.now) _
          (subst (λ a. IsAmong (kind_of c.in_err-matches.field-0.0) (fault_of a (map string_bytes c.args.words.now))) app among) items is fit
    ]

pub returns-clause-ok : goal.returns-clause-ok
returns-clause-ok c =
    let app = c.in_ok-reader.ensures in
    let words = map string_bytes c.args.words.now in
    let none : fault_of check_app words ≡ [] = ap (λ a. fault_of a words) (sym app) ∙ c.in_ok-matches.ensures.kinds (ap is_simple_and_free app ∙ is_free_app) in
    let rows = (c.in_ok-matches.ensures.matches (ap is_simple app ∙ is_simple_app)).0 ∙ ap (λ a. matches_of a words) app in
    let t = faultless_words_found words (found_of c.in_ok-matches.matches) (all_utf8 c.args.words.now) none rows in (
      t.items,
      t.spelled,
      t.distinct,
      t.few,
      record {
        low = c.get_str.ensures ∙ t.option Low refl;
        high = c.get_str-2.ensures ∙ t.option High refl;
        rack = c.get_str-3.ensures ∙ t.option Rack refl;
        hold = c.get_str-4.ensures ∙ t.option Hold refl;
        block = c.get_str-5.ensures ∙ t.option Block refl;
        float = c.get_str-6.ensures ∙ t.option Float refl;
        loops = c.is_set.ensures ∙ t.loops ∙ flag_stands_is words t.items Loops t.spelled refl;
        json = c.is_set-2.ensures ∙ t.json ∙ flag_stands_is words t.items Json t.spelled refl;
        first = c.get_str-7.ensures ∙ t.spot first;
        second = c.get_str-8.ensures ∙ t.spot second;
        third = c.get_str-9.ensures ∙ t.spot third;
      },
    )
