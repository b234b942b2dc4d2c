use Rattle.std.proofs.Common.{rules, tests, ◌≡◌}
use Rattle.std.specs.Prelude.{◌≢◌}
use Rattle.std.proofs.lemmas.Bool.{MatchBool-at_true, MatchBool-at_false}
use Rattle.std.proofs.lemmas.Iterator.{YieldsList-from_slice, cases_from_any}
use Rattle.std.proofs.lemmas.List.Elements.{All-contains, All-from_all_within}
use Rattle.face_data.specs.declared.face.Check.{Check}
use Rattle.block_summary.proofs.NearConditions.{found_one}
use Rattle.block_summary.proofs.kept.is_among.Goals as goal

pub returns-clause-yes : goal.returns-clause-yes
returns-clause-yes c = λ yes.
    let found = cases_from_any _ _ _ (λ (k : Check). k.cond ≡ c.args.cond) (λ (k : Check). k.cond ≢ c.args.cond) c.any.ensures.ran (YieldsList-from_slice c.args.checks.now c.iter.ensures.rest)
    (λ x q k. search (rules, tests)) (λ x q k. search (rules, tests)) in
    let place = MatchBool-at_true _ _ yes found in
    found_one c.args.checks.now c.args.cond place.0 place.1 place.2

pub returns-clause-none : goal.returns-clause-none
returns-clause-none c = λ no_one check there.
    let found = cases_from_any _ _ _ (λ (k : Check). k.cond ≡ c.args.cond) (λ (k : Check). k.cond ≢ c.args.cond) c.any.ensures.ran (YieldsList-from_slice c.args.checks.now c.iter.ensures.rest)
    (λ x q k. search (rules, tests)) (λ x q k. search (rules, tests)) in
    All-contains (λ (k : Check). k.cond ≢ c.args.cond) c.args.checks.now check
    (All-from_all_within (λ (k : Check). k.cond ≢ c.args.cond) c.args.checks.now (MatchBool-at_false _ _ no_one found)) there
