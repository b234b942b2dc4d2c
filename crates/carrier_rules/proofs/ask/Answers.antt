use Rattle.std.proofs.Common.{◌∙◌, sym, ap, subst}
use Rattle.face_data.specs.Conditions.{first_unmet}
use Rattle.face_data.specs.Lasts.{lasts_after}
use Rattle.face_data.specs.Summaries.{IsEffectOf}
use Rattle.carrier_rules.specs.Carriers.{early_in, floats_in}
use Rattle.carrier_rules.proofs.EachCarrier.{conds-broken, early-is, floats-broken, floats-is}
use Rattle.carrier_rules.proofs.Effects.{effect-is, lasts-are}
use Rattle.carrier_rules.proofs.ask.Goals as goal

pub returns-clause-broken : goal.returns-clause-broken
returns-clause-broken c s =
    conds-broken c.args.instr.now s
    ∙ ap (λ conds. first_unmet conds s) (sym (ap early_in c.in_ok-conds_of.ensures ∙ early-is c.args.profile.now.float c.args.instr.now))

pub returns-clause-floats : goal.returns-clause-floats
returns-clause-floats c s =
    floats-broken c.args.profile.now c.args.instr.now s
    ∙ ap (λ conds. first_unmet conds s) (sym (ap floats_in c.in_ok-conds_of.ensures ∙ floats-is c.args.profile.now.float c.args.instr.now))

pub returns-clause-changes : goal.returns-clause-changes
returns-clause-changes c =
    subst (IsEffectOf c.args.instr.now) (sym c.effect_of.ensures) (effect-is c.args.instr.now)

pub returns-clause-lasts_after : goal.returns-clause-lasts_after
returns-clause-lasts_after c s =
    ap (λ lasts. lasts_after lasts s.lasts) c.in_ok-lasts_of.ensures ∙ lasts-are c.args.profile.now.float c.args.instr.now s.lasts
