use Rattle.std.proofs.Common.{◌≡◌, ◌∙◌, ℤ, Option, List, sym, ap, w16, rules}
use Rattle.std.proofs.lemmas.Int.{to_z-of_z}
use Rattle.knit_base.specs.declared.rule.Reason.{Reason}
use Rattle.knit_base.specs.declared.yarns.CarrierNo.{CarrierNo}
use Rattle.carriage_model.specs.State.{State}
use Rattle.carriage_model.specs.Rules.{float_broken, floats_far}
use Rattle.carriage_model.proofs.machine.Machine.float_broken.Goals as goal

pub returns-in-Knit : goal.returns-in-Knit
returns-in-Knit c = λ s here.
    c.floats_far.ensures s here
    ∙ ap (λ number. floats_far c.args.profile.now.float s number 3 c.in-Knit.yarns) (to_z-of_z w16 c.in-Knit.n.at (search rules))
    ∙ ap (λ i. float_broken c.args.profile.now i s) (sym c.in-Knit.is)

pub returns-in-Tuck : goal.returns-in-Tuck
returns-in-Tuck c = λ s here.
    c.floats_far-in-Tuck.ensures s here
    ∙ ap (λ number. floats_far c.args.profile.now.float s number 3 c.in-Tuck.yarns) (to_z-of_z w16 c.in-Tuck.n.at (search rules))
    ∙ ap (λ i. float_broken c.args.profile.now i s) (sym c.in-Tuck.is)

pub returns-in-Split : goal.returns-in-Split
returns-in-Split c = λ s here.
    c.floats_far-in-Split.ensures s here
    ∙ ap (λ number. floats_far c.args.profile.now.float s number 4 c.in-Split.yarns) (to_z-of_z w16 c.in-Split.n.at (search rules))
    ∙ ap (λ i. float_broken c.args.profile.now i s) (sym c.in-Split.is)
