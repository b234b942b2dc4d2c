use Rattle.std.proofs.Common.{◌∙◌, Some, None, ap, w16}
use Rattle.std.proofs.lemmas.Int.{to_z-of_z}
use Rattle.carriage_model.specs.Rules.{floats_far}
use Rattle.carriage_model.proofs.LastNeedles.{far-known}
use Rattle.carriage_model.proofs.machine.Machine.floats_far.Goals as goal

pub returns-in_err-i : goal.returns-in_err-i
returns-in_err-i c = λ s here. c.from_residual-in_err-i.ensures
    ∙ far-known c.args.self.now s c.args.profile.now.float c.in_ok-float.float _ c.args.at _ _ None c.requires.floats c.in_ok-float.was c.as_slice.ensures.items c.as_slice.ensures.carriers here c.in_err-i.ensures
    ∙ ap (λ number. floats_far c.args.profile.now.float s number c.args.at c.args.yarns.now) (to_z-of_z w16 c.args.number c.ranges.number)

pub returns : goal.returns
returns c = λ s here.
    far-known c.args.self.now s c.args.profile.now.float c.in_ok-float.float _ c.args.at _ _ (Some c.in_ok-i.i) c.requires.floats c.in_ok-float.was c.as_slice.ensures.items c.as_slice.ensures.carriers here c.in_ok-i.ensures
    ∙ ap (λ number. floats_far c.args.profile.now.float s number c.args.at c.args.yarns.now) (to_z-of_z w16 c.args.number c.ranges.number)
