use Rattle.std.proofs.Common.{ap}
use Rattle.face_data.specs.declared.bearing.Bearing.TheVariants.{Implied}
use Rattle.face_data.specs.Bearings.{if_so}
use Rattle.block_summary.proofs.NearConditions.{near_says}
use Rattle.block_summary.proofs.kept.KeptLineConditions.bearing_on_near.Goals as goal

pub returns-then-is_among : goal.returns-then-is_among
returns-then-is_among c =
    near_says c.self.inside.names.items c.self.inside.checks.items c.deref.result.now c.args.self.now c.args.cond c.is_among.result _ c.deref.ensures.value c.self.view_is c.requires
    c.is_among.ensures.yes c.is_among.ensures.none (ap (λ b. if_so b Implied) c.if-is_among.true)

pub returns-else-is_among : goal.returns-else-is_among
returns-else-is_among c =
    near_says c.self.inside.names.items c.self.inside.checks.items c.deref.result.now c.args.self.now c.args.cond c.is_among.result _ c.deref.ensures.value c.self.view_is c.requires
    c.is_among.ensures.yes c.is_among.ensures.none (ap (λ b. if_so b Implied) c.if-is_among.false)
