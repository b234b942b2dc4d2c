use Rattle.std.proofs.Common.{◌≡◌, ◌<◌, ◌∙◌, refl, sym, subst, length, get_or, length-set}
use Rattle.std.specs.Prelude.{ℕ}
use Rattle.knit_base.specs.declared.yarns.CarrierNo.{CarrierNo}
use Rattle.carriage_model.proofs.LastNeedles.{put-more}
use Rattle.carriage_model.proofs.steps.put_each.Goals as goal

pub loop-c-init : goal.loop-c-init
loop-c-init c = (c.told-lasts, λ d fits. refl)

pub loop-c-preserved : goal.loop-c-preserved
loop-c-preserved c =
    let carrier : CarrierNo = get_or c.args.carriers.now c.loop-c.c-index (record { 0 = 0 }) in
    let fits : carrier.0 < length c.loop-c.lasts = subst (λ (n : ℕ). carrier.0 < n) (sym c.loop-c.invariant.0) (c.requires c.loop-c.c-index (record { 0 = 0 }) c.loop-c-test.true) in (
      length-set c.loop-c.lasts carrier.0 c.args.at ∙ c.loop-c.invariant.0,
      λ d here. put-more c.args.carriers.now c.loop-c.c-index (record { 0 = 0 }) d c.loop-c.lasts c.args.at c.loop-c-test.true fits ∙ c.loop-c.invariant.1 d here,
    )
