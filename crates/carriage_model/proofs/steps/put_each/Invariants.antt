use Rattle.std.proofs.Common.{◌≡◌, drop, length, None}
use Rattle.std.specs.Prelude.{slice_index_or}
use Rattle.knit_base.specs.declared.yarns.CarrierNo.{CarrierNo}
use Rattle.knit_base.specs.Yarns.{IsCarrier}
use Rattle.carriage_model.specs.State.{with_lasts}
use Rattle.carriage_model.proofs.steps.put_each.Given as goal

abbrev pub invariant-loop-c : goal.invariant-loop-c
invariant-loop-c l =
    (length l.lasts ≡ 64) × ((c : CarrierNo) → IsCarrier c → with_lasts (λ d. slice_index_or l.lasts d.0 None) (drop l.c-index l.carriers) l.at c ≡ with_lasts (λ d. slice_index_or l.initial.lasts d.0 None) l.carriers l.at c)
