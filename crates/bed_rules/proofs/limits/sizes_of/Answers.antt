use Rattle.std.proofs.Common.{ap, sym, ◌∙◌}
use Rattle.std.proofs.lemmas.Result.{IfOk-weaker}
use Rattle.carriage_model.specs.Rules.{size_broken}
use Rattle.face_data.specs.Sizes.{size_asks}
use Rattle.bed_rules.specs.Beds.{size_rules}
use Rattle.bed_rules.proofs.limits.sizes_of.Goals as goal

pub returns-in-Tuck-clause-rules : goal.returns-in-Tuck-clause-rules
returns-in-Tuck-clause-rules c =
    IfOk-weaker c.room_for_one.result _ _ (λ asks is. is ∙ ap (λ instr. size_asks c.args.segments.now (size_rules c.args.profile.now.hold instr)) (sym c.in-Tuck.is)) c.room_for_one.ensures.rules

pub returns-in-Tuck-clause-broken : goal.returns-in-Tuck-clause-broken
returns-in-Tuck-clause-broken c =
    IfOk-weaker c.room_for_one.result _ _ (λ asks holds s t first read. ap (λ instr. size_broken c.args.profile.now instr t) c.in-Tuck.is ∙ holds s t first read) c.room_for_one.ensures.broken

pub returns-in-Split-clause-rules : goal.returns-in-Split-clause-rules
returns-in-Split-clause-rules c =
    IfOk-weaker c.room_for_both.result _ _ (λ asks is. is ∙ ap (λ instr. size_asks c.args.segments.now (size_rules c.args.profile.now.hold instr)) (sym c.in-Split.is)) c.room_for_both.ensures.rules

pub returns-in-Split-clause-broken : goal.returns-in-Split-clause-broken
returns-in-Split-clause-broken c =
    IfOk-weaker c.room_for_both.result _ _ (λ asks holds s t first read. ap (λ instr. size_broken c.args.profile.now instr t) c.in-Split.is ∙ holds s t first read) c.room_for_both.ensures.broken

pub returns-in-Xfer-clause-rules : goal.returns-in-Xfer-clause-rules
returns-in-Xfer-clause-rules c =
    IfOk-weaker c.room_for_both-in-Xfer.result _ _ (λ asks is. is ∙ ap (λ instr. size_asks c.args.segments.now (size_rules c.args.profile.now.hold instr)) (sym c.in-Xfer.is)) c.room_for_both-in-Xfer.ensures.rules

pub returns-in-Xfer-clause-broken : goal.returns-in-Xfer-clause-broken
returns-in-Xfer-clause-broken c =
    IfOk-weaker c.room_for_both-in-Xfer.result _ _ (λ asks holds s t first read. ap (λ instr. size_broken c.args.profile.now instr t) c.in-Xfer.is ∙ holds s t first read) c.room_for_both-in-Xfer.ensures.broken
