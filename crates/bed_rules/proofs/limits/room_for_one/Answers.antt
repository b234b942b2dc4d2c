use Rattle.std.proofs.Common.{rules, ◌-◌, nat_le, [], ◌∷◌, ap, sym, ◌∙◌}
use Rattle.face_data.specs.Conditions.{size_of, broken_unless}
use Rattle.face_data.specs.Sizes.{size_asks}
use Rattle.bed_rules.proofs.SizeRules.{tuck-unmet, one-asked, one-listed, tuck-listed}
use Rattle.bed_rules.proofs.limits.room_for_one.Goals as goal

pub returns-clause-rules : goal.returns-clause-rules
returns-clause-rules c =
    one-listed _ c.in_ok-ask_size.field-0 _ c.args.segments.now (record { reason = c.too_many_at.result; needles = c.args.n ∷ []; most = c.args.profile.now.hold - 1 }) _
    c.new-asks.ensures c.in_ok-push.ensures.ok c.in_ok-ask_size.ensures.is (λ i. record { reason = c.too_many_at.ensures i; needles = c.args.n ∷ []; most = c.args.profile.now.hold - 1 })
    ∙ ap (size_asks c.args.segments.now) (tuck-listed c.args.profile.now.hold c.args.n c.args.yarns.now (search rules))

pub returns-clause-broken : goal.returns-clause-broken
returns-clause-broken c s t first read =
    tuck-unmet c.args.profile.now c.args.n c.args.yarns.now t c.requires (search rules)
    ∙ ap (broken_unless (nat_le (size_of (c.args.n ∷ []) t) (c.args.profile.now.hold - 1))) (sym c.too_many_at.ensures)
    ∙ sym (c.in_ok-ask_size.ensures.unmet s t first read)
    ∙ sym (one-asked _ c.in_ok-ask_size.field-0 _ s c.new-asks.ensures c.in_ok-push.ensures.ok)
