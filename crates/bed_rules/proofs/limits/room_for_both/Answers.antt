use Rattle.std.proofs.Common.{nat_le, [], ◌∷◌, ◌++◌, List, ap, sym, ◌∙◌}
use Rattle.face_data.specs.declared.sizes.SizeAsk.{SizeAsk}
use Rattle.face_data.specs.Conditions.{size_of, broken_unless}
use Rattle.face_data.specs.Sizes.{SizeRule, size_ask}
use Rattle.bed_rules.proofs.SizeRules.{both-unmet, one-asked, one-listed}
use Rattle.bed_rules.proofs.limits.room_for_both.Goals as goal

pub returns-clause-rules : goal.returns-clause-rules
returns-clause-rules c =
    one-listed _ c.in_ok-ask_size.field-0 _ c.args.segments.now (record { reason = c.too_many_at.result; needles = c.args.n2 ∷ c.args.n ∷ []; most = c.args.profile.now.hold }) _
    c.new-asks.ensures c.in_ok-push.ensures.ok c.in_ok-ask_size.ensures.is (λ i. record { reason = c.too_many_at.ensures i; needles = c.args.n2 ∷ c.args.n ∷ []; most = c.args.profile.now.hold })

pub returns-clause-broken : goal.returns-clause-broken
returns-clause-broken c s t first read =
    both-unmet c.args.profile.now c.args.n c.args.n2 c.args.at t
    ∙ ap (broken_unless (nat_le (size_of (c.args.n2 ∷ c.args.n ∷ []) t) c.args.profile.now.hold)) (sym c.too_many_at.ensures)
    ∙ sym (c.in_ok-ask_size.ensures.unmet s t first read)
    ∙ sym (one-asked _ c.in_ok-ask_size.field-0 _ s c.new-asks.ensures c.in_ok-push.ensures.ok)
