use Rattle.std.proofs.Common.{[], ◌∷◌, Some, None, ap, arith}
use Rattle.std.proofs.lemmas.Result.{IfOk-weaker}
use Rattle.knit_base.specs.declared.instr.Instr.TheVariants.{Knit}
use Rattle.knit_base.specs.declared.rule.Rule.TheVariants.{CarrierIsOut}
use Rattle.knit_base.specs.Needle.{own_slider}
use Rattle.face_data.specs.Conditions.{broken_unless}
use Rattle.block_summary.proofs.AskedHold.{near_free}
use Rattle.block_summary.proofs.KnitSteps.{carrier_asked, knit_is_asked, still_untouched}
use Rattle.block_summary.proofs.LineSteps.{stops_early}
use Rattle.block_summary.proofs.draft.Draft.ask_usual_knit.Goals as goal

pub returns-then-not-branch : goal.returns-then-not-branch
returns-then-not-branch c profile dir free =
    stops_early profile (Knit dir c.args.n (c.args.c ∷ [])) c.args.self.now c.ask_carrier.new.self (record { rule = CarrierIsOut; at = 3 })
    (carrier_asked c.args.self.now c.ask_carrier.new.self dir c.args.n c.args.c c.in_ok-ask_carrier.field-0 (Some (record { rule = CarrierIsOut; at = 3 })) c.in_ok-ask_carrier.ensures
    (ap (λ b. broken_unless b (record { rule = CarrierIsOut; at = 3 })) c.if-not-branch.true))

pub ask_untouched-requires : goal.ask_untouched-requires
ask_untouched-requires c = still_untouched c.args.self.now c.ask_carrier.new.self _ c.args.c (own_slider c.args.n) c.in_ok-ask_carrier.field-0 c.in_ok-ask_carrier.ensures c.requires.untouched

pub returns : goal.returns
returns c =
    IfOk-weaker c.ask_untouched.result _ _
    (λ stop asked profile dir free.
    knit_is_asked profile dir c.args.n (c.args.c ∷ []) c.args.self.now c.ask_carrier.new.self c.ask_untouched.new.self stop (omega arith)
    (carrier_asked c.args.self.now c.ask_carrier.new.self dir c.args.n c.args.c c.in_ok-ask_carrier.field-0 None c.in_ok-ask_carrier.ensures
    (ap (λ b. broken_unless b (record { rule = CarrierIsOut; at = 3 })) c.if-not-branch.false)) asked
    (near_free c.args.self.now profile.float c.args.n (c.args.c ∷ []) free))
    c.ask_untouched.ensures
