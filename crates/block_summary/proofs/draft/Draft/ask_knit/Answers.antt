use Rattle.std.proofs.Common.{Option, map, ap, subst}
use Rattle.std.proofs.lemmas.Result.{IfOk-weaker}
use Rattle.knit_base.specs.declared.rule.Reason.{Reason}
use Rattle.carrier_rules.specs.Carriers.{early_of}
use Rattle.block_summary.specs.DraftKnowledge.{HasAskedAll}
use Rattle.block_summary.specs.LineSummaries.{plainly_asked}
use Rattle.block_summary.proofs.KnitSteps.{knit_forms, knit_is_all_asked}
use Rattle.block_summary.proofs.LineSteps.{stops_early}
use Rattle.block_summary.proofs.draft.Draft.ask_knit.Goals as goal

pub ask_carriers-requires-clause-conds : goal.ask_carriers-requires-clause-conds
ask_carriers-requires-clause-conds c = ap early_of c.requires.knit.1

pub returns-in-Some : goal.returns-in-Some
returns-in-Some c =
    stops_early c.args.profile.now c.args.instr.now c.args.self.now c.ask_carriers.new.self c.in-Some.reason
    (subst (λ (stop : Option Reason). HasAskedAll c.args.self.now c.ask_carriers.new.self (map plainly_asked (early_of c.args.instr.now)) stop) c.in-Some.is c.in_ok-reason.ensures)

pub ask_bare-requires : goal.ask_bare-requires
ask_bare-requires c = knit_forms c.args.instr.now c.requires.knit.0 c.args.n c.args.yarns.now c.requires.knit.1 c.requires.some

pub returns : goal.returns
returns c =
    IfOk-weaker c.ask_bare.result _ _
    (λ stop asked.
    knit_is_all_asked c.args.profile.now c.args.instr.now c.requires.knit.0 c.args.n c.args.yarns.now c.args.self.now c.ask_carriers.new.self c.ask_bare.new.self stop c.requires.knit.1 c.requires.some
    (subst (λ (s : Option Reason). HasAskedAll c.args.self.now c.ask_carriers.new.self (map plainly_asked (early_of c.args.instr.now)) s) c.in_default.is c.in_ok-reason.ensures) asked
    c.requires.near)
    c.ask_bare.ensures
