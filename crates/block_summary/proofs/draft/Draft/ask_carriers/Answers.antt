use Rattle.std.proofs.Common.{List, All, IfOk, map, sym, ap, ◌∙◌, subst}
use Rattle.knit_base.specs.declared.rule.Reason.{Reason}
use Rattle.face_data.specs.declared.face.Cond.{Cond}
use Rattle.carrier_rules.specs.Carriers.{early_in, early_of}
use Rattle.carrier_rules.proofs.EachCarrier.{early-is}
use Rattle.block_summary.specs.DraftKnowledge.{CanBeAsked, HasAskedAll}
use Rattle.block_summary.specs.LineSummaries.{plainly_asked}
use Rattle.block_summary.proofs.KnitSteps.{carriers_known}
use Rattle.block_summary.proofs.LineSteps.{all_can}
use Rattle.block_summary.proofs.draft.Draft.ask_carriers.Goals as goal

pub returns-then-knows_in : goal.returns-then-knows_in
returns-then-knows_in c = carriers_known c.args.self.now c.args.yarns.now (early_of c.args.instr.now) c.requires.conds (c.knows_in.ensures c.if-knows_in.true)

pub ask_early-requires : goal.ask_early-requires
ask_early-requires c =
    subst (λ (conds : List (Reason × Cond)). All CanBeAsked conds) (sym (c.as_slice.ensures.items ∙ c.in_ok-carriers.ensures.conds))
    (all_can c.args.profile.now.float c.args.instr.now c.requires.can)

pub returns : goal.returns
returns c =
    subst (λ (conds : List (Reason × Cond)). IfOk c.ask_early.result (HasAskedAll c.args.self.now c.ask_early.new.self (map plainly_asked conds)))
    (ap early_in (c.as_slice.ensures.items ∙ c.in_ok-carriers.ensures.conds) ∙ early-is c.args.profile.now.float c.args.instr.now) c.ask_early.ensures
