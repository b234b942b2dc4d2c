use Rattle.std.proofs.Common.{[], ◌∷◌, Option, map, sym, subst}
use Rattle.std.specs.Option.{option_to_list}
use Rattle.knit_base.specs.declared.instr.Quarter.{Quarter}
use Rattle.knit_base.specs.declared.rule.Reason.{Reason}
use Rattle.face_data.specs.Conditions.Ask.{rack_is}
use Rattle.block_summary.specs.DraftKnowledge.{HasAskedAll}
use Rattle.block_summary.specs.LineSummaries.{asked_for, asked_of_rack}
use Rattle.block_summary.proofs.LineSteps.{one_asked}
use Rattle.block_summary.proofs.draft.Draft.ask_rack.Goals as goal

pub returns-in_ok-goes-in-Some : goal.returns-in_ok-goes-in-Some
returns-in_ok-goes-in-Some c =
    let old = c.args.self.now in
    let new = c.ask.new.self in
    subst (λ (rack : Option (Reason × Quarter)). HasAskedAll old new (map asked_of_rack (option_to_list rack)) c.reason_unless.result) (sym c.in-Some.is)
    (subst (λ (stop : Option Reason). HasAskedAll old new (asked_for c.in-Some.reason (rack_is c.in-Some.quarter.0) ∷ []) stop) (sym c.reason_unless.ensures)
    (one_asked old new c.in-Some.reason (rack_is c.in-Some.quarter.0) c.in_ok-goes-in-Some.goes c.in_ok-goes-in-Some.ensures))
