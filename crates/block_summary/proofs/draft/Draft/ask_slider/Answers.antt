use Rattle.std.proofs.Common.{Option, map, sym, ap, ◌∙◌, subst}
use Rattle.std.specs.Option.{option_copied, option_to_list}
use Rattle.knit_base.specs.declared.rule.Reason.{Reason}
use Rattle.block_summary.specs.DraftKnowledge.{HasAskedAll}
use Rattle.block_summary.specs.LineSummaries.{asked_of_sizes}
use Rattle.block_summary.proofs.LineSteps.{one_slider}
use Rattle.block_summary.proofs.draft.Draft.ask_slider.Goals as goal

pub returns-in_ok-goes-in-Some-clause-asked : goal.returns-in_ok-goes-in-Some-clause-asked
returns-in_ok-goes-in-Some-clause-asked c rule is =
    let old = c.args.self.now in
    let new = c.ask_size.new.self in
    subst (λ (stop : Option Reason). HasAskedAll old new (map asked_of_sizes (option_to_list rule)) stop) (sym c.reason_unless.ensures)
    (one_slider old new c.in-Some.ask.now c.in_ok-goes-in-Some.goes rule c.in_ok-goes-in-Some.ensures.asked (sym (ap option_copied c.in-Some.is) ∙ is))
