use Rattle.std.proofs.Common.{drop, map}
use Rattle.carrier_rules.specs.Carriers.{floats_in}
use Rattle.block_summary.specs.DraftKnowledge.{HaveAsked}
use Rattle.block_summary.specs.LineSummaries.{plainly_asked}
use Rattle.block_summary.proofs.draft.Draft.ask_floats.Given as goal

abbrev pub invariant-loop-cond : goal.invariant-loop-cond
invariant-loop-cond l = HaveAsked l.initial.self l.self (map plainly_asked (floats_in l.conds)) (map plainly_asked (floats_in (drop l.cond-index l.conds)))
