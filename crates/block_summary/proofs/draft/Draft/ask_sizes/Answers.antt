use Rattle.std.proofs.Common.{Some, map, sym, ◌∙◌, subst}
use Rattle.face_data.specs.declared.sizes.SizeAsk.{SizeAsk}
use Rattle.block_summary.specs.DraftKnowledge.{HasAskedAll}
use Rattle.block_summary.specs.LineSummaries.{asked_of_sizes}
use Rattle.block_summary.proofs.LineSteps.{sizes_next, sizes_halt, sizes_end}
use Rattle.block_summary.proofs.draft.Draft.ask_sizes.Goals as goal

pub returns-then-not-branch : goal.returns-then-not-branch
returns-then-not-branch c rules is =
    let item = c.ask-item.result in
    subst (λ (ask : SizeAsk). HasAskedAll c.args.self.now c.ask_size.new.self (map asked_of_sizes rules) (Some ask.reason)) (sym c.ask-item.is)
    (sizes_halt c.args.self.now c.loop-ask.self c.ask_size.new.self c.args.asks.now c.loop-ask.ask-index item c.in_ok-ask_size.field-0 rules c.loop-ask-test.true c.loop-ask.invariant
    (λ rule same. c.in_ok-ask_size.ensures.asked rule (c.ask-item.is ∙ same)) c.if-not-branch.true is)

pub loop-ask-preserved : goal.loop-ask-preserved
loop-ask-preserved c =
    let item = c.ask-item.result in
    sizes_next c.args.self.now c.loop-ask.self c.ask_size.new.self c.args.asks.now c.loop-ask.ask-index item c.in_ok-ask_size.field-0 c.loop-ask-test.true c.loop-ask.invariant
    c.in_ok-ask_size.ensures.rest_stays (λ rule same. c.in_ok-ask_size.ensures.asked rule (c.ask-item.is ∙ same)) c.if-not-branch.false

pub returns : goal.returns
returns c rules is = sizes_end c.args.self.now c.loop-ask.self c.args.asks.now c.loop-ask.ask-index rules c.loop-ask-test.false c.loop-ask.invariant is
