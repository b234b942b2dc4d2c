use Rattle.carrier_rules.specs.Carriers.{is_on_last}
use Rattle.block_summary.proofs.LineSteps.{conds_next, conds_halt, conds_end}
use Rattle.block_summary.proofs.draft.Draft.ask_floats.Goals as goal

pub returns-then-not-branch : goal.returns-then-not-branch
returns-then-not-branch c =
    conds_halt is_on_last c.args.self.now c.loop-cond.self c.ask_if_float.new.self c.args.conds.now c.loop-cond.cond-index _ c.in_ok-ask_if_float.field-0 c.loop-cond-test.true c.loop-cond.invariant
    c.in_ok-ask_if_float.ensures c.if-not-branch.true

pub loop-cond-preserved : goal.loop-cond-preserved
loop-cond-preserved c =
    conds_next is_on_last c.args.self.now c.loop-cond.self c.ask_if_float.new.self c.args.conds.now c.loop-cond.cond-index _ c.in_ok-ask_if_float.field-0 c.loop-cond-test.true c.loop-cond.invariant
    c.in_ok-ask_if_float.ensures c.if-not-branch.false

pub returns : goal.returns
returns c = conds_end is_on_last c.args.self.now c.loop-cond.self c.args.conds.now c.loop-cond.cond-index c.loop-cond-test.false c.loop-cond.invariant
