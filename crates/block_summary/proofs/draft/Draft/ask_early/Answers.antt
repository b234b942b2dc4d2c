use Rattle.std.proofs.Common.{Bool, not}
use Rattle.face_data.specs.declared.face.Cond.{Cond}
use Rattle.carrier_rules.specs.Carriers.{is_on_last}
use Rattle.block_summary.proofs.LineSteps.{conds_next, conds_halt, conds_end}
use Rattle.block_summary.proofs.draft.Draft.ask_early.Goals as goal

-- conditions that aren't on last needles are asked
abbrev asks_early : Cond → Bool
asks_early cond = not (is_on_last cond)

pub returns-then-not-branch : goal.returns-then-not-branch
returns-then-not-branch c =
    conds_halt asks_early c.args.self.now c.loop-cond.self c.ask_if_early.new.self c.args.conds.now c.loop-cond.cond-index _ c.in_ok-ask_if_early.field-0 c.loop-cond-test.true c.loop-cond.invariant
    c.in_ok-ask_if_early.ensures c.if-not-branch.true

pub loop-cond-preserved : goal.loop-cond-preserved
loop-cond-preserved c =
    conds_next asks_early c.args.self.now c.loop-cond.self c.ask_if_early.new.self c.args.conds.now c.loop-cond.cond-index _ c.in_ok-ask_if_early.field-0 c.loop-cond-test.true c.loop-cond.invariant
    c.in_ok-ask_if_early.ensures c.if-not-branch.false

pub returns : goal.returns
returns c = conds_end asks_early c.args.self.now c.loop-cond.self c.args.conds.now c.loop-cond.cond-index c.loop-cond-test.false c.loop-cond.invariant
