use Rattle.std.proofs.Common.{[], not, ap}
use Rattle.std.proofs.lemmas.Result.{IfOk-weaker}
use Rattle.face_data.specs.declared.face.Cond.{Cond}
use Rattle.face_data.specs.Conditions.{ask_of}
use Rattle.carrier_rules.specs.Carriers.{is_on_last}
use Rattle.block_summary.proofs.LineSteps.{asked_if, not_on_last, passed_over, plain_early}
use Rattle.block_summary.proofs.draft.Draft.ask_if_early.Goals as goal

pub returns-in-LastNear : goal.returns-in-LastNear
returns-in-LastNear c = passed_over (not (is_on_last c.args.cond)) c.args.self.now _ (ask_of [] c.args.cond) (ap (λ (x : Cond). not (is_on_last x)) c.in-LastNear.is)

pub ask-requires-clause-plain : goal.ask-requires-clause-plain
ask-requires-clause-plain c = plain_early c.args.cond c.requires.1 c.in_default.not-LastNear

pub returns-in_default : goal.returns-in_default
returns-in_default c =
    IfOk-weaker c.ask.result _ _
    (λ goes took. asked_if (not (is_on_last c.args.cond)) c.args.self.now c.ask.new.self _ (ask_of [] c.args.cond) goes (ap not (not_on_last c.args.cond c.in_default.not-LastNear)) took)
    c.ask.ensures
