use Rattle.std.proofs.Common.{subst}
use Rattle.std.proofs.lemmas.Result.{IfOk-weaker}
use Rattle.input_answers.specs.Due.{BodyFits}
use Rattle.input_answers.proofs.GroupDues.{groups-too_large}
use Rattle.input_answers.proofs.groups.answer_headed.Goals as goal

pub carry_out-requires-clause-fits : goal.carry_out-requires-clause-fits
carry_out-requires-clause-fits g c = λ κs live. subst (BodyFits c.args.plan.now.chosen.block) c.body_len-lines.ensures c.in-None.ensures

pub returns-in-Some : goal.returns-in-Some
returns-in-Some g c =
    IfOk-weaker c.refusal.result _ _
    (λ answer is input has. groups-too_large c.args.plan.now.chosen input answer c.args.script c.args.head.now c.body_len-lines.result c.in-Some.refusal has c.body_len-lines.ensures c.in-Some.ensures is)
    c.refusal.ensures
