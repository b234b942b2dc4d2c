use Rattle.std.proofs.lemmas.Result.{IfOk-weaker}
use Rattle.input_answers.specs.LiveText.{output_of}
use Rattle.input_answers.proofs.LiveDues.{live-bad_head}
use Rattle.input_answers.proofs.live.answer_script.Goals as goal

pub returns-in-Ok : goal.returns-in-Ok
returns-in-Ok g c =
    IfOk-weaker c.answer_headed.result _ _
    (λ answer due input good spelt. due input (record { good = good; spelt = spelt; head_is = c.in-Ok.ensures.head }))
    c.answer_headed.ensures

pub returns-in_ok-refusal_of_head-in-Err : goal.returns-in_ok-refusal_of_head-in-Err
returns-in_ok-refusal_of_head-in-Err g c =
    IfOk-weaker c.refusal.result _ _
    (λ answer is input good spelt.
    live-bad_head (output_of c.args.plan.now.command) c.args.plan.now.chosen input answer c.args.script c.in-Err.fault _ good spelt c.in-Err.ensures.fault c.in_ok-refusal_of_head-in-Err.ensures is)
    c.refusal.ensures
