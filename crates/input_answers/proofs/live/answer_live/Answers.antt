use Rattle.std.proofs.lemmas.Result.{IfOk-weaker}
use Rattle.input_answers.specs.LiveText.{output_of}
use Rattle.input_answers.proofs.LiveDues.{live-bad_line}
use Rattle.input_answers.proofs.live.answer_live.Goals as goal

pub returns-in-Ok : goal.returns-in-Ok
returns-in-Ok g c = IfOk-weaker c.answer_lines.result _ _ (λ answer due. due c.args.input.items c.in-Ok.ensures.lines) c.answer_lines.ensures

pub returns-in_ok-refusal_of_lines-in-Err : goal.returns-in_ok-refusal_of_lines-in-Err
returns-in_ok-refusal_of_lines-in-Err g c =
    IfOk-weaker c.refusal.result _ _
    (λ answer is. live-bad_line (output_of c.args.plan.now.command) c.args.plan.now.chosen c.args.input.items answer c.in-Err.fault _ c.in-Err.ensures.fault c.in_ok-refusal_of_lines-in-Err.ensures is)
    c.refusal.ensures
