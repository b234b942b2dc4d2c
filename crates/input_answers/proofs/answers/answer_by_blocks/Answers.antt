use Rattle.std.proofs.lemmas.Result.{IfOk-weaker}
use Rattle.input_answers.proofs.Dues.{due-bad_line}
use Rattle.input_answers.proofs.answers.answer_by_blocks.Goals as goal

pub returns-in_ok-refusal_of_lines-in-Err : goal.returns-in_ok-refusal_of_lines-in-Err
returns-in_ok-refusal_of_lines-in-Err g c =
    IfOk-weaker c.refusal.result _ _
    (λ ending is.
    due-bad_line c.args.plan.now.command c.args.plan.now.chosen c.args.input.items ending.text.items ending.status _ _ c.in-Err.ensures.fault c.in_ok-refusal_of_lines-in-Err.ensures is)
    c.refusal.ensures
