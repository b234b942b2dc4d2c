use Rattle.std.proofs.Common.{List, subst, ℕ}
use Rattle.std.proofs.lemmas.Result.{IfOk-weaker}
use Rattle.knitout_reader.specs.Head.{IsHeadFault}
use Rattle.input_answers.proofs.Dues.{due-bad_head}
use Rattle.input_answers.proofs.answers.answer_lines.Goals as goal

pub returns-in_ok-refusal_of_head-in-Err : goal.returns-in_ok-refusal_of_head-in-Err
returns-in_ok-refusal_of_head-in-Err g c =
    IfOk-weaker c.refusal.result _ _
    (λ ending is input are.
    due-bad_head c.args.plan.now.command c.args.plan.now.chosen input ending.text.items ending.status c.args.lines _ _ are c.requires.good
    (subst (λ (lines : List (List ℕ)). IsHeadFault lines c.in-Err.fault) c.in_ok-lines.ensures c.in-Err.ensures.fault)
    c.in_ok-refusal_of_head-in-Err.ensures is)
    c.refusal.ensures
