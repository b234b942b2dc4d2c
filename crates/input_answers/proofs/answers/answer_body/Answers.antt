use Rattle.std.proofs.lemmas.Result.{IfOk-weaker}
use Rattle.command_words.specs.declared.command.Command.TheVariants.{Check, Passes}
use Rattle.input_answers.proofs.Dues.{due-for}
use Rattle.input_answers.proofs.answers.answer_body.Goals as goal

pub returns-in-Check : goal.returns-in-Check
returns-in-Check g c =
    IfOk-weaker c.check.result _ _
    (λ ending due input are.
    due-for c.args.plan.now.command (Check c.in-Check.loops c.in-Check.json) c.args.plan.now.chosen input ending.text.items ending.status c.in-Check.is (due input are))
    c.check.ensures

pub returns-in-Passes : goal.returns-in-Passes
returns-in-Passes g c =
    IfOk-weaker c.passes.result _ _
    (λ ending due input are. due-for c.args.plan.now.command Passes c.args.plan.now.chosen input ending.text.items ending.status c.in-Passes.is (due input are))
    c.passes.ensures
