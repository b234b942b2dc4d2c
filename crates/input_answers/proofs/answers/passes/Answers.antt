use Rattle.std.proofs.Common.{refl}
use Rattle.std.proofs.lemmas.Result.{IfOk-weaker}
use Rattle.command_words.specs.declared.command.Command.TheVariants.{Passes}
use Rattle.input_answers.proofs.Dues.{due-too_large}
use Rattle.input_answers.proofs.answers.passes.Goals as goal

pub returns-in-Some : goal.returns-in-Some
returns-in-Some g c =
    IfOk-weaker c.refusal.result _ _
    (λ ending is input are.
    due-too_large Passes c.args.plan.now.chosen input ending.text.items ending.status c.args.body.now.lines c.args.body.now.head _ _ refl are
    c.args.body.now.good c.args.body.now.headed c.len.ensures c.in-Some.ensures is)
    c.refusal.ensures
