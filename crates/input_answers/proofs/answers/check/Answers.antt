use Rattle.std.proofs.Common.{refl, subst}
use Rattle.std.proofs.lemmas.Result.{IfOk-weaker}
use Rattle.command_words.specs.declared.command.Command.TheVariants.{Check}
use Rattle.input_answers.specs.Due.{BodyFits}
use Rattle.input_answers.proofs.Dues.{due-judged, due-too_large}
use Rattle.input_answers.proofs.answers.check.Goals as goal

pub returns-in-Some : goal.returns-in-Some
returns-in-Some g c =
    IfOk-weaker c.refusal.result _ _
    (λ ending is input are.
    due-too_large (Check c.args.style.loops c.args.style.json) c.args.plan.now.chosen input ending.text.items ending.status c.args.body.now.lines c.args.body.now.head _ _ refl are
    c.args.body.now.good c.args.body.now.headed c.len.ensures c.in-Some.ensures is)
    c.refusal.ensures

pub returns-in-None : goal.returns-in-None
returns-in-None g c =
    IfOk-weaker c.judge.result _ _
    (λ ending is input are.
    due-judged c.args.style.loops c.args.style.json c.args.plan.now.chosen input ending.text.items ending.status c.args.body.now.lines c.args.body.now.head are
    c.args.body.now.good c.args.body.now.headed (subst (BodyFits c.args.plan.now.chosen.block) c.len.ensures c.in-None.ensures) is)
    c.judge.ensures
