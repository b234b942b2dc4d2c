use Rattle.std.proofs.Common.{subst}
use Rattle.std.proofs.lemmas.Result.{IfOk-weaker}
use Rattle.input_answers.specs.Due.{BodyFits, IsSizeRefusal}
use Rattle.input_answers.proofs.MadeDues.{made-large, made-summary}
use Rattle.input_answers.proofs.made.made_by_blocks.Goals as goal

pub returns-in-Some : goal.returns-in-Some
returns-in-Some g c =
    IfOk-weaker c.refusal.result _ _
    (λ ending is.
    made-large c.args.plan.now.chosen c.args.rows c.args.start ending.text.items ending.status c.in_ok-body.body.lines c.in-Some.refusal c.in_ok-body.ensures
    (subst (λ n. IsSizeRefusal c.args.plan.now.chosen.block n c.in-Some.refusal) c.len.ensures c.in-Some.ensures) is)
    c.refusal.ensures

pub returns : goal.returns
returns g c =
    made-summary c.args.plan.now.chosen c.args.rows c.args.start c.in_ok-ending-in-None.ending.text.items c.in_ok-ending-in-None.ending.status c.in_ok-body.body.lines c.in_ok-body.body.head c.in_ok-body.ensures
    c.in_ok-body.body.headed (subst (BodyFits c.args.plan.now.chosen.block) c.len.ensures c.in-None.ensures) (c.in_ok-ending-in-None.ensures.report, c.in_ok-ending-in-None.ensures.status)
