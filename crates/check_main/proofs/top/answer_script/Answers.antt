use Rattle.std.proofs.Common.{◌≡◌, rules, subst, true}
use Rattle.std.proofs.lemmas.Result.{IfOk-weaker}
use Rattle.command_words.specs.declared.command.Command.{Command}
use Rattle.input_answers.specs.Asked.{AsksCommand, reads_script}
use Rattle.input_answers.specs.Played.{played_by}
use Rattle.check_main.specs.Top.{groups, live}
use Rattle.check_main.proofs.top.answer_script.Goals as goal

pub returns-in-Live : goal.returns-in-Live
returns-in-Live g c =
    let reads : reads_script c.args.plan.now.command ≡ true = search rules in
    IfOk-weaker c.answer_live.result _ _
    (λ answer due source given words ask.
    live c.args.plan.now.command c.args.plan.now.chosen c.args.input.items (played_by answer.outcome) answer.text.items answer.outcome.status
    ask reads given.bytes given.end given.few due)
    c.answer_live.ensures

pub returns-in-Groups : goal.returns-in-Groups
returns-in-Groups g c =
    IfOk-weaker c.answer_groups.result _ _
    (λ answer due source given words ask.
    groups c.args.plan.now.chosen c.args.input.items (played_by answer.outcome) answer.text.items answer.outcome.status
    (subst (λ (x : Command). AsksCommand words x c.args.plan.now.chosen) c.in-Groups.is ask) given.bytes given.end given.few due)
    c.answer_groups.ensures
