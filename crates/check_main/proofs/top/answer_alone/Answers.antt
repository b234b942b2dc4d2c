use Rattle.std.proofs.Common.{refl, rules, subst}
use Rattle.command_words.specs.declared.command.Command.{Command}
use Rattle.input_answers.specs.Asked.{AsksCommand}
use Rattle.input_answers.specs.Played.{nothing_played}
use Rattle.check_main.specs.Top.{made}
use Rattle.check_main.proofs.Calls.{called-as}
use Rattle.check_main.proofs.top.answer_alone.Goals as goal

pub answer_made-requires : goal.answer_made-requires
answer_made-requires g c = (search rules, c.args.plan.now.numbers c.in-Make.rows c.in-Make.start c.in-Make.is)

pub returns-in_ok-ending-in-Make-clause-ok : goal.returns-in_ok-ending-in-Make-clause-ok
returns-in_ok-ending-in-Make-clause-ok g c = λ words ask.
    let ending = c.in_ok-ending-in-Make.ending in
    called-as words _ c.without_sessions.result ending.text.items ending.status nothing_played
    (made c.in-Make.rows c.in-Make.start c.args.plan.now.chosen ending.text.items ending.status (subst (λ (x : Command). AsksCommand words x c.args.plan.now.chosen) c.in-Make.is ask)
    (record { left = refl; faults = refl }) c.in_ok-ending-in-Make.ensures)
    c.without_sessions.ensures.text c.without_sessions.ensures.status c.without_sessions.ensures.played
