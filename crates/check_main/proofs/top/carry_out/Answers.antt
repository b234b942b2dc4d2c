use Rattle.std.proofs.Common.{Bool, subst, sym}
use Rattle.command_words.specs.declared.command.Command.{Command}
use Rattle.input_answers.specs.Asked.{AsksCommand, as_json}
use Rattle.input_answers.specs.declared.outcome.Status.{Status}
use Rattle.live_talk.specs.Served.{Served}
use Rattle.check_main.proofs.Calls.{ended-for}
use Rattle.check_main.specs.Top.{conversed}
use Rattle.check_main.proofs.top.carry_out.Goals as goal

pub returns-in-Live : goal.returns-in-Live
returns-in-Live g c = λ words ask.
    ended-for words c.args.plan.now.command c.args.plan.now.chosen _ c.answer_sessions-answer.result _ ask c.answer_sessions-answer.ensures.ok c.answer_sessions-answer.ensures.err
    (c.end_with.ensures words _)

pub returns-in-Serve : goal.returns-in-Serve
returns-in-Serve g c = λ words ask.
    let s = c.serve-status.ensures.served in
    conversed _ c.args.plan.now.chosen s.0 (subst (λ (x : Command). AsksCommand words x c.args.plan.now.chosen) c.in-Serve.is ask) c.without_sessions.ensures.played
    (subst (λ (p : Bool × Status). Served p.0 c.args.plan.now.chosen s.0 p.1) (λ i. (as_json (c.in-Serve.is i), sym c.without_sessions.ensures.status i)) s.2)
