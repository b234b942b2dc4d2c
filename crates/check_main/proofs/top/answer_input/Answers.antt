use Rattle.std.proofs.Common.{◌≡◌, rules, subst, true}
use Rattle.command_words.specs.declared.command.Command.{Command}
use Rattle.input_answers.specs.Asked.{AsksCommand, reads_file}
use Rattle.input_answers.specs.Played.{nothing_played}
use Rattle.check_main.specs.Top.{replay, tally, whole}
use Rattle.check_main.proofs.Calls.{called-as}
use Rattle.check_main.proofs.top.answer_input.Goals as goal

pub returns-in_ok-ending-in-Check : goal.returns-in_ok-ending-in-Check
returns-in_ok-ending-in-Check g c = λ source given words ask.
    let reads : reads_file c.args.plan.now.command ≡ true = search rules in
    let ending = c.in_ok-ending-in-Check.ending in
    called-as words source c.without_sessions.result ending.text.items ending.status nothing_played
    (whole c.args.plan.now.command c.args.plan.now.chosen c.args.input.items ending.text.items ending.status ask reads given.bytes given.end given.few c.in_ok-ending-in-Check.ensures)
    c.without_sessions.ensures.text c.without_sessions.ensures.status c.without_sessions.ensures.played

pub returns-in_ok-ending-in-Replay : goal.returns-in_ok-ending-in-Replay
returns-in_ok-ending-in-Replay g c = λ source given words ask.
    let ending = c.in_ok-ending-in-Replay.ending in
    called-as words source c.without_sessions-in-Replay.result ending.text.items ending.status nothing_played
    (replay c.args.plan.now.chosen c.args.input.items ending.text.items ending.status (subst (λ (x : Command). AsksCommand words x c.args.plan.now.chosen) c.in-Replay.is ask)
    given.bytes given.end given.few c.in_ok-ending-in-Replay.ensures)
    c.without_sessions-in-Replay.ensures.text c.without_sessions-in-Replay.ensures.status c.without_sessions-in-Replay.ensures.played

pub returns-in_ok-ending-in-Tally : goal.returns-in_ok-ending-in-Tally
returns-in_ok-ending-in-Tally g c = λ source given words ask.
    let ending = c.in_ok-ending-in-Tally.ending in
    called-as words source c.without_sessions-in-Tally.result ending.text.items ending.status nothing_played
    (tally c.in-Tally.from c.in-Tally.to c.args.plan.now.chosen c.args.input.items ending.text.items ending.status (subst (λ (x : Command). AsksCommand words x c.args.plan.now.chosen) c.in-Tally.is ask)
    given.bytes given.end given.few c.in_ok-ending-in-Tally.ensures)
    c.without_sessions-in-Tally.ensures.text c.without_sessions-in-Tally.ensures.status c.without_sessions-in-Tally.ensures.played
