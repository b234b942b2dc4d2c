use Rattle.std.proofs.Common.{Result, rules, subst}
use Rattle.std.specs.Prelude.{OnErr}
use Rattle.std.proofs.KnownBytes.{Keeps-refl}
use Rattle.knit_base.specs.declared.memory.NoMemory.{NoMemory}
use Rattle.input_answers.specs.declared.ending.Answer.{Answer}
use Rattle.check_main.specs.Top.{HasReadWithin, stopped}
use Rattle.check_main.proofs.top.end_with.Goals as goal

pub returns-in-Ok : goal.returns-in-Ok
returns-in-Ok g c = λ words source due read. c.write_answer.ensures words source (search (rules, due, c.in-Ok.is))

pub returns-in-Err : goal.returns-in-Err
returns-in-Err g c = λ words source due read.
    stopped c.without_sessions.ensures.status c.without_sessions.ensures.played (Keeps-refl (g.K.Sink.taken c.args.sink.now))
    (subst (λ (r : Result Answer NoMemory). OnErr r (HasReadWithin words source)) c.in-Err.is read)
