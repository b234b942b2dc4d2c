use Rattle.talk_desk.proofs.Said.{on-ok}
use Rattle.talk_desk.proofs.Told.{question-short, question-told}
use Rattle.talk_desk.proofs.questions.tell_or_lack.Goals as goal

pub returns-in-Ok : goal.returns-in-Ok
returns-in-Ok g c = λ m names. question-told c.args.style.now _ _ m _ _ _ _ (c.in-Ok.ensures.ok m names)

pub returns-in-Err : goal.returns-in-Err
returns-in-Err g c = on-ok c.say_step_in.result (λ said m names. question-short c.args.style.now _ _ m _ _ _ _ _ c.in-Err.ensures.err said) c.say_step_in.ensures.ok
