use Rattle.std.proofs.Common.{List, ℕ}
use Rattle.input_answers.specs.Asked.{AsksCommand}
use Rattle.input_answers.specs.Played.{played_by}
use Rattle.check_main.specs.Top.{Ran, sink_use, source_use}
use Rattle.check_main.proofs.Calls.{ended-for}
use Rattle.check_main.proofs.Complete.{ran-well}
use Rattle.check_main.proofs.top.run_alone.Goals as goal

pub returns : goal.returns
returns g c =
    let ran : (words : List (List ℕ)) → AsksCommand words c.args.plan.now.command c.args.plan.now.chosen
    → Ran words (source_use g.S.Source.left g.S.Source.faults c.args.source.now c.answer_alone-answer.new.source)
    (sink_use g.K.Sink.taken g.K.Sink.faults c.args.sink.now c.end_with.new.sink) (played_by c.end_with.result) c.end_with.result.status = λ words ask. ended-for words c.args.plan.now.command c.args.plan.now.chosen _ c.answer_alone-answer.result _ ask c.answer_alone-answer.ensures.ok c.answer_alone-answer.ensures.err
    (c.end_with.ensures words _) in
    record { ran = ran; complete = λ words input free. ran-well words _ _ input _ _ _ _ (ran words free.asked) free }
