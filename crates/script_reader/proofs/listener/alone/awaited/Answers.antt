use Rattle.script_reader.proofs.listener.alone.awaited.Goals as goal

pub returns-then-count-eq0-clause-moved : goal.returns-then-count-eq0-clause-moved
returns-then-count-eq0-clause-moved c = λ h number none at. rw c.if-count-eq0.true (c.whole.ensures.moved h number none at)
