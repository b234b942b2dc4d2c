use Rattle.std.proofs.Common.{subst}
use Rattle.check_main.specs.Calls.{IsReading}
use Rattle.check_main.specs.declared.top.Reading.{Reading}
use Rattle.check_main.specs.Top.{source_use}
use Rattle.check_main.proofs.top.answer_sessions.Goals as goal

pub returns-in-Refused-clause-ok : goal.returns-in-Refused-clause-ok
returns-in-Refused-clause-ok g c = λ words ask.
    subst (λ (r : Reading). IsReading (source_use g.S.Source.left g.S.Source.faults c.args.source.now c.read_whole.new.source) r) c.in-Refused.is c.in_ok-input.ensures.ok
    c.args.plan.now.command c.args.plan.now.chosen c.requires.reads words ask
