use Rattle.talk_desk.proofs.Said.{on-ok}
use Rattle.talk_desk.proofs.Taken.{refuse-taken}
use Rattle.talk_desk.proofs.host.Host.refuse.Goals as goal

pub returns-clause-said : goal.returns-clause-said
returns-clause-said c = on-ok c.say_bad_line_in.result (λ said s at. refuse-taken _ c.args.self.now.document.style s c.args.line c.args.cause c.args.self.now _ _ at said) c.say_bad_line_in.ensures.ok
