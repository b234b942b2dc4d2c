use Rattle.std.proofs.Common.{List, ℕ, subst, refl}
use Rattle.std.specs.Io.KnownBytes.{Appends}
use Rattle.knit_ports.specs.Whole.{TookFront}
use Rattle.check_main.specs.Top.{cut_short, written}
use Rattle.check_main.proofs.top.write_answer.Goals as goal

pub returns-in-Ok : goal.returns-in-Ok
returns-in-Ok g c = λ words source called.
    written c.args.answer.text.items called
    (subst (λ (text : List ℕ). Appends (g.K.Sink.taken c.args.sink.now) (g.K.Sink.taken c.write_report.new.sink) text) c.deref.ensures.value c.in-Ok.ensures.ok)
    c.in-Ok.ensures.calm

pub returns : goal.returns
returns g c = λ words source called.
    cut_short c.args.answer.text.items c.args.answer.outcome.status called refl c.in-Err.ensures.cause
    (subst (λ (text : List ℕ). TookFront (g.K.Sink.taken c.args.sink.now) (g.K.Sink.taken c.write_report.new.sink) text) c.deref.ensures.value c.in-Err.ensures.err)
