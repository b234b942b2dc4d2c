use Rattle.std.proofs.Common.{arith}
use Rattle.std.proofs.lemmas.Result.{err_from_is_err_and}
use Rattle.script_reader.proofs.LiveSessions.{live_refused}
use Rattle.script_reader.proofs.reader.read.Goals as goal

pub returns-in_err-sessions-clause-fault : goal.returns-in_err-sessions-clause-fault
returns-in_err-sessions-clause-fault c =
    let p = err_from_is_err_and c.from_residual-in_err-sessions.result c.from_residual-in_err-sessions.ensures.1 in
    rw (p.1, p.2)
    (live_refused c.args.lines.now c.in_ok-text.text c.in_ok-text.next c.in_err-sessions.field-0.0 (omega arith) c.in_ok-text.ensures.says (c.in_err-sessions.ensures.fault c.in_ok-text.text))
