use Rattle.std.proofs.Common.{◌∙◌}
use Rattle.std.proofs.lemmas.Result.{err_from_is_err_and}
use Rattle.script_reader.proofs.GroupSessions.{one_part, one_stops}
use Rattle.script_reader.proofs.groups.read_step.Goals as goal

pub returns-in_ok-command-in_default-clause-step : goal.returns-in_ok-command-in_default-clause-step
returns-in_ok-command-in_default-clause-step c =
    one_part c.args.lines.now c.args.at c.args.adds c.in_ok-command-in_default.command c.in_ok-command-in_default.next c.in_ok-command-in_default.ensures.command

pub returns-in_err-command-in_default-clause-fault : goal.returns-in_err-command-in_default-clause-fault
returns-in_err-command-in_default-clause-fault c =
    let p = err_from_is_err_and c.from_residual.result c.from_residual.ensures.1 in
    rw (p.1, p.2)
    (λ text done steps lawful counted no_text.
    one_stops c.args.lines.now c.args.at c.args.adds c.in_err-command-in_default.field-0.0 c.requires.at (λ e. c.requires.said (c.requires.kind ∙ e)) (λ e. c.requires.session (c.requires.kind ∙ e))
    (λ m e. c.in_default.not-Mark m (c.requires.kind ∙ e)) c.in_err-command-in_default.ensures.fault text done steps lawful counted (λ takes e. no_text takes (c.requires.kind ∙ e)))
