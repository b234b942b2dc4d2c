use Rattle.std.proofs.Common.{◌≡◌, arith, rules, ap, sym, ◌∙◌, get_or, [], true}
use Rattle.std.proofs.lemmas.Result.{err_from_is_err_and}
use Rattle.script_reader.specs.Statements.{is_groups}
use Rattle.script_reader.proofs.GroupSessions.{groups_refused, groups_spelled}
use Rattle.script_reader.proofs.groups.read.Goals as goal

pub returns-in_err-sessions-clause-fault : goal.returns-in_err-sessions-clause-fault
returns-in_err-sessions-clause-fault c =
    let p = err_from_is_err_and c.from_residual-in_err-sessions.result c.from_residual-in_err-sessions.ensures.1 in
    rw (p.1, p.2)
    (groups_refused c.args.lines.now c.in_ok-text.text c.in_ok-text.next c.in_err-sessions.field-0.0 (omega arith) c.in_ok-text.ensures.says (c.in_err-sessions.ensures.fault c.in_ok-text.text))

pub returns-clause-script : goal.returns-clause-script
returns-clause-script c =
    let holds : c.is_groups.result ≡ true = search rules in
    let begun : is_groups (get_or c.args.lines.now 0 []) ≡ true = sym (c.is_groups.ensures ∙ ap is_groups (c.as_bytes.ensures.value ∙ c.nth_line.ensures.text)) ∙ holds in
    groups_spelled c.args.lines.now c.in_ok-text.text c.in_ok-text.next c.in_ok-sessions.sessions (omega arith) begun c.in_ok-text.ensures.says c.in_ok-sessions.ensures.says c.in_ok-sessions.ensures.few c.in_ok-sessions.ensures.good
