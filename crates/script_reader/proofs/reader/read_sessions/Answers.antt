use Rattle.std.proofs.Common.{arith, rules, ap, sym, ◌∙◌, ◌≡◌, get_or, []}
use Rattle.std.proofs.lemmas.Result.{err_from_is_err_and}
use Rattle.script_reader.specs.Reading.{script_of}
use Rattle.script_reader.specs.Script.{all_known, command_statements, live_grammar}
use Rattle.script_reader.specs.Statements.{kind_of}
use Rattle.script_reader.specs.declared.line.Kind.TheVariants as kind
use Rattle.script_reader.proofs.LiveSessions.{live_sessions}
use Rattle.script_reader.proofs.Sessions.{many_stops, no_session_stops, session_more, session_stops}
use Rattle.script_reader.proofs.reader.read_sessions.Goals as goal

pub returns-in_default-clause-fault : goal.returns-in_default-clause-fault
returns-in_default-clause-fault c =
    let is : kind_of (get_or c.args.lines.now c.loop-at.at []) ≡ c.kind_of.result = sym (c.kind_of.ensures ∙ ap kind_of (c.as_bytes.ensures.value ∙ c.nth_line.ensures.text)) in
    rw c.bad_line.ensures
    (no_session_stops command_statements (all_known 0) c.args.lines.now live_grammar script_of live_sessions c.args.start c.loop-at.at c.loop-at.sessions (omega arith) c.loop-at.invariant (λ e. c.in_default.not-Session (sym is ∙ e)))

pub returns-then-is_full-clause-fault : goal.returns-then-is_full-clause-fault
returns-then-is_full-clause-fault c =
    let is : kind_of (get_or c.args.lines.now c.loop-at.at []) ≡ kind.Session = sym (c.in-Session.ensures ∙ ap kind_of (c.as_bytes.ensures.value ∙ c.nth_line.ensures.text)) in
    many_stops command_statements (all_known 0) c.args.lines.now live_grammar script_of live_sessions c.args.start c.loop-at.at c.loop-at.sessions (omega arith) c.loop-at.invariant is (search rules)

pub returns-in_err-commands-clause-fault : goal.returns-in_err-commands-clause-fault
returns-in_err-commands-clause-fault c =
    let p = err_from_is_err_and c.from_residual.result c.from_residual.ensures.1 in
    let is : kind_of (get_or c.args.lines.now c.loop-at.at []) ≡ kind.Session = sym (c.in-Session.ensures ∙ ap kind_of (c.as_bytes.ensures.value ∙ c.nth_line.ensures.text)) in
    rw (p.1, p.2)
    (session_stops command_statements (all_known 0) c.args.lines.now live_grammar script_of live_sessions c.args.start c.loop-at.at c.loop-at.sessions (omega arith) c.loop-at.invariant c.in_err-commands.field-0.0 is (search rules) c.in_err-commands.ensures.fault)

pub loop-at-preserved : goal.loop-at-preserved
loop-at-preserved c =
    let is : kind_of (get_or c.args.lines.now c.loop-at.at []) ≡ kind.Session = sym (c.in-Session.ensures ∙ ap kind_of (c.as_bytes.ensures.value ∙ c.nth_line.ensures.text)) in
    rw c.in_ok-push.ensures.ok
    (session_more command_statements (all_known 0) c.args.lines.now c.args.start c.loop-at.at c.loop-at.sessions c.in_ok-commands.commands c.in_ok-commands.next (omega arith) c.loop-at.invariant is (search rules)
    c.in_ok-commands.ensures.says c.in_ok-commands.ensures.known c.in_ok-commands.ensures.session)
