use Rattle.std.proofs.Common.{arith, rules, ap, sym, ◌∙◌, ◌≡◌, get_or, []}
use Rattle.std.proofs.lemmas.Result.{err_from_is_err_and}
use Rattle.script_reader.specs.Groups.{group_grammar, step_statements}
use Rattle.script_reader.specs.Reading.{is_good_session}
use Rattle.script_reader.specs.Statements.{kind_of}
use Rattle.script_reader.specs.declared.line.Kind.TheVariants as kind
use Rattle.script_reader.proofs.GroupSessions.{closed_of, group_sessions}
use Rattle.script_reader.proofs.Sessions.{many_stops, no_session_stops, session_more, session_stops}
use Rattle.script_reader.proofs.groups.read_sessions.Goals as goal

pub returns-in_default-clause-fault : goal.returns-in_default-clause-fault
returns-in_default-clause-fault c =
    let is : kind_of (get_or c.args.lines.now c.loop-at.at []) ≡ c.kind_of.result = sym (c.kind_of.ensures ∙ ap kind_of (c.as_bytes.ensures.value ∙ c.nth_line.ensures.text)) in
    rw c.bad_line.ensures
    (no_session_stops step_statements is_good_session c.args.lines.now group_grammar closed_of group_sessions c.args.start c.loop-at.at c.loop-at.sessions (omega arith) c.loop-at.invariant (λ e. c.in_default.not-Session (sym is ∙ e)))

pub returns-then-is_full-clause-fault : goal.returns-then-is_full-clause-fault
returns-then-is_full-clause-fault c =
    let is : kind_of (get_or c.args.lines.now c.loop-at.at []) ≡ kind.Session = sym (c.in-Session.ensures ∙ ap kind_of (c.as_bytes.ensures.value ∙ c.nth_line.ensures.text)) in
    many_stops step_statements is_good_session c.args.lines.now group_grammar closed_of group_sessions c.args.start c.loop-at.at c.loop-at.sessions (omega arith) c.loop-at.invariant is (search rules)

pub returns-in_err-steps-clause-fault : goal.returns-in_err-steps-clause-fault
returns-in_err-steps-clause-fault c =
    let p = err_from_is_err_and c.from_residual.result c.from_residual.ensures.1 in
    let is : kind_of (get_or c.args.lines.now c.loop-at.at []) ≡ kind.Session = sym (c.in-Session.ensures ∙ ap kind_of (c.as_bytes.ensures.value ∙ c.nth_line.ensures.text)) in
    rw (p.1, p.2)
    (session_stops step_statements is_good_session c.args.lines.now group_grammar closed_of group_sessions c.args.start c.loop-at.at c.loop-at.sessions (omega arith) c.loop-at.invariant c.in_err-steps.field-0.0 is (search rules) c.in_err-steps.ensures.fault)

pub loop-at-preserved : goal.loop-at-preserved
loop-at-preserved c =
    let is : kind_of (get_or c.args.lines.now c.loop-at.at []) ≡ kind.Session = sym (c.in-Session.ensures ∙ ap kind_of (c.as_bytes.ensures.value ∙ c.nth_line.ensures.text)) in
    rw c.in_ok-push.ensures.ok
    (session_more step_statements is_good_session c.args.lines.now c.args.start c.loop-at.at c.loop-at.sessions c.in_ok-steps.steps c.in_ok-steps.next (omega arith) c.loop-at.invariant is (search rules)
    c.in_ok-steps.ensures.says c.in_ok-steps.ensures.good c.in_ok-steps.ensures.session)
