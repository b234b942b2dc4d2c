use Rattle.std.proofs.Common.{◌≡◌, arith, ap, sym, ◌∙◌, get_or, [], refl}
use Rattle.std.proofs.lemmas.Result.{err_from_is_err_and}
use Rattle.script_reader.specs.Groups.{commands_of_step}
use Rattle.script_reader.specs.Reading.{steps_parts}
use Rattle.script_reader.specs.Script.{adds_in}
use Rattle.script_reader.specs.Statements.{kind_of}
use Rattle.script_reader.specs.declared.line.Kind.TheVariants as kinds
use Rattle.script_reader.proofs.GroupSessions.{step_stops, steps_good}
use Rattle.script_reader.proofs.Parts.{parts_more, parts_skipped}
use Rattle.script_reader.proofs.groups.read_steps.Goals as goal

pub returns-in-Session-clause-good : goal.returns-in-Session-clause-good
returns-in-Session-clause-good c = steps_good c.args.lines.now c.args.start c.loop-at.at c.loop-at.steps c.loop-at.adds c.loop-at.invariant

pub returns-clause-good : goal.returns-clause-good
returns-clause-good c = steps_good c.args.lines.now c.args.start c.loop-at.at c.loop-at.steps c.loop-at.adds c.loop-at.invariant

pub returns-in_err-step-in_default-clause-fault : goal.returns-in_err-step-in_default-clause-fault
returns-in_err-step-in_default-clause-fault c =
    let p = err_from_is_err_and c.from_residual.result c.from_residual.ensures.1 in
    let is : kind_of (get_or c.args.lines.now c.loop-at.at []) ≡ c.kind_of.result = sym (c.kind_of.ensures ∙ ap kind_of (c.as_bytes.ensures.value ∙ c.nth_line.ensures.text)) in
    rw (p.1, p.2)
    (step_stops c.args.lines.now c.args.start c.loop-at.at c.loop-at.steps c.loop-at.adds c.loop-at.invariant c.in_err-step-in_default.field-0.0 (omega arith)
    (λ text done steps lawful counted no_text. c.in_err-step-in_default.ensures.fault text done steps lawful counted (λ takes e. no_text takes (is ∙ e))))

pub loop-at-smaller : goal.loop-at-smaller
loop-at-smaller c =
    let high = c.in_ok-step-in_default.ensures.step.says.high in
    let low = c.in_ok-step-in_default.ensures.step.low in
    omega arith

pub loop-at-preserved : goal.loop-at-preserved
loop-at-preserved c =
    rw (c.in_ok-push-in_default.ensures.ok, c.adds_in_step-adds.ensures)
    (parts_more steps_parts c.args.lines.now c.args.start c.loop-at.at c.loop-at.steps 0 c.loop-at.adds c.in_ok-step-in_default.step c.in_ok-step-in_default.next (adds_in (commands_of_step c.in_ok-step-in_default.step)) c.loop-at.invariant c.in_ok-step-in_default.ensures.step refl)

pub loop-at-preserved-in-Skipped : goal.loop-at-preserved-in-Skipped
loop-at-preserved-in-Skipped c =
    let is : kind_of (get_or c.args.lines.now c.loop-at.at []) ≡ kinds.Skipped = sym (c.in-Skipped.ensures ∙ ap kind_of (c.as_bytes.ensures.value ∙ c.nth_line.ensures.text)) in
    parts_skipped steps_parts c.args.lines.now c.args.start c.loop-at.at c.loop-at.steps 0 c.loop-at.adds (omega arith) is c.loop-at.invariant
