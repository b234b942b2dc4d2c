use Rattle.std.proofs.Common.{◌≡◌, arith, ap, sym, ◌∙◌, get_or, [], refl, true}
use Rattle.std.proofs.lemmas.Result.{err_from_is_err_and}
use Rattle.script_reader.specs.Reading.{commands_parts}
use Rattle.script_reader.specs.Script.{adds_of, command_line_in}
use Rattle.script_reader.specs.Statements.{kind_of}
use Rattle.script_reader.specs.declared.line.Kind.TheVariants as kinds
use Rattle.script_reader.proofs.Commands.{command_grows}
use Rattle.script_reader.proofs.Ends.{adds_one}
use Rattle.script_reader.proofs.LiveSessions.{commands_known, commands_stop}
use Rattle.script_reader.proofs.Parts.{command_part, parts_more, parts_skipped}
use Rattle.script_reader.proofs.reader.read_commands.Goals as goal

pub returns-in-Session-clause-known : goal.returns-in-Session-clause-known
returns-in-Session-clause-known c = commands_known c.args.lines.now c.args.start c.loop-at.at c.loop-at.commands c.loop-at.adds c.loop-at.invariant

pub returns-clause-known : goal.returns-clause-known
returns-clause-known c = commands_known c.args.lines.now c.args.start c.loop-at.at c.loop-at.commands c.loop-at.adds c.loop-at.invariant

pub returns-in_err-command-in_default-clause-fault : goal.returns-in_err-command-in_default-clause-fault
returns-in_err-command-in_default-clause-fault c =
    let p = err_from_is_err_and c.from_residual.result c.from_residual.ensures.1 in
    let is : kind_of (get_or c.args.lines.now c.loop-at.at []) ≡ c.kind_of.result = sym (c.kind_of.ensures ∙ ap kind_of (c.as_bytes.ensures.value ∙ c.nth_line.ensures.text)) in
    rw (p.1, p.2)
    (commands_stop c.args.lines.now c.args.start c.loop-at.at c.loop-at.commands c.loop-at.adds (omega arith) c.loop-at.invariant c.in_err-command-in_default.field-0.0 (λ e. c.in_default.not-Skipped (sym is ∙ e)) (λ e. c.in_default.not-Session (sym is ∙ e)) c.in_err-command-in_default.ensures.fault)

pub loop-at-smaller : goal.loop-at-smaller
loop-at-smaller c =
    let high = c.in_ok-command-in_default.ensures.command.says.high in
    let low = command_grows c.args.lines.now c.loop-at.at c.loop-at.adds c.in_ok-command-in_default.next c.in_ok-command-in_default.command c.in_ok-command-in_default.ensures.command in
    omega arith

pub loop-at-preserved : goal.loop-at-preserved
loop-at-preserved c =
    rw (c.in_ok-push-in_default.ensures.ok, c.adds_of-adds.ensures)
    (parts_more commands_parts c.args.lines.now c.args.start c.loop-at.at c.loop-at.commands 0 c.loop-at.adds c.in_ok-command-in_default.command c.in_ok-command-in_default.next (adds_of (command_line_in c.in_ok-command-in_default.command)) c.loop-at.invariant
    (command_part (λ command. true) c.args.lines.now c.loop-at.at c.loop-at.adds c.in_ok-command-in_default.command c.in_ok-command-in_default.next refl c.in_ok-command-in_default.ensures.command) (sym (adds_one c.in_ok-command-in_default.command)))

pub loop-at-preserved-in-Skipped : goal.loop-at-preserved-in-Skipped
loop-at-preserved-in-Skipped c =
    let is : kind_of (get_or c.args.lines.now c.loop-at.at []) ≡ kinds.Skipped = sym (c.in-Skipped.ensures ∙ ap kind_of (c.as_bytes.ensures.value ∙ c.nth_line.ensures.text)) in
    parts_skipped commands_parts c.args.lines.now c.args.start c.loop-at.at c.loop-at.commands 0 c.loop-at.adds (omega arith) is c.loop-at.invariant
