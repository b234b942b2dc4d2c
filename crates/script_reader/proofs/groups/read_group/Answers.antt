use Rattle.std.proofs.Common.{◌≡◌, ◌&&◌, arith, ap, sym, subst, ◌∙◌, get_or, [], ◌∷◌, ◌++◌, true, false, None, length, ltb, ◌<◌, ◌+◌, length-append}
use Rattle.std.proofs.lemmas.Bool.{ltb-true}
use Rattle.std.proofs.lemmas.Result.{err_from_is_err_and}
use Rattle.script_reader.specs.Groups.{group_grammar, is_edit}
use Rattle.script_reader.specs.Reading.{IsGrammarStop, edits_parts, is_edit_kind, is_end_kind, open_of}
use Rattle.script_reader.specs.Script.{adds_of, command_line_in}
use Rattle.script_reader.specs.Statements.{kind_of}
use Rattle.script_reader.specs.declared.line.Kind.TheVariants as kinds
use Rattle.script_reader.proofs.Bools.{first_true, second_true}
use Rattle.script_reader.proofs.Commands.{command_grows}
use Rattle.script_reader.proofs.Ends.{adds_one}
use Rattle.script_reader.proofs.OpenGroups.{edit_is_read, edit_stops, end_stops, group_read, line_stops}
use Rattle.script_reader.proofs.Parts.{command_part, parts_more, parts_skipped}
use Rattle.script_reader.proofs.groups.read_group.Goals as goal

pub returns-then-closes_group-clause-group : goal.returns-then-closes_group-clause-group
returns-then-closes_group-clause-group c =
    let is : c.kind_of-kind.result ≡ kind_of (get_or c.args.lines.now c.loop-at.at []) = c.kind_of-kind.ensures ∙ ap kind_of (c.as_bytes.ensures.value ∙ c.nth_line.ensures.text) in
    let closes : (is_end_kind (kind_of (get_or c.args.lines.now c.loop-at.at [])) && ltb 0 (length c.loop-at.commands)) ≡ true =
    sym (c.closes_group.ensures ∙ (ap (λ n. is_end_kind c.kind_of-kind.result && ltb 0 n) c.len-edits.ensures ∙ ap (λ k. is_end_kind k && ltb 0 (length c.loop-at.commands)) is)) ∙ c.if-closes_group.true in
    group_read c.args.lines.now c.args.start c.requires.at c.requires.kind c.loop-at.at c.loop-at.commands c.args.adds_before c.loop-at.adds c.loop-at.invariant.read c.loop-at.invariant.few (omega arith) closes

pub returns-then-not-takes_edit-clause-fault : goal.returns-then-not-takes_edit-clause-fault
returns-then-not-takes_edit-clause-fault c =
    let is : c.kind_of-kind.result ≡ kind_of (get_or c.args.lines.now c.loop-at.at []) = c.kind_of-kind.ensures ∙ ap kind_of (c.as_bytes.ensures.value ∙ c.nth_line.ensures.text) in
    let no_end : (is_end_kind (kind_of (get_or c.args.lines.now c.loop-at.at [])) && ltb 0 (length c.loop-at.commands)) ≡ false =
    sym (c.closes_group.ensures ∙ (ap (λ n. is_end_kind c.kind_of-kind.result && ltb 0 n) c.len-edits.ensures ∙ ap (λ k. is_end_kind k && ltb 0 (length c.loop-at.commands)) is)) ∙ c.if-closes_group.false in
    let no_edit : (is_edit_kind (kind_of (get_or c.args.lines.now c.loop-at.at [])) && ltb (length c.loop-at.commands) 64) ≡ false =
    sym (c.takes_edit.ensures ∙ (ap (λ n. is_edit_kind c.kind_of-kind.result && ltb n 64) c.len-edits.ensures ∙ ap (λ k. is_edit_kind k && ltb (length c.loop-at.commands) 64) is)) ∙ c.if-not-takes_edit.true in
    λ text done steps lawful same.
    subst (IsGrammarStop group_grammar (open_of text (done ++ steps ∷ []) None) c.args.lines.now c.args.start) (sym c.bad_line.ensures)
    (line_stops c.args.lines.now c.args.start c.requires.at c.requires.kind c.loop-at.at c.loop-at.commands c.args.adds_before c.loop-at.adds c.loop-at.invariant.read c.loop-at.invariant.few text done steps lawful same (omega arith) (λ e. c.in_default.not-Skipped (is ∙ e)) no_end no_edit)

pub returns-in_err-command-clause-fault : goal.returns-in_err-command-clause-fault
returns-in_err-command-clause-fault c =
    let p = err_from_is_err_and c.from_residual.result c.from_residual.ensures.1 in
    let is : c.kind_of-kind.result ≡ kind_of (get_or c.args.lines.now c.loop-at.at []) = c.kind_of-kind.ensures ∙ ap kind_of (c.as_bytes.ensures.value ∙ c.nth_line.ensures.text) in
    let edit : (is_edit_kind (kind_of (get_or c.args.lines.now c.loop-at.at [])) && ltb (length c.loop-at.commands) 64) ≡ true =
    sym (c.takes_edit.ensures ∙ (ap (λ n. is_edit_kind c.kind_of-kind.result && ltb n 64) c.len-edits.ensures ∙ ap (λ k. is_edit_kind k && ltb (length c.loop-at.commands) 64) is)) ∙ c.if-not-takes_edit.false in
    rw (p.1, p.2)
    (λ text done steps lawful same.
    edit_stops c.args.lines.now c.args.start c.requires.at c.requires.kind c.loop-at.at c.loop-at.commands c.args.adds_before c.loop-at.adds c.loop-at.invariant.read c.loop-at.invariant.few text done steps lawful same c.in_err-command.field-0.0 (omega arith) edit
    c.in_err-command.ensures.fault)

pub returns-clause-fault : goal.returns-clause-fault
returns-clause-fault c = λ text done steps lawful same.
    subst (IsGrammarStop group_grammar (open_of text (done ++ steps ∷ []) None) c.args.lines.now c.args.start) (sym c.bad_line-2.ensures)
    (end_stops c.args.lines.now c.args.start c.requires.at c.requires.kind c.loop-at.at c.loop-at.commands c.args.adds_before c.loop-at.adds c.loop-at.invariant.read c.loop-at.invariant.few text done steps lawful same c.len-2.result c.len-2.ensures.len (omega arith))

pub loop-at-smaller : goal.loop-at-smaller
loop-at-smaller c =
    let high = c.in_ok-command.ensures.command.says.high in
    let low = command_grows c.args.lines.now c.loop-at.at c.loop-at.adds c.in_ok-command.next c.in_ok-command.command c.in_ok-command.ensures.command in
    omega arith

pub loop-at-preserved : goal.loop-at-preserved
loop-at-preserved c =
    let is : c.kind_of-kind.result ≡ kind_of (get_or c.args.lines.now c.loop-at.at []) = c.kind_of-kind.ensures ∙ ap kind_of (c.as_bytes.ensures.value ∙ c.nth_line.ensures.text) in
    let both : (is_edit_kind (kind_of (get_or c.args.lines.now c.loop-at.at [])) && ltb (length c.loop-at.commands) 64) ≡ true =
    sym (c.takes_edit.ensures ∙ (ap (λ n. is_edit_kind c.kind_of-kind.result && ltb n 64) c.len-edits.ensures ∙ ap (λ k. is_edit_kind k && ltb (length c.loop-at.commands) 64) is)) ∙ c.if-not-takes_edit.false in
    let edit : is_edit_kind (kind_of (get_or c.args.lines.now c.loop-at.at [])) ≡ true = first_true (is_edit_kind (kind_of (get_or c.args.lines.now c.loop-at.at []))) (ltb (length c.loop-at.commands) 64) both in
    let room : length c.loop-at.commands < 64 = ltb-true (length c.loop-at.commands) 64 (second_true (is_edit_kind (kind_of (get_or c.args.lines.now c.loop-at.at []))) (ltb (length c.loop-at.commands) 64) both) in
    let read = c.in_ok-command.ensures.command in
    rw (c.in_ok-push.ensures.ok, c.adds_of-adds.ensures)
    (record {
      read = parts_more edits_parts c.args.lines.now (c.args.start + 1) c.loop-at.at c.loop-at.commands c.args.adds_before c.loop-at.adds c.in_ok-command.command c.in_ok-command.next (adds_of (command_line_in c.in_ok-command.command)) c.loop-at.invariant.read
          (command_part is_edit c.args.lines.now c.loop-at.at c.loop-at.adds c.in_ok-command.command c.in_ok-command.next (edit_is_read c.args.lines.now c.loop-at.at c.loop-at.adds c.in_ok-command.command c.in_ok-command.next (omega arith) edit read) read) (sym (adds_one c.in_ok-command.command));
      few = omega (arith, room, length-append c.loop-at.commands (c.in_ok-command.command ∷ []));
    })

pub loop-at-preserved-in-Skipped : goal.loop-at-preserved-in-Skipped
loop-at-preserved-in-Skipped c =
    let is : kind_of (get_or c.args.lines.now c.loop-at.at []) ≡ kinds.Skipped = sym (c.kind_of-kind.ensures ∙ ap kind_of (c.as_bytes.ensures.value ∙ c.nth_line.ensures.text)) ∙ c.in-Skipped.is in
    record {
      read = parts_skipped edits_parts c.args.lines.now (c.args.start + 1) c.loop-at.at c.loop-at.commands c.args.adds_before c.loop-at.adds (omega arith) is c.loop-at.invariant.read;
      few = c.loop-at.invariant.few;
    }
