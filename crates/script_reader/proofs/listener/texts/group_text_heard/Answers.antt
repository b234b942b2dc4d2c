use Rattle.std.proofs.Common.{arith, sym, ap, ◌∙◌, ◌≡◌, ◌∷◌, ◌++◌, []}
use Rattle.script_reader.specs.Orders.{edit_with}
use Rattle.script_reader.proofs.Listeners.{adds_of_edit_with, group_whole, holds_edit, kept_lines}
use Rattle.script_reader.proofs.listener.texts.group_text_heard.Goals as goal

pub returns-in-Some : goal.returns-in-Some
returns-in-Some c = λ h number commands lines session group holds room kept.
    let more = c.with_edit.ensures in
    let same : c.in-Some.lines ≡ lines = kept_lines c.args.part.lines c.in-Some.lines lines c.in-Some.is kept in
    let edit : c.edit_with.result ≡ edit_with c.args.part.edit lines = c.edit_with.ensures ∙ ap (edit_with c.args.part.edit) same in
    group_whole c.quiet-in-Some.result h number c.args.part.missing c.with_edit.result commands c.args.part.edit lines c.quiet-in-Some.ensures (omega (arith, c.if-part-gt0.false))
    (session ∙ sym more.session) group
    (holds_edit c.args.group c.with_edit.result commands c.args.part.edit lines c.edit_with.result edit holds room more.edits more.adds (more.keeps commands holds.kept))

pub returns-in-None : goal.returns-in-None
returns-in-None c = λ h number commands lines session group holds room kept.
    let more = c.without_edits.ensures in
    group_whole c.quiet-in-None.result h number c.args.part.missing c.without_edits.result commands c.args.part.edit lines c.quiet-in-None.ensures (omega (arith, c.if-part-gt0.false))
    (session ∙ sym more.session) group
    (adds_of_edit_with c.args.group c.without_edits.result commands c.args.part.edit lines holds room more.edits more.adds (more.keeps (commands ++ edit_with c.args.part.edit lines ∷ [])))
