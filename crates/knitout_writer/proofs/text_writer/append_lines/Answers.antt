use Rattle.std.proofs.Common.{◌++◌, ◌∷◌, [], ap, ◌∙◌, refl, append_assoc}
use Rattle.std.proofs.lemmas.Result.{err_from_is_err_and}
use Rattle.line_cutter.proofs.PlacesBehind.{behind-counted, refused-behind}
use Rattle.knitout_writer.proofs.WrittenLines.{written-line, wrote-all, wrote-behind, wrote-more, wrote-none}
use Rattle.knitout_writer.proofs.text_writer.append_lines.Goals as goal

pub writing-init : goal.writing-init
writing-init c = wrote-none c.args.profile.now c.args.declared.now c.args.text.now c.args.out.now.items

pub writing-preserved : goal.writing-preserved
writing-preserved c =
    let copied = wrote-more _ _ _ _ _ _ _ _ _ _ _ c.writing.invariant (c.copied_lines-more.ensures.copied _ _) c.in_ok-extend_from_slice.ensures.items in
    let spelt = c.in_ok-append_body_line.ensures in
    wrote-more _ _ _ _ _ _ _ _ _ _ _ copied (written-line _ _ _ _ spelt.0 _ _ c.if-end-text.false c.in_ok-line.ensures.ok spelt.1)
    (c.in_ok-push.ensures.items ∙ ap (λ l. l ++ 10 ∷ []) spelt.2 ∙ append_assoc c.extend_from_slice.new.self.items spelt.0 (10 ∷ []))

pub returns-then-end-text-clause-good : goal.returns-then-end-text-clause-good
returns-then-end-text-clause-good c =
    let copied = wrote-more _ _ _ _ _ _ _ _ _ _ _ c.writing.invariant (c.copied_lines-more.ensures.copied _ _) c.in_ok-extend_from_slice.ensures.items in
    behind-counted _ _ _ (wrote-behind _ _ _ _ _ _ _ copied) c.if-end-text.true

pub returns-then-end-text-clause-text : goal.returns-then-end-text-clause-text
returns-then-end-text-clause-text c =
    let copied = wrote-more _ _ _ _ _ _ _ _ _ _ _ c.writing.invariant (c.copied_lines-more.ensures.copied _ _) c.in_ok-extend_from_slice.ensures.items in
    wrote-all _ _ _ _ _ _ _ c.if-end-text.true copied

pub returns-in_err-line-clause-err : goal.returns-in_err-line-clause-err
returns-in_err-line-clause-err c =
    let copied = wrote-more _ _ _ _ _ _ _ _ _ _ _ c.writing.invariant (c.copied_lines-more.ensures.copied _ _) c.in_ok-extend_from_slice.ensures.items in
    let p = err_from_is_err_and c.from_residual-in_err-line.result c.from_residual-in_err-line.ensures.1 in
    rw (p.1, p.2) (refused-behind _ _ _ _ _ _ (wrote-behind _ _ _ _ _ _ _ copied) c.in_err-line.ensures.err refl)

pub returns-clause-good : goal.returns-clause-good
returns-clause-good c = behind-counted _ _ _ (wrote-behind _ _ _ _ _ _ _ c.writing.invariant) c.writing-test.false

pub returns-clause-text : goal.returns-clause-text
returns-clause-text c = wrote-all _ _ _ _ _ _ _ c.writing-test.false c.writing.invariant
