use Rattle.std.proofs.Common.{Some, ap, sym, ◌∙◌}
use Rattle.std.specs.Option.{option_copied}
use Rattle.std.proofs.lemmas.Result.{IfOk-weaker}
use Rattle.edit_book.proofs.HeldTexts.{block_here, lines_here, text_here}
use Rattle.edit_book.proofs.outline.Outline.copied_text.Goals as goal

pub unreachable-requires-in_default-text_of : goal.unreachable-requires-in_default-text_of
unreachable-requires-in_default-text_of c =
    let here = block_here _ c.args.at c.in-Some.block c.ids-ids.ensures.lawful.has_ids.differ (sym c.id_at.ensures ∙ c.in-Some.is) in
    let there = text_here _ _ _ here in
    let none = sym c.text_of.ensures.text ∙ ap option_copied c.in_default-text_of.is in
    cc

pub returns : goal.returns
returns c =
    let here = block_here _ c.args.at c.in-Some.block c.ids-ids.ensures.lawful.has_ids.differ (sym c.id_at.ensures ∙ c.in-Some.is) in
    IfOk-weaker c.try_clone.result _ _ (λ text is. lines_here _ c.args.at c.in-Some.block text here (sym c.text_of.ensures.text ∙ ap option_copied c.in-Some-text_of.is ∙ ap Some (sym is))) c.try_clone.ensures
