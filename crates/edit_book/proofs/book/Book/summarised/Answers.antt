use Rattle.std.proofs.Common.{length, ap, sym, ◌∙◌, arith}
use Rattle.std.specs.Option.{option_copied}
use Rattle.edit_book.proofs.HandedOver.{prepared_leaf}
use Rattle.edit_book.proofs.HeldTexts.{IsTextAt, held_block_here, held_text, text_here}
use Rattle.edit_book.proofs.book.Book.summarised.Goals as goal
use Rattle.edit_book.proofs.book.Book.summarised.Given.{Over}
use Rattle.edit_book.proofs.book.Book.summarised.Goals.{In_ok-try_clone}

pub unreachable-requires-in_default-text_of : goal.unreachable-requires-in_default-text_of
unreachable-requires-in_default-text_of g c =
    let here = held_block_here _ _ c.args.self.now _ _ c.self.invariant c.self.view_is c.args.at c.in-Some.id (sym c.id_at.ensures ∙ c.in-Some.is) in
    let there = text_here _ _ _ here in
    let none = sym c.text_of.ensures.text ∙ ap option_copied c.in_default-text_of.is in
    cc

-- the text that is summarised is that of the block
text_is : (g : Over) (c : In_ok-try_clone g) → IsTextAt c.args.self.now c.args.at c.in_ok-try_clone.field-0
text_is g c =
    held_text _ _ c.args.self.now _ _ c.self.invariant c.self.view_is c.args.at c.in-Some.id c.in-Some-text_of.text.now _ (sym c.id_at.ensures ∙ c.in-Some.is)
    (sym c.text_of.ensures.text ∙ ap option_copied c.in-Some-text_of.is) c.in_ok-try_clone.ensures

pub returns-in-Ok-clause-leaf : goal.returns-in-Ok-clause-leaf
returns-in-Ok-clause-leaf g c = λ b there.
    prepared_leaf c.args.setting.now c.in-Ok.field-0 b.lines (c.in-Ok.ensures.text ∙ text_is g (goal.at.returns-in-Ok-clause-leaf g c).In_ok-try_clone b there) c.in-Ok.ensures.prepared

pub returns-in-Ok-clause-steps : goal.returns-in-Ok-clause-steps
returns-in-Ok-clause-steps g c = λ b there. omega (arith, c.prepare_with.ensures.steps, ap length (text_is g (goal.at.returns-in-Ok-clause-steps g c).In_ok-try_clone b there))

pub returns-clause-steps : goal.returns-clause-steps
returns-clause-steps g c = λ b there. omega (arith, c.prepare_with.ensures.steps, ap length (text_is g (goal.at.returns-clause-steps g c).In_ok-try_clone b there))
