use Rattle.std.proofs.Common.{ap, sym, ◌∙◌}
use Rattle.std.specs.Option.{option_copied}
use Rattle.edit_book.proofs.HeldTexts.{held_block_here, held_here, stamp_here}
use Rattle.edit_book.proofs.book.Book.whole_block.Goals as goal

pub unreachable-requires-in_default-stamp : goal.unreachable-requires-in_default-stamp
unreachable-requires-in_default-stamp c =
    let here = held_block_here _ _ c.args.self.now _ _ c.self.invariant c.self.view_is c.args.at c.in-Some.block (sym c.id_at.ensures ∙ c.in-Some.is) in
    let there = stamp_here _ _ _ here in
    cc

pub returns : goal.returns
returns c =
    let here = held_block_here _ _ c.args.self.now _ _ c.self.invariant c.self.view_is c.args.at c.in-Some.block (sym c.id_at.ensures ∙ c.in-Some.is) in
    rw (c.in_ok-try_clone.ensures) (held_here _ c.args.at c.in-Some.block c.in-Some-stamp.stamp c.in-Some-text_of.text.now here (sym c.stamp.ensures ∙ c.in-Some-stamp.is) (sym c.text_of.ensures.text ∙ ap option_copied c.in-Some-text_of.is))
