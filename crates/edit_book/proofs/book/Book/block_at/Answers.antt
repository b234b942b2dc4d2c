use Rattle.std.proofs.Common.{◌≡◌, ℕ, ◌+◌, Some, ap, sym, ◌∙◌, arith}
use Rattle.std.specs.Option.{option_copied}
use Rattle.edit_book.proofs.Boxes.{before_of, count_of}
use Rattle.edit_book.proofs.HeldTexts.{held_block_here, stamp_here}
use Rattle.edit_book.proofs.Listings.{at_leaf, begins_within, listed_here, unlisted_here}
use Rattle.edit_book.proofs.book.Book.block_at.Goals as goal

pub returns-in_default : goal.returns-in_default
returns-in_default c = unlisted_here _ _ c.args.self.now _ _ c.self.invariant c.self.view_is c.args.at (sym c.id_at.ensures ∙ c.in_default.is)

pub unreachable-requires : goal.unreachable-requires
unreachable-requires c =
    let here = held_block_here _ _ c.args.self.now _ _ c.self.invariant c.self.view_is c.args.at c.in-Some.block (sym c.id_at.ensures ∙ c.in-Some.is) in
    let there = stamp_here _ _ _ here in
    cc

pub lines_before-requires : goal.lines_before-requires
lines_before-requires c = let within = at_leaf _ _ c.args.self.now _ _ c.self.invariant c.self.view_is c.args.at c.in-Some.block (sym c.id_at.ensures ∙ c.in-Some.is) in omega (arith, within, count_of _ _ c.deref.ensures)

pub overflow_add-result : goal.overflow_add-result
overflow_add-result c =
    let fits = begins_within _ _ c.args.self.now _ _ c.self.invariant c.self.view_is c.args.at c.lines_before.result (before_of _ _ c.deref.ensures c.args.at _ c.lines_before.ensures) in
    omega (arith, fits, c.first.ensures)

pub returns : goal.returns
returns c =
    let first : c.first.result + c.lines_before.result ≡ c.self.inside.outline.opening.setting.first + c.lines_before.result = ap (λ (n : ℕ). n + c.lines_before.result) c.first.ensures in
    (λ i. Some (record { block = c.in-Some.block; stamp = c.in-Some-stamp.stamp; first = first i; lines = c.len.ensures.len i }))
    ∙ listed_here _ _ c.args.self.now _ _ c.self.invariant c.self.view_is c.args.at c.in-Some.block c.in-Some-stamp.stamp c.lines_before.result c.in-Some-text_of.text.now (sym c.id_at.ensures ∙ c.in-Some.is)
    (sym c.stamp.ensures ∙ c.in-Some-stamp.is) (sym c.text_of.ensures.text ∙ ap option_copied c.in-Some-text_of.is) (before_of _ _ c.deref.ensures c.args.at _ c.lines_before.ensures)
