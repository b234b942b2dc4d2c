use Rattle.std.proofs.Common.{ℕ, ◌+◌, ap, sym, ◌∙◌, arith}
use Rattle.edit_book.proofs.Looks.{look_first, look_unplaced}
use Rattle.edit_book.proofs.Made.{at_fits}
use Rattle.edit_book.proofs.Boxes.{before_of, count_of}
use Rattle.edit_book.proofs.book.Book.first_line.Goals as goal

pub unreachable-requires : goal.unreachable-requires
unreachable-requires c = look_unplaced _ _ c.args.block c.args.self.now _ _ c.self.invariant c.self.view_is c.requires (sym c.place.ensures ∙ c.in_default.is)

pub lines_before-requires : goal.lines_before-requires
lines_before-requires c = let within = (at_fits _ _ _ _ _ c.self.invariant (sym c.place.ensures ∙ c.in-Some.is)).0 in omega (arith, within, count_of _ _ c.deref.ensures)

pub overflow_add-result : goal.overflow_add-result
overflow_add-result c =
    let fits = (look_first _ _ c.args.block c.args.self.now _ _ c.self.invariant c.self.view_is c.requires c.in-Some.at c.lines_before.result (sym c.place.ensures ∙ c.in-Some.is) (before_of _ _ c.deref.ensures c.in-Some.at _ c.lines_before.ensures)).1 in
    omega (arith, fits, c.first.ensures)

pub returns : goal.returns
returns c =
    ap (λ (n : ℕ). n + c.lines_before.result) c.first.ensures
    ∙ (look_first _ _ c.args.block c.args.self.now _ _ c.self.invariant c.self.view_is c.requires c.in-Some.at c.lines_before.result (sym c.place.ensures ∙ c.in-Some.is) (before_of _ _ c.deref.ensures c.in-Some.at _ c.lines_before.ensures)).0
