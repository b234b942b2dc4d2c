use Rattle.std.proofs.Common.{◌≡◌, ◌-◌, ◌≤◌, ℕ, Option, ap, subst, sym, ◌∙◌, arith}
use Rattle.edit_book.proofs.Boxes.{place_of}
use Rattle.edit_book.proofs.Looks.{no_id}
use Rattle.edit_book.proofs.Listings.{inner_within, placed_here, unplaced_here}
use Rattle.edit_book.proofs.book.Book.place_of.Goals as goal
use Rattle.summary_tree.specs.Leaves.{place_of_line}

pub returns-in_default : goal.returns-in_default
returns-in_default c =
    let later = subst (λ (n : ℕ). n ≤ c.args.line) c.first-first.ensures c.if-line-first.false in
    unplaced_here _ _ c.args.self.now _ _ c.self.invariant c.self.view_is c.args.line later
    (ap (λ (n : ℕ). place_of_line c.self.inside.tree.value.leaves (c.args.line - n)) (sym c.first-first.ensures) ∙ sym (place_of _ _ c.deref.ensures _ _ c.leaf_of_line.ensures) ∙ c.in_default.is)

pub unreachable-requires : goal.unreachable-requires
unreachable-requires c =
    no_id _ _ _ c.in-Some.at c.in-Some.within c.args.self.now _ _ c.self.invariant c.self.view_is (sym (place_of _ _ c.deref.ensures _ _ c.leaf_of_line.ensures) ∙ c.in-Some.is) (sym c.id_at.ensures ∙ c.in_default-id_at.is)

pub overflow_add-result : goal.overflow_add-result
overflow_add-result c =
    let fits = inner_within _ _ c.args.self.now _ _ c.self.invariant c.self.view_is _ c.in-Some.at c.in-Some.within (sym (place_of _ _ c.deref.ensures _ _ c.leaf_of_line.ensures) ∙ c.in-Some.is) in
    omega (arith, fits)

pub returns : goal.returns
returns c =
    let later = subst (λ (n : ℕ). n ≤ c.args.line) c.first-first.ensures c.if-line-first.false in
    placed_here _ _ c.args.self.now _ _ c.self.invariant c.self.view_is c.args.line c.in-Some.at c.in-Some.within c.in-Some-id_at.block later
    (ap (λ (n : ℕ). place_of_line c.self.inside.tree.value.leaves (c.args.line - n)) (sym c.first-first.ensures) ∙ sym (place_of _ _ c.deref.ensures _ _ c.leaf_of_line.ensures) ∙ c.in-Some.is)
    (sym c.id_at.ensures ∙ c.in-Some-id_at.is)
