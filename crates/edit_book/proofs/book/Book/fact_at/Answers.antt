use Rattle.std.proofs.Common.{◌<◌, ◌-◌, List, length, ap, sym, subst, ◌∙◌, arith}
use Rattle.face_data.specs.declared.face.Seg.{Seg}
use Rattle.face_data.specs.Segments.{entry_needles_of}
use Rattle.edit_book.specs.Books.{BookView}
use Rattle.edit_book.specs.Entered.{entries_held}
use Rattle.edit_book.proofs.AskedLoops.{place_from_first_line, none_at_stop, none_behind, none_in_head, none_in_table, row_behind, row_fits, row_told}
use Rattle.edit_book.proofs.LinePlaces.{place_within}
use Rattle.edit_book.proofs.Boxes.{count_of, leaf_of, place_of}
use Rattle.edit_book.proofs.book.Book.fact_at.Goals as goal

pub returns-then-line-first-clause-fact : goal.returns-then-line-first-clause-fact
returns-then-line-first-clause-fact g c = none_in_head _ _ c.args.line c.args.self.now _ _ c.self.invariant c.self.view_is (let early = c.if-line-first.true in omega (arith, early, c.first-first.ensures))

pub returns-then-stops_before-clause-fact : goal.returns-then-stops_before-clause-fact
returns-then-stops_before-clause-fact g c = none_at_stop _ _ c.args.line c.args.self.now _ _ c.self.invariant c.self.view_is (sym c.stops_before.ensures ∙ c.if-stops_before.true)

pub returns-in_default-clause-fact : goal.returns-in_default-clause-fact
returns-in_default-clause-fact g c = none_behind _ _ c.args.line c.args.self.now _ _ c.self.invariant c.self.view_is (let late = c.if-line-first.false in omega (arith, late, c.first-first.ensures)) (place_from_first_line _ _ _ _ _ c.first-first.ensures (sym (place_of _ _ c.deref.ensures (c.args.line - c.first-first.result) _ c.leaf_of_line.ensures) ∙ c.in_default.is))

pub leaf-requires : goal.leaf-requires
leaf-requires g c =
    let within = place_within c.self.inside.tree.value.leaves (c.args.line - c.first-first.result) c.in-Some.at c.in-Some.within (sym (place_of _ _ c.deref.ensures (c.args.line - c.first-first.result) _ c.leaf_of_line.ensures) ∙ c.in-Some.is) in
    omega (arith, within, count_of _ _ c.deref-2.ensures)

pub returns-in_default-find-clause-fact : goal.returns-in_default-find-clause-fact
returns-in_default-find-clause-fact g c =
    none_in_table _ _ c.args.line c.args.self.now _ _ c.self.invariant c.self.view_is (let late = c.if-line-first.false in omega (arith, late, c.first-first.ensures)) (sym c.stops_before.ensures ∙ c.if-stops_before.false)
    c.in-Some.at c.in-Some.within (place_from_first_line _ _ _ _ _ c.first-first.ensures (sym (place_of _ _ c.deref.ensures (c.args.line - c.first-first.result) _ c.leaf_of_line.ensures) ∙ c.in-Some.is)) _ (leaf_of _ _ c.deref-2.ensures c.in-Some.at _ c.leaf.ensures.leaf) (sym c.find.ensures.place ∙ c.in_default-find.is)

pub entries_at-requires : goal.entries_at-requires
entries_at-requires g c =
    subst (λ (w : BookView). c.in-Some.at < length w.tree.leaves) c.self.view_is (place_within _ _ c.in-Some.at c.in-Some.within (sym (place_of _ _ c.deref.ensures (c.args.line - c.first-first.result) _ c.leaf_of_line.ensures) ∙ c.in-Some.is))

pub overflow_sub-line-2 : goal.overflow_sub-line-2
overflow_sub-line-2 g c =
    let behind = row_behind _ _ c.args.line c.args.self.now _ _ c.self.invariant c.self.view_is (let late = c.if-line-first.false in omega (arith, late, c.first-first.ensures)) (sym c.stops_before.ensures ∙ c.if-stops_before.false)
    c.in-Some.at c.in-Some.within (place_from_first_line _ _ _ _ _ c.first-first.ensures (sym (place_of _ _ c.deref.ensures (c.args.line - c.first-first.result) _ c.leaf_of_line.ensures) ∙ c.in-Some.is)) _ (leaf_of _ _ c.deref-2.ensures c.in-Some.at _ c.leaf.ensures.leaf) c.in-Some-find.place c.row-row.result.now (sym c.find.ensures.place ∙ c.in-Some-find.is) c.row-row.ensures.row in
    omega (arith, behind)

pub resolve-requires-clause-line : goal.resolve-requires-clause-line
resolve-requires-clause-line g c =
    (row_fits _ _ c.args.line c.args.self.now _ _ c.self.invariant c.self.view_is (let late = c.if-line-first.false in omega (arith, late, c.first-first.ensures)) (sym c.stops_before.ensures ∙ c.if-stops_before.false)
    c.in-Some.at c.in-Some.within (place_from_first_line _ _ _ _ _ c.first-first.ensures (sym (place_of _ _ c.deref.ensures (c.args.line - c.first-first.result) _ c.leaf_of_line.ensures) ∙ c.in-Some.is)) _ (leaf_of _ _ c.deref-2.ensures c.in-Some.at _ c.leaf.ensures.leaf) c.in-Some-find.place c.row-row.result.now (sym c.find.ensures.place ∙ c.in-Some-find.is) c.row-row.ensures.row (let few = c.ranges.line.fits in omega (arith, few))).0

pub resolve-requires-clause-lines : goal.resolve-requires-clause-lines
resolve-requires-clause-lines g c =
    (row_fits _ _ c.args.line c.args.self.now _ _ c.self.invariant c.self.view_is (let late = c.if-line-first.false in omega (arith, late, c.first-first.ensures)) (sym c.stops_before.ensures ∙ c.if-stops_before.false)
    c.in-Some.at c.in-Some.within (place_from_first_line _ _ _ _ _ c.first-first.ensures (sym (place_of _ _ c.deref.ensures (c.args.line - c.first-first.result) _ c.leaf_of_line.ensures) ∙ c.in-Some.is)) _ (leaf_of _ _ c.deref-2.ensures c.in-Some.at _ c.leaf.ensures.leaf) c.in-Some-find.place c.row-row.result.now (sym c.find.ensures.place ∙ c.in-Some-find.is) c.row-row.ensures.row (let few = c.ranges.line.fits in omega (arith, few))).1

pub returns-clause-fact : goal.returns-clause-fact
returns-clause-fact g c =
    row_told _ _ c.args.line c.args.self.now _ _ c.self.invariant c.self.view_is (let late = c.if-line-first.false in omega (arith, late, c.first-first.ensures)) (sym c.stops_before.ensures ∙ c.if-stops_before.false)
    c.in-Some.at c.in-Some.within (place_from_first_line _ _ _ _ _ c.first-first.ensures (sym (place_of _ _ c.deref.ensures (c.args.line - c.first-first.result) _ c.leaf_of_line.ensures) ∙ c.in-Some.is)) _ (leaf_of _ _ c.deref-2.ensures c.in-Some.at _ c.leaf.ensures.leaf) c.in-Some-find.place c.row-row.result.now (sym c.find.ensures.place ∙ c.in-Some-find.is) c.row-row.ensures.row _ _
    (λ t here. c.in_ok-entries.ensures t here ∙ ap (λ (l : List Seg). entries_held t (entry_needles_of l)) c.as_slice.ensures.items) c.in_ok-resolve.ensures
