use Rattle.std.proofs.Common.{rules, ◌≡◌, List, Some, refl, sym, ap, ◌∙◌}
use Rattle.std.specs.List.{insert}
use Rattle.face_data.specs.Segments.{Changed}
use Rattle.face_data.proofs.Places.{merged_in_order, found_at, missed_at, written_at, inserted_at}
use Rattle.face_data.proofs.symbols.Symbols.swap.Goals as goal

pub invariant_of-self : goal.invariant_of-self
invariant_of-self c =
    let held : List Changed = c.self.inside.held.items in
    merged_in_order held _ c.args.n c.args.segs c.self.invariant
    (written_at held c.deref.result.now held c.args.n c.in-Ok.i c.index_mut-place.result.now c.replace.new.dest c.args.segs c.self.invariant c.deref.ensures.value refl c.in-Ok.ensures.found c.index_mut-place.ensures.value c.replace.ensures.after)

pub invariant_of-self-in-Err : goal.invariant_of-self-in-Err
invariant_of-self-in-Err c =
    let held : List Changed = c.self.inside.held.items in
    let items : c.insert.new.self.items ≡ insert held c.in-Err.i (c.args.n, c.args.segs) = search rules in
    merged_in_order held _ c.args.n c.args.segs c.self.invariant
    (inserted_at held c.deref.result.now held c.insert.new.self.items c.args.n c.in-Err.i c.args.segs c.deref.ensures.value refl c.in-Err.ensures.gap items)

pub returns-in-Ok-clause-ok : goal.returns-in-Ok-clause-ok
returns-in-Ok-clause-ok c =
    written_at c.self.inside.held.items c.deref.result.now c.args.self.now c.args.n c.in-Ok.i c.index_mut-place.result.now c.replace.new.dest c.args.segs c.self.invariant c.deref.ensures.value (sym c.self.view_is) c.in-Ok.ensures.found c.index_mut-place.ensures.value c.replace.ensures.after

pub returns-in-Ok-clause-was : goal.returns-in-Ok-clause-was
returns-in-Ok-clause-was c =
    ap Some c.replace.ensures.value
    ∙ found_at c.self.inside.held.items c.deref.result.now c.args.self.now c.args.n c.in-Ok.i c.index_mut-place.result.now c.self.invariant c.deref.ensures.value (sym c.self.view_is) c.in-Ok.ensures.found c.index_mut-place.ensures.value

pub returns-in_ok-insert-in-Err-clause-ok : goal.returns-in_ok-insert-in-Err-clause-ok
returns-in_ok-insert-in-Err-clause-ok c =
    let held : List Changed = c.self.inside.held.items in
    let items : c.insert.new.self.items ≡ insert held c.in-Err.i (c.args.n, c.args.segs) = search rules in
    inserted_at held c.deref.result.now c.args.self.now c.insert.new.self.items c.args.n c.in-Err.i c.args.segs c.deref.ensures.value (sym c.self.view_is) c.in-Err.ensures.gap items

pub returns-in_ok-insert-in-Err-clause-was : goal.returns-in_ok-insert-in-Err-clause-was
returns-in_ok-insert-in-Err-clause-was c =
    missed_at c.self.inside.held.items c.deref.result.now c.args.self.now c.args.n c.in-Err.i c.deref.ensures.value (sym c.self.view_is) c.in-Err.ensures.gap

pub returns-in-Ok-clause-rising : goal.returns-in-Ok-clause-rising
returns-in-Ok-clause-rising c =
    let held : List Changed = c.self.inside.held.items in
    merged_in_order held _ c.args.n c.args.segs c.self.invariant
    (written_at held c.deref.result.now held c.args.n c.in-Ok.i c.index_mut-place.result.now c.replace.new.dest c.args.segs c.self.invariant c.deref.ensures.value refl c.in-Ok.ensures.found c.index_mut-place.ensures.value c.replace.ensures.after)

pub returns-in_ok-insert-in-Err-clause-rising : goal.returns-in_ok-insert-in-Err-clause-rising
returns-in_ok-insert-in-Err-clause-rising c =
    let held : List Changed = c.self.inside.held.items in
    let items : c.insert.new.self.items ≡ insert held c.in-Err.i (c.args.n, c.args.segs) = search rules in
    merged_in_order held _ c.args.n c.args.segs c.self.invariant
    (inserted_at held c.deref.result.now held c.insert.new.self.items c.args.n c.in-Err.i c.args.segs c.deref.ensures.value refl c.in-Err.ensures.gap items)
