use Rattle.std.proofs.Common.{◌≡◌, All, length, refl, sym, ◌∙◌, ap, subst, arith}
use Rattle.std.proofs.lemmas.Grind.{common_steps}
use Rattle.std.proofs.lemmas.Result.{IfOk-weaker}
use Rattle.carriage_model.specs.State.{empty_state}
use Rattle.face_data.specs.Segments.{OffsetFits, read_segs}
use Rattle.face_data.specs.Through.{through}
use Rattle.face_data.specs.View.{summary_of}
use Rattle.summary_tree.specs.Entries.{IsToldBehind}
use Rattle.summary_tree.proofs.NeedleEntries.{told_behind_all, part_there, part_fits, part_in_order, part_read, lines_fit, loops_read}
use Rattle.summary_tree.proofs.entry.loops_behind.Goals as goal

pub loop-part-init : goal.loop-part-init
loop-part-init c = λ all s stand. (all, s, stand, subst (IsToldBehind all c.args.needle all) (sym c.one-segs.ensures) (told_behind_all all c.args.needle))

pub unreachable-requires : goal.unreachable-requires
unreachable-requires c =
    let q = c.requires in
    part_there c.args.store.now.faces c.args.store.now.tables.items q.0 c.args.needle c.loop-part.parts.items c.pop.new.self.items c.in-Some.part c.loop-part.segs c.in-Some.ensures.items (c.loop-part.invariant q.0 q.1 q.2) (c.in_default-face.ensures.none refl)

pub segs_through-requires-clause-order : goal.segs_through-requires-clause-order
segs_through-requires-clause-order c =
    let q = c.requires in
    part_in_order c.args.store.now.faces c.args.store.now.tables.items q.0 c.args.needle c.loop-part.parts.items c.pop.new.self.items c.in-Some.part c.loop-part.segs c.in-Some.ensures.items (c.loop-part.invariant q.0 q.1 q.2) (summary_of c.in-Some-face.face) c.in-Some-face.ensures.some

pub segs_through-requires-clause-parts : goal.segs_through-requires-clause-parts
segs_through-requires-clause-parts c = c.in-Some-face.ensures.packed.changes_fit

pub segs_through-requires-clause-fit : goal.segs_through-requires-clause-fit
segs_through-requires-clause-fit c =
    let q = c.requires in
    subst (All (OffsetFits c.in-Some-face.face.lines)) (sym c.as_slice.ensures.items)
    (part_fits c.args.store.now.faces c.args.store.now.tables.items q.0 c.args.needle c.loop-part.parts.items c.pop.new.self.items c.in-Some.part c.loop-part.segs c.in-Some.ensures.items (c.loop-part.invariant q.0 q.1 q.2) (summary_of c.in-Some-face.face) c.in-Some-face.ensures.some q.1)

pub loop-part-preserved : goal.loop-part-preserved
loop-part-preserved c = λ all s stand.
    let next : c.in_ok-segs.segs ≡ through (summary_of c.in-Some-face.face).changes c.in-Some-face.face.lines c.loop-part.segs = c.in_ok-segs.ensures ∙ ap (through (summary_of c.in-Some-face.face).changes c.in-Some-face.face.lines) c.as_slice.ensures.items in
    part_read c.args.store.now.faces c.args.store.now.tables.items all c.args.needle c.loop-part.parts.items c.pop.new.self.items c.in-Some.part c.loop-part.segs c.in-Some.ensures.items (c.loop-part.invariant all s stand) (summary_of c.in-Some-face.face) c.in_ok-segs.segs c.in-Some-face.ensures.some next

pub loops_of-requires : goal.loops_of-requires
loops_of-requires c =
    let q = c.requires in
    let none : length c.loop-part.parts.items ≡ 0 = grind (arith, common_steps) in
    subst (All (OffsetFits c.args.first)) (sym c.as_slice-2.ensures.items)
    (lines_fit c.args.store.now.faces c.args.store.now.tables.items q.0 c.args.needle c.loop-part.parts.items c.loop-part.segs c.args.first none (c.loop-part.invariant q.0 q.1 q.2) q.3)

pub returns : goal.returns
returns c =
    let none : length c.loop-part.parts.items ≡ 0 = grind (arith, common_steps) in
    IfOk-weaker c.loops_of.result _ _
    (λ loops h all s stand t goes. loops_read c.args.store.now.faces c.args.store.now.tables.items all c.args.needle c.loop-part.parts.items c.loop-part.segs c.args.first t loops none (c.loop-part.invariant all s stand) goes (h ∙ ap (read_segs empty_state c.args.first) c.as_slice-2.ensures.items))
    c.loops_of.ensures
