use Rattle.std.proofs.Common.{◌≡◌, ◌<◌, Some, None, map, length, sym, ◌∙◌, ap, subst, arith}
use Rattle.std.specs.Prelude.{slice_set}
use Rattle.std.specs.Option.{option_map}
use Rattle.std.proofs.lemmas.List.{length-map, map-set, set-get_or}
use Rattle.summary_compose.specs.Rooms.{room_of_face}
use Rattle.summary_tree.specs.Faces.{FacesView, IsEntryTable, TookSpans, spare_in, summary_in, table_view}
use Rattle.summary_tree.proofs.FaceTables.{are_out, table_filled, read_at, table_refilled, spare_seen, took_spans}
use Rattle.summary_tree.proofs.faces.Faces.put.Goals as goal
use Rattle.summary_tree.proofs.faces.Faces.put.Goals.{in-Some-1, in-None-1}

pub refill-requires-clause-spare : goal.refill-requires-clause-spare
refill-requires-clause-spare c = λ list class is.
    omega (arith, c.requires.spare list class is, spare_seen c.self.inside.entries.items c.self.inside.pools list class, ap (λ (v : FacesView). spare_in v list class) c.self.view_is)

pub entry_of-requires-clause-spare : goal.entry_of-requires-clause-spare
entry_of-requires-clause-spare c = λ list class is.
    omega (arith, c.requires.spare list class is, spare_seen c.self.inside.entries.items c.self.inside.pools list class, ap (λ (v : FacesView). spare_in v list class) c.self.view_is)

pub refill-requires-clause-of_pools : goal.refill-requires-clause-of_pools
refill-requires-clause-of_pools c =
    let within : c.args.at < length c.self.inside.entries.items = omega (arith, c.requires.place, ap (λ (v : FacesView). length v.faces) c.self.view_is, length-map c.self.inside.entries.items (option_map summary_in)) in
    are_out c.self.inside.entries.items c.self.inside.pools c.args.at c.in-Some.entry c.self.invariant (read_at c.self.inside.entries.items c.args.at c.index_mut.result.now (Some c.in-Some.entry) c.index_mut.ensures.value within c.in-Some.is)

pub invariant_of-self : goal.invariant_of-self
invariant_of-self c =
    let within : c.args.at < length c.self.inside.entries.items = omega (arith, c.requires.place, ap (λ (v : FacesView). length v.faces) c.self.view_is, length-map c.self.inside.entries.items (option_map summary_in)) in
    let here = read_at c.self.inside.entries.items c.args.at c.index_mut.result.now (Some c.in-Some.entry) c.index_mut.ensures.value within c.in-Some.is in
    table_refilled c.self.inside.entries.items c.self.inside.pools c.refill.new.self c.args.at c.in-Some.entry c.refill.new.entry c.self.invariant within here c.refill.ensures.packed c.refill.ensures.out

pub invariant_of-self-in-None-2 : goal.invariant_of-self-in-None-2
invariant_of-self-in-None-2 c =
    let within : c.args.at < length c.self.inside.entries.items = omega (arith, c.requires.place, ap (λ (v : FacesView). length v.faces) c.self.view_is, length-map c.self.inside.entries.items (option_map summary_in)) in
    let here = read_at c.self.inside.entries.items c.args.at c.index_mut.result.now None c.index_mut.ensures.value within c.in-None.is in
    let back = ap (slice_set c.self.inside.entries.items c.args.at) c.index_mut.ensures.value ∙ set-get_or c.self.inside.entries.items c.args.at c.index_mut.result.now in
    subst (λ entries. IsEntryTable (slice_set entries c.args.at (Some c.entry_of.result)) c.entry_of.new.self) (sym back)
    (table_filled c.self.inside.entries.items c.self.inside.pools c.entry_of.new.self c.args.at c.entry_of.result c.self.invariant within here c.entry_of.ensures.packed c.entry_of.ensures.out)

pub returns-in-Some-clause-faces : goal.returns-in-Some-clause-faces
returns-in-Some-clause-faces c =
    map-set (option_map summary_in) c.self.inside.entries.items c.args.at (Some c.refill.new.entry)
    ∙ (ap (λ (v : FacesView). slice_set v.faces c.args.at (Some (summary_in c.refill.new.entry))) c.self.view_is
    ∙ ap (λ s. slice_set c.args.self.now.faces c.args.at (Some s)) c.refill.ensures.summary)

pub returns-in-Some-clause-spares : goal.returns-in-Some-clause-spares
returns-in-Some-clause-spares c =
    subst (λ (v : FacesView). TookSpans v (table_view (slice_set c.self.inside.entries.items c.args.at (Some c.refill.new.entry)) c.refill.new.self) (room_of_face c.args.face.now)) c.self.view_is
    (took_spans c.self.inside.entries.items (slice_set c.self.inside.entries.items c.args.at (Some c.refill.new.entry)) c.self.inside.pools c.refill.new.self (room_of_face c.args.face.now) c.refill.ensures.took)

pub returns-in-None-clause-faces : goal.returns-in-None-clause-faces
returns-in-None-clause-faces c =
    let back = ap (slice_set c.self.inside.entries.items c.args.at) c.index_mut.ensures.value ∙ set-get_or c.self.inside.entries.items c.args.at c.index_mut.result.now in
    let self-is : c.match-index_mut-2.self ≡ table_view (slice_set (slice_set c.self.inside.entries.items c.args.at c.index_mut.result.now) c.args.at (Some c.entry_of.result)) c.entry_of.new.self = elim c.match-index_mut-2.branch [
      | in-Some-1 w ↦ w.self-is
      | in-None-1 w ↦ w.self-is
    ] in
    ap (λ (v : FacesView). v.faces) self-is
    ∙ (map-set (option_map summary_in) (slice_set c.self.inside.entries.items c.args.at c.index_mut.result.now) c.args.at (Some c.entry_of.result)
    ∙ (ap (λ entries. slice_set (map (option_map summary_in) entries) c.args.at (Some (summary_in c.entry_of.result))) back
    ∙ (ap (λ (v : FacesView). slice_set v.faces c.args.at (Some (summary_in c.entry_of.result))) c.self.view_is
    ∙ ap (λ s. slice_set c.args.self.now.faces c.args.at (Some s)) c.entry_of.ensures.summary)))

pub returns-in-None-clause-spares : goal.returns-in-None-clause-spares
returns-in-None-clause-spares c =
    let entries = slice_set (slice_set c.self.inside.entries.items c.args.at c.index_mut.result.now) c.args.at (Some c.entry_of.result) in
    let self-is : c.match-index_mut-2.self ≡ table_view entries c.entry_of.new.self = elim c.match-index_mut-2.branch [
      | in-Some-1 w ↦ w.self-is
      | in-None-1 w ↦ w.self-is
    ] in
    subst (λ (v : FacesView). TookSpans c.args.self.now v (room_of_face c.args.face.now)) (sym self-is)
    (subst (λ (v : FacesView). TookSpans v (table_view entries c.entry_of.new.self) (room_of_face c.args.face.now)) c.self.view_is
    (took_spans c.self.inside.entries.items entries c.self.inside.pools c.entry_of.new.self (room_of_face c.args.face.now) c.entry_of.ensures.took))
