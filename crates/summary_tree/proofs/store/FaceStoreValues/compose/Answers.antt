use Rattle.std.proofs.Common.{◌≡◌, List, Some, sym, ◌∙◌, ap, subst}
use Rattle.std.specs.List.{All}
use Rattle.std.proofs.lemmas.List.Elements.{All-head, All-tail}
use Rattle.face_data.specs.Summaries.{Summary}
use Rattle.face_data.specs.Composition.{composed}
use Rattle.face_data.specs.View.{summary_of}
use Rattle.summary_compose.specs.Composing.{IsNoGreater}
use Rattle.summary_compose.specs.Rooms.{room_after}
use Rattle.summary_compose.specs.declared.room.Room.{Room}
use Rattle.summary_tree.specs.Faces.{face_in}
use Rattle.summary_tree.specs.Laws.{along_rooms}
use Rattle.summary_tree.specs.Rooms.{kept_room}
use Rattle.summary_tree.specs.Store.{leaf_in, node_in}
use Rattle.summary_tree.proofs.Meets.{list_fits, spans_there, spans_left, part_face, same_there, composed_within}
use Rattle.summary_tree.specs.Leaves.{LeavesFit, leaf_room}
use Rattle.tree_shape.specs.Values.{part}
use Rattle.loop_history.specs.declared.row.LoopRow.{LoopRow}
use Rattle.summary_tree.proofs.store.FaceStoreValues.compose.Goals as goal

pub compose_both-requires : goal.compose_both-requires
compose_both-requires g c =
    let p = c.requires.parts in
    let faces = c.args.self.now.faces in
    let left : face_in faces c.place_of.result ≡ Some p.0.0 = ap (face_in faces) c.place_of.ensures ∙ part_face faces c.args.self.now.tables.items c.args.row.left p.0 p.2 in
    let right : face_in faces c.place_of-2.result ≡ Some p.1.0 = ap (face_in faces) c.place_of-2.ensures ∙ part_face faces c.args.self.now.tables.items c.args.row.right p.1 p.3 in
    (p.0, p.1, left, right, p.4, along_rooms (room_after (leaf_room p.0) (leaf_room p.1)) p.5 c.args.self.now.scratch.room p.7 (All-head (λ x. IsNoGreater x c.args.self.now.scratch.room) p.5 p.6 p.8.scratch_has))

pub put-requires-clause-few : goal.put-requires-clause-few
put-requires-clause-few g c =
    let p = c.requires.parts in
    let faces = c.args.self.now.faces in
    let left : face_in faces c.place_of.result ≡ Some p.0.0 = ap (face_in faces) c.place_of.ensures ∙ part_face faces c.args.self.now.tables.items c.args.row.left p.0 p.2 in
    let right : face_in faces c.place_of-2.result ≡ Some p.1.0 = ap (face_in faces) c.place_of-2.ensures ∙ part_face faces c.args.self.now.tables.items c.args.row.right p.1 p.3 in
    let made : summary_of c.view.result ≡ composed p.0.0 p.1.0 = c.view.ensures.summary ∙ c.compose_both.ensures.composed p.0.0 p.1.0 left right in
    let within = subst (λ (s : Summary). IsNoGreater (kept_room s) p.5) (sym made) (composed_within p.0 p.1 p.5 p.4 p.7) in
    λ list. (list_fits faces c.view.result p.5 p.6 p.8.spans c.view.ensures.packed within list).1

pub put-requires-clause-spare : goal.put-requires-clause-spare
put-requires-clause-spare g c =
    let p = c.requires.parts in
    let faces = c.args.self.now.faces in
    let left : face_in faces c.place_of.result ≡ Some p.0.0 = ap (face_in faces) c.place_of.ensures ∙ part_face faces c.args.self.now.tables.items c.args.row.left p.0 p.2 in
    let right : face_in faces c.place_of-2.result ≡ Some p.1.0 = ap (face_in faces) c.place_of-2.ensures ∙ part_face faces c.args.self.now.tables.items c.args.row.right p.1 p.3 in
    let made : summary_of c.view.result ≡ composed p.0.0 p.1.0 = c.view.ensures.summary ∙ c.compose_both.ensures.composed p.0.0 p.1.0 left right in
    let within = subst (λ (s : Summary). IsNoGreater (kept_room s) p.5) (sym made) (composed_within p.0 p.1 p.5 p.4 p.7) in
    spans_there faces c.view.result p.5 p.6 p.8.spans c.view.ensures.packed within

pub returns-clause-room : goal.returns-clause-room
returns-clause-room g c = λ a b r rest of_left of_right enough h.
    let p = c.requires.parts in
    let faces = c.args.self.now.faces in
    let left : face_in faces c.place_of.result ≡ Some p.0.0 = ap (face_in faces) c.place_of.ensures ∙ part_face faces c.args.self.now.tables.items c.args.row.left p.0 p.2 in
    let right : face_in faces c.place_of-2.result ≡ Some p.1.0 = ap (face_in faces) c.place_of-2.ensures ∙ part_face faces c.args.self.now.tables.items c.args.row.right p.1 p.3 in
    let parts = part (leaf_in faces c.args.self.now.tables.items) (node_in faces) in
    let same_a = same_there (parts c.args.row.left) p.0 a p.2 of_left in
    let same_b = same_there (parts c.args.row.right) p.1 b p.3 of_right in
    let fits : LeavesFit a b = subst (λ v. LeavesFit v b) same_a (subst (LeavesFit p.0) same_b p.4) in
    let made : summary_of c.view.result ≡ composed a.0 b.0 =
    c.view.ensures.summary ∙ (c.compose_both.ensures.composed p.0.0 p.1.0 left right ∙ (ap (λ (v : Summary × List LoopRow). composed v.0 p.1.0) same_a ∙ ap (λ (v : Summary × List LoopRow). composed a.0 v.0) same_b)) in
    let within = subst (λ (s : Summary). IsNoGreater (kept_room s) r) (sym made) (composed_within a b r fits enough) in
    record {
      spans = spans_left faces c.put.new.self c.view.result r rest h.spans c.view.ensures.packed within c.put.ensures.spares;
      scratch_has = subst (λ (room : Room). All (λ x. IsNoGreater x room) rest) (sym c.compose_both.ensures.room) (All-tail (λ x. IsNoGreater x c.args.self.now.scratch.room) r rest h.scratch_has);
    }

pub returns-clause-cost : goal.returns-clause-cost
returns-clause-cost g c = λ a b of_left of_right.
    let faces = c.args.self.now.faces in
    let tables = c.args.self.now.tables.items in
    c.compose_both.ensures.steps a.0 b.0 (ap (face_in faces) c.place_of.ensures ∙ part_face faces tables c.args.row.left a of_left) (ap (face_in faces) c.place_of-2.ensures ∙ part_face faces tables c.args.row.right b of_right)
