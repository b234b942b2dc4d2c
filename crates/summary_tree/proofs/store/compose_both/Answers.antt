use Rattle.std.proofs.Common.{◌≡◌, sym, subst}
use Rattle.face_data.specs.Summaries.{Summary}
use Rattle.face_data.specs.View.{summary_of}
use Rattle.summary_compose.specs.Composing.{IsNoGreater}
use Rattle.summary_compose.specs.Rooms.{room_after}
use Rattle.summary_tree.specs.Faces.{face_in}
use Rattle.summary_tree.specs.Laws.{along_rooms}
use Rattle.summary_tree.specs.Rooms.{kept_room}
use Rattle.summary_tree.proofs.Meets.{same_there, both_kept}
use Rattle.summary_compose.specs.Rooms.{room_of_both_faces}
use Rattle.summary_tree.proofs.store.compose_both.Goals as goal

pub compose_into-requires-clause-room : goal.compose_into-requires-clause-room
compose_into-requires-clause-room g c =
    let p = c.requires in
    let a : summary_of c.in-Some.a ≡ p.0.0 = same_there (face_in c.args.faces.now c.args.left) (summary_of c.in-Some.a) p.0.0 c.in-Some.ensures.some p.2 in
    let b : summary_of c.in-Some-get.b ≡ p.1.0 = same_there (face_in c.args.faces.now c.args.right) (summary_of c.in-Some-get.b) p.1.0 c.in-Some-get.ensures.some p.3 in
    let first = subst (λ (s : Summary). IsNoGreater (room_after (kept_room s) (kept_room p.1.0)) c.args.scratch.now.room) (sym a) p.5 in
    let enough = subst (λ (s : Summary). IsNoGreater (room_after (kept_room (summary_of c.in-Some.a)) (kept_room s)) c.args.scratch.now.room) (sym b) first in
    along_rooms (room_of_both_faces c.in-Some.a c.in-Some-get.b) (room_after (kept_room (summary_of c.in-Some.a)) (kept_room (summary_of c.in-Some-get.b))) c.args.scratch.now.room (both_kept c.in-Some.a c.in-Some-get.b c.in-Some.ensures.packed c.in-Some-get.ensures.packed) enough
