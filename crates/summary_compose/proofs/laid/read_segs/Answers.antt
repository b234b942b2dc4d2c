-- What is still to come has its room.
use Rattle.std.proofs.Common.{ap, arith, length, length-append, map, take}
use Rattle.std.proofs.lemmas.List.Folds.{length-flat_map-take}
use Rattle.face_data.specs.Through.{seg_through, through}
use Rattle.face_data.specs.View.{changed_of}
use Rattle.summary_compose.proofs.Parts.{past_end}
use Rattle.summary_compose.proofs.laid.read_segs.Goals as goal

pub read_seg-requires-clause-room : goal.read_seg-requires-clause-room
read_seg-requires-clause-room c =
    let more = length-flat_map-take (seg_through (map (changed_of c.args.a.now.segs.now) c.args.a.now.changes.now) c.args.a.now.lines) c.args.more.now c.loop-seg.seg-index past_end c.loop-seg-test.true in
    let len = ap length c.loop-seg.invariant.items in
    let app = length-append c.args.segs.now.items (through (map (changed_of c.args.a.now.segs.now) c.args.a.now.changes.now) c.args.a.now.lines (take c.loop-seg.seg-index c.args.more.now)) in
    omega (arith, more, len, app, c.requires.room, c.loop-seg.invariant.capacity)
