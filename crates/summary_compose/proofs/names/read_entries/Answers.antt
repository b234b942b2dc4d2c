-- What is still to come has its room.
use Rattle.std.proofs.Common.{ap, arith, length, length-append, take}
use Rattle.std.proofs.lemmas.List.Folds.{length-flat_map-take}
use Rattle.face_data.specs.Segments.{entry_needles_in, entry_needles_of}
use Rattle.summary_compose.proofs.Parts.{past_end}
use Rattle.summary_compose.proofs.names.read_entries.Goals as goal

pub push_reserved-requires : goal.push_reserved-requires
push_reserved-requires c =
    let more = length-flat_map-take entry_needles_in c.args.segs.now c.loop-seg.seg-index past_end c.loop-seg-test.true in
    let here = ap (λ s. length (entry_needles_in s)) c.in-Entry.is in
    let len = ap length c.loop-seg.invariant.items in
    let app = length-append c.args.names.now.items (entry_needles_of (take c.loop-seg.seg-index c.args.segs.now)) in
    omega (arith, more, here, len, app, c.requires.room, c.loop-seg.invariant.capacity)
