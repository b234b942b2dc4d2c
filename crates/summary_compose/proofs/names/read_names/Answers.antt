-- What is still to come has its room.
use Rattle.std.proofs.Common.{ap, arith, length, length-append, take}
use Rattle.std.proofs.lemmas.List.Folds.{length-flat_map-take}
use Rattle.face_data.specs.Segments.{segments_on, entry_needles_of, names_through}
use Rattle.summary_compose.specs.Changes.{changes_in}
use Rattle.summary_compose.proofs.Parts.{first_needle}
use Rattle.summary_compose.proofs.names.read_names.Goals as goal

pub read_needle-count-requires-clause-room : goal.read_needle-count-requires-clause-room
read_needle-count-requires-clause-room c =
    let more = length-flat_map-take (λ n. entry_needles_of (segments_on (changes_in c.args.a.now) n)) c.args.more.now c.loop-n.n-index first_needle c.loop-n-test.true in
    let len = ap length c.loop-n.invariant.items in
    let app = length-append c.args.names.now.items (names_through (changes_in c.args.a.now) (take c.loop-n.n-index c.args.more.now)) in
    omega (arith, more, len, app, c.requires.room, c.loop-n.invariant.capacity)
