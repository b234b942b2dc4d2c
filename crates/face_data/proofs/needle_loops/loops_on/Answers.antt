use Rattle.std.proofs.Common.{All, subst, sym}
use Rattle.face_data.specs.Segments.{OffsetFits}
use Rattle.face_data.proofs.FaceOffsets.{offsets_fit}
use Rattle.face_data.proofs.needle_loops.loops_on.Goals as goal

pub loops_of-requires : goal.loops_of-requires
loops_of-requires c =
    let g = c.requires.good in
    subst (All (OffsetFits c.args.first)) (sym c.segs_at.ensures)
    (offsets_fit g.carriers g.limit g.known c.args.face.now c.args.first g.good c.requires.lines c.loop-change.change-index _ c.loop-change-test.true)
