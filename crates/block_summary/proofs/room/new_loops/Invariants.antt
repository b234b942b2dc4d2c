use Rattle.std.proofs.Common.{◌≡◌, [], take}
use Rattle.face_data.specs.Segments.{entry_needles_of, new_of}
use Rattle.block_summary.proofs.room.new_loops.Given as goal

abbrev pub invariant-loop-seg : goal.invariant-loop-seg
invariant-loop-seg l = record {
  entries : entry_needles_of (take l.seg-index l.segs) ≡ [];
  count : new_of (take l.seg-index l.segs) ≡ l.count;
}
