use Rattle.std.proofs.Common.{◌≡◌, ◌≤◌, length, take}
use Rattle.face_data.specs.Segments.{entry_needles_of}
use Rattle.summary_compose.proofs.room.entries_in.Given as goal

abbrev pub invariant-loop-seg : goal.invariant-loop-seg
invariant-loop-seg l = record {
  count : l.entries ≡ length (entry_needles_of (take l.seg-index l.segs));
  few : l.entries ≤ l.seg-index;
}
