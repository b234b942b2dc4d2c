use Rattle.std.proofs.Common.{◌≡◌, ◌≤◌, [], take}
use Rattle.face_data.specs.Segments.{entry_needles_of, new_of}
use Rattle.summary_compose.proofs.laid.count_new.Given as goal

abbrev pub invariant-loop-seg : goal.invariant-loop-seg
invariant-loop-seg l = record {
  entries : entry_needles_of (take l.seg-index l.segs) ≡ [];
  count : l.count ≡ new_of (take l.seg-index l.segs);
  few : l.count ≤ l.seg-index;
}
