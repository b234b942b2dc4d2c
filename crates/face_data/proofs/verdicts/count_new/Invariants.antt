use Rattle.std.proofs.Common.{◌≡◌, ◌≤◌, take}
use Rattle.face_data.specs.Segments.{new_of}
use Rattle.face_data.proofs.verdicts.count_new.Given as goal

abbrev pub invariant-loop-seg : goal.invariant-loop-seg
invariant-loop-seg l = record {
  counted : l.count ≡ new_of (take l.seg-index l.segs);
  few : l.count ≤ l.seg-index;
}
