use Rattle.std.proofs.Common.{◌≡◌, ◌≤◌, ◌++◌, vec_capacity, take}
use Rattle.face_data.specs.Segments.{entry_needles_of, new_of}
use Rattle.summary_compose.proofs.names.read_entries.Given as goal

abbrev pub invariant-loop-seg : goal.invariant-loop-seg
invariant-loop-seg l = record {
  items : l.names.items ≡ l.initial.names.items ++ entry_needles_of (take l.seg-index l.segs);
  count : l.count ≡ new_of (take l.seg-index l.segs);
  few : l.count ≤ l.seg-index;
  capacity : vec_capacity l.names ≡ vec_capacity l.initial.names;
}
