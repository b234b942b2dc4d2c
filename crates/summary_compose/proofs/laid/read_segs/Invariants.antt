use Rattle.std.proofs.Common.{◌≡◌, ◌++◌, vec_capacity, take, map}
use Rattle.face_data.specs.Through.{through}
use Rattle.face_data.specs.View.{changed_of}
use Rattle.summary_compose.proofs.laid.read_segs.Given as goal

abbrev pub invariant-loop-seg : goal.invariant-loop-seg
invariant-loop-seg l = record {
  items : l.segs.items ≡ l.initial.segs.items ++ through (map (changed_of l.a.segs.now) l.a.changes.now) l.a.lines (take l.seg-index l.more);
  capacity : vec_capacity l.segs ≡ vec_capacity l.initial.segs;
}
