use Rattle.std.proofs.Common.{◌≡◌, ◌++◌, vec_capacity, take}
use Rattle.summary_compose.proofs.laid.push_all.Given as goal

abbrev pub invariant-loop-seg : goal.invariant-loop-seg
invariant-loop-seg l = record {
  items : l.segs.items ≡ l.initial.segs.items ++ take l.seg-index l.more;
  capacity : vec_capacity l.segs ≡ vec_capacity l.initial.segs;
}
