use Rattle.std.proofs.Common.{◌≡◌, ◌≤◌, ◌++◌, ◌-◌, drop, length, map, vec_capacity, take}
use Rattle.summary_compose.specs.Changes.{raised_seg}
use Rattle.summary_compose.proofs.laid.put_raised.Given as goal

abbrev pub invariant-loop-i : goal.invariant-loop-i
invariant-loop-i l = record {
  items : l.segs.items ≡ map (raised_seg l.lines) (take l.i l.more) ++ drop l.i l.more;
  size : length l.segs.items ≡ length l.more;
  capacity : vec_capacity l.fn.segs ≤ vec_capacity l.segs;
}

abbrev pub decreases-loop-i : goal.decreases-loop-i
decreases-loop-i l = length l.more - l.i
