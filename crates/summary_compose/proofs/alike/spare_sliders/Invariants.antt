use Rattle.std.proofs.Common.{◌≤◌, ◌-◌, length, take}
use Rattle.summary_compose.specs.Changes.{SpareSliders}
use Rattle.summary_compose.proofs.alike.spare_sliders.Given as goal

abbrev pub invariant-loop-i : goal.invariant-loop-i
invariant-loop-i l = record {
  spared : SpareSliders (take l.i l.changes);
  within : l.i ≤ length l.changes;
}

abbrev pub decreases-loop-i : goal.decreases-loop-i
decreases-loop-i l = length l.changes - l.i
