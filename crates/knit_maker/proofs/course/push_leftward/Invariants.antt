use Rattle.std.proofs.Common.{◌≡◌, ◌+◌, ◌≤◌, ◌++◌, length}
use Rattle.knit_maker.specs.Made.{leftward}
use Rattle.knit_maker.proofs.course.push_leftward.Given as goal

abbrev pub invariant-loop-at : goal.invariant-loop-at
invariant-loop-at l = record {
  lines : l.lines ++ leftward l.stitch l.at ≡ l.fn.lines ++ leftward l.stitch l.width;
  count : length l.lines + l.at ≡ length l.fn.lines + l.width;
  within : l.at ≤ l.width;
}

abbrev pub decreases-loop-at : goal.decreases-loop-at
decreases-loop-at l = l.at
