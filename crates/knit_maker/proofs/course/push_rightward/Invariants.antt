use Rattle.std.proofs.Common.{◌≡◌, ◌+◌, ◌++◌, length, map}
use Rattle.std.specs.List.{range_with_len}
use Rattle.knit_base.specs.declared.needle.Bed.TheVariants.{Back}
use Rattle.knit_base.specs.declared.needle.Dir.TheVariants.{Right}
use Rattle.knit_maker.specs.Made.{stitch_line}
use Rattle.knit_maker.proofs.course.push_rightward.Given as goal

abbrev pub invariant-loop-i : goal.invariant-loop-i
invariant-loop-i l = record {
  lines : l.lines ≡ l.fn.lines ++ map (stitch_line l.stitch Right Back) (range_with_len 1 l.i);
  count : length l.lines ≡ length l.fn.lines + l.i;
}
