use Rattle.std.proofs.Common.{◌≡◌, length, map}
use Rattle.std.specs.List.{range_with_len}
use Rattle.knit_maker.specs.Made.{transfer_line}
use Rattle.knit_maker.proofs.course.transfers_of.Given as goal

abbrev pub invariant-loop-i : goal.invariant-loop-i
invariant-loop-i l = record {
  lines : l.lines ≡ map transfer_line (range_with_len 1 l.i);
  count : length l.lines ≡ l.i;
}
