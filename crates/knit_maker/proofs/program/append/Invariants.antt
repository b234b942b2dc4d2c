use Rattle.std.proofs.Common.{◌≡◌, ◌+◌, ◌++◌, length, take}
use Rattle.knit_maker.proofs.program.append.Given as goal

abbrev pub invariant-loop-i : goal.invariant-loop-i
invariant-loop-i l = record {
  lines : l.lines ≡ l.fn.lines ++ take l.i l.more;
  count : length l.lines ≡ length l.fn.lines + l.i;
}
