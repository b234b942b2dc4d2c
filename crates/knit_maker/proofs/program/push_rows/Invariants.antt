use Rattle.std.proofs.Common.{◌≡◌, ◌+◌, ◌*◌, ◌-◌, ◌<◌, ◌≤◌, ◌++◌, length}
use Rattle.knit_maker.specs.Made.{rows_after}
use Rattle.knit_maker.proofs.program.push_rows.Given as goal

abbrev pub invariant-loop-row : goal.invariant-loop-row
invariant-loop-row l = record {
  lines : l.lines ++ rows_after l.width l.drawn (l.rows - l.row) ≡ l.fn.lines ++ rows_after l.width l.start l.rows;
  few : length l.lines ≤ length l.fn.lines + 33 * l.row;
  drawn : l.drawn < 2147483648;
}
