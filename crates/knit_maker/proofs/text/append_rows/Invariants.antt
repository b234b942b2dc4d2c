use Rattle.std.proofs.Common.{◌≡◌, ◌-◌, ◌<◌, ◌++◌}
use Rattle.knit_maker.specs.Made.{file_of, rows_after}
use Rattle.knit_maker.proofs.text.append_rows.Given as goal

abbrev pub invariant-loop-row : goal.invariant-loop-row
invariant-loop-row l = record {
  text : l.text.items ++ file_of (rows_after l.width l.drawn (l.rows - l.row)) ≡ l.fn.text.items ++ file_of (rows_after l.width l.start l.rows);
  drawn : l.drawn < 2147483648;
}
