use Rattle.std.proofs.Common.{◌≡◌, map, take}
use Rattle.face_data.specs.View.{changed_of}
use Rattle.loop_history.specs.Rows.{row_through}
use Rattle.loop_history.proofs.joining.rows_through.Given as goal

abbrev pub invariant-loop-i : goal.invariant-loop-i
invariant-loop-i l = l.more ≡ map (row_through (map (changed_of l.first.segs.now) l.first.changes.now) l.first.lines) (take l.i l.rows)
