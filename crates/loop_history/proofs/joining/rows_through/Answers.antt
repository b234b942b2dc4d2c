use Rattle.std.proofs.Common.{map}
use Rattle.face_data.specs.View.{changed_of}
use Rattle.loop_history.specs.Rows.{row_through}
use Rattle.loop_history.proofs.RowLists.{mapped-more}
use Rattle.loop_history.proofs.joining.rows_through.Goals as goal

pub loop-i-preserved : goal.loop-i-preserved
loop-i-preserved c =
    mapped-more (row_through (map (changed_of c.args.first.now.segs.now) c.args.first.now.changes.now) c.args.first.now.lines) c.args.rows.now c.loop-i.more _ c.loop-i.i c.get.result.now _
    c.loop-i.invariant c.get.ensures c.in_ok-one_through.ensures c.in_ok-push.ensures.ok
