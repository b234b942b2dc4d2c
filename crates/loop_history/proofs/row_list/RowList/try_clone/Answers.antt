use Rattle.loop_history.proofs.RowLists.{copied-more}
use Rattle.loop_history.proofs.row_list.RowList.try_clone.Goals as goal

pub loop-i-preserved : goal.loop-i-preserved
loop-i-preserved c = copied-more c.args.self.now c.loop-i.copy _ c.loop-i.i c.get.result.now _ c.loop-i.invariant c.get.ensures c.in_ok-try_clone.ensures c.in_ok-push.ensures.ok
