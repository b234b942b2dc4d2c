use Rattle.std.proofs.Common.{length}
use Rattle.edit_groups.proofs.run.+fn-run-join_mut+arg2+fn-run-join_mut+arg3+run.Given as goal

abbrev pub decreases-join_mut+arg2 : goal.decreases-join_mut+arg2
decreases-join_mut+arg2 g l = length l.others.now

abbrev pub decreases-join_mut+arg3 : goal.decreases-join_mut+arg3
decreases-join_mut+arg3 g l = length l.own.now

abbrev pub decreases-run : goal.decreases-run
decreases-run g l = length l.scripts.now
