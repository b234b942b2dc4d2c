use Rattle.pass_grouping.proofs.Windows.{WindowsSoFar}
use Rattle.pass_grouping.proofs.certificate.are_windows.Given as goal

abbrev pub invariant-loop-window : goal.invariant-loop-window
invariant-loop-window l = WindowsSoFar l.ops l.windows l.window-index l.last
