use Rattle.std.proofs.Common.{◌-◌, length}
use Rattle.file_run.proofs.BodySteps.{HasTakenTo}
use Rattle.file_run.proofs.body_run.BodyRun.take_behind.Given as goal

abbrev pub invariant-running : goal.invariant-running
invariant-running g l = HasTakenTo _ g.T.Taker.has l.head l.text l.before l.count l.start l.fn.self l.self

abbrev pub decreases-running : goal.decreases-running
decreases-running g l = length l.text - l.start
