use Rattle.pass_grouping.specs.Passes.{GoesOneWay}
use Rattle.pass_grouping.proofs.pass.run_end.Given as goal

abbrev pub invariant-loop-last : goal.invariant-loop-last
invariant-loop-last l = GoesOneWay l.way l.ops l.from l.last
