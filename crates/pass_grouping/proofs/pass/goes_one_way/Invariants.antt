use Rattle.pass_grouping.specs.Passes.{GoesOneWay}
use Rattle.pass_grouping.proofs.pass.goes_one_way.Given as goal

abbrev pub invariant-loop-i : goal.invariant-loop-i
invariant-loop-i l = GoesOneWay l.way l.ops l.from l.i
