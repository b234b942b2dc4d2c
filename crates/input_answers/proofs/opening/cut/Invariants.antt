use Rattle.std.proofs.Common.{◌-◌}
use Rattle.input_answers.specs.Openings.{IsCut}
use Rattle.input_answers.proofs.opening.cut.Given as goal

abbrev pub invariant-loop-start : goal.invariant-loop-start
invariant-loop-start l = IsCut l.size l.text l.from l.start l.texts.items

abbrev pub decreases-loop-start : goal.decreases-loop-start
decreases-loop-start l = l.count - l.start
