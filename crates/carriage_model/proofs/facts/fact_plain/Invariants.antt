use Rattle.carriage_model.proofs.LoopOfLine.{Seeks}
use Rattle.carriage_model.proofs.facts.fact_plain.Given as goal

abbrev pub invariant-loop-i : goal.invariant-loop-i
invariant-loop-i l = Seeks l.profile l.read-items l.first l.i l.machine l.line
