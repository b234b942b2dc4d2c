use Rattle.knit_ports.proofs.SaidPieces.{SaidSoFar}
use Rattle.std.proofs.Common.{◌-◌, length}
use Rattle.knit_ports.proofs.talk.say_whole.Given as goal

abbrev pub invariant-saying : goal.invariant-saying
invariant-saying g l = SaidSoFar (g.T.Talk.told l.fn.talk) (g.T.Talk.told l.talk) (g.T.Talk.faults l.fn.talk) (g.T.Talk.faults l.talk) l.text l.done

abbrev pub decreases-saying : goal.decreases-saying
decreases-saying g l = length l.text - l.done
