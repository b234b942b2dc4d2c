use Rattle.knit_ports.proofs.HeardLines.{HearingSoFar}
use Rattle.knit_ports.proofs.ear.Ear.hear.Given as goal

abbrev pub invariant-hearing : goal.invariant-hearing
invariant-hearing g l = HearingSoFar (g.T.Talk.told l.fn.talk) (g.T.Talk.told l.talk) l.fn.self l.self (g.T.Talk.faults l.fn.talk) (g.T.Talk.faults l.talk) l.i
