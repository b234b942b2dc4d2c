use Rattle.std.proofs.Common.{◌≡◌}
use Rattle.opening_reader.proofs.HeardSoFar.{SoFar}
use Rattle.opening_reader.proofs.hearing.hear_opening.Given as goal

abbrev pub invariant-hearing : goal.invariant-hearing
invariant-hearing g l = record {
  calm : g.T.Talk.faults l.talk ≡ g.T.Talk.faults l.fn.talk;
  so_far : SoFar (g.T.Talk.told l.fn.talk) (g.T.Talk.told l.talk) l.ear.pending l.text l.front l.i;
}
