use Rattle.std.proofs.Common.{◌≡◌}
use Rattle.talk_loop.proofs.Loop.{SoFar}
use Rattle.talk_loop.proofs.conversation.converse.Given as goal

abbrev pub invariant-lines : goal.invariant-lines
invariant-lines g l = record {
  same : g.D.Desk.opening l.desk ≡ g.D.Desk.opening l.fn.desk;
  calm : g.T.Talk.faults l.talk ≡ g.T.Talk.faults l.fn.talk;
  so_far : SoFar (g.D.Desk.asking (g.D.Desk.opening l.fn.desk)) (g.D.Desk.ends (g.D.Desk.opening l.fn.desk)) (g.D.Desk.behind l.desk) (g.T.Talk.told l.fn.talk) l.fn.ear.pending (g.T.Talk.told l.talk) l.ear.pending l.number;
}
