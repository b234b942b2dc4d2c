use Rattle.std.proofs.Common.{◌≡◌, ◌+◌}
use Rattle.loop_history.proofs.Search.{Probing}
use Rattle.loop_history.proofs.table.LoopTable.find.Given as goal

abbrev pub invariant-loop-probe : goal.invariant-loop-probe
invariant-loop-probe g l = record {
  probing : Probing l.self l.offset l.low l.high l._probe;
  counted : l.steps ≡ l.initial.steps + l._probe;
}
