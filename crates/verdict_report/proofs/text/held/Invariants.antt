use Rattle.std.proofs.Common.{◌≡◌, ◌≤◌, ◌*◌, take}
use Rattle.carriage_model.specs.Verdict.{held_on}
use Rattle.verdict_report.proofs.text.held.Given as goal

abbrev pub invariant-stacks : goal.invariant-stacks
invariant-stacks l = record {
  sum : l.held ≡ held_on (take l.stack-index l.stacks);
  small : l.held ≤ l.stack-index * 4294967295;
}
