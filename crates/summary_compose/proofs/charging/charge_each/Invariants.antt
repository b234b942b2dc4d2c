-- So far a step for each turn.
use Rattle.std.proofs.Common.{◌≡◌, ◌+◌, ◌≤◌}
use Rattle.summary_compose.proofs.charging.charge_each.Given as goal

abbrev pub invariant-loop : goal.invariant-loop
invariant-loop g l = (l.steps ≡ l.fn.steps + l.counter) × (l.counter ≤ l.items)
