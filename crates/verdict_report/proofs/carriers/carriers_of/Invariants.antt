use Rattle.std.proofs.Common.{◌≡◌}
use Rattle.verdict_report.specs.Carriers.{carriers_of_set}
use Rattle.verdict_report.proofs.carriers.carriers_of.Given as goal

abbrev pub invariant-carriers : goal.invariant-carriers
invariant-carriers l = l.carriers ≡ carriers_of_set l.number l.set
