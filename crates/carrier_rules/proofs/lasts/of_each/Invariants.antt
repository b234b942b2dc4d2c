use Rattle.std.proofs.Common.{◌≡◌, ◌++◌, drop, map}
use Rattle.carrier_rules.specs.Carriers.{carrier_last}
use Rattle.carrier_rules.proofs.lasts.of_each.Given as goal

abbrev pub invariant-loop-c : goal.invariant-loop-c
invariant-loop-c l = l.lasts ++ map (carrier_last l.at) (drop l.c-index l.c-items) ≡ map (carrier_last l.at) l.c-items
