use Rattle.std.proofs.Common.{◌≡◌, ◌+◌, ◌++◌, length, drop}
use Rattle.carrier_rules.specs.Carriers.{floats_of_each}
use Rattle.carrier_rules.proofs.conds.ask_near.Given as goal

abbrev pub invariant-loop-i : goal.invariant-loop-i
invariant-loop-i l = record {
  whole : l.conds ++ floats_of_each l.float l.number (l.at + l.i) (drop l.i l.c-items) ≡ l.initial.conds ++ floats_of_each l.float l.number l.at l.c-items;
  size : length l.conds ≡ length l.initial.conds + l.i;
}
