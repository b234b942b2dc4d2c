use Rattle.std.proofs.Common.{◌≡◌, ◌+◌, ◌≤◌, length, take}
use Rattle.tally_tree.specs.Counting.{AreLinesCounted}
use Rattle.tally_tree.specs.Tallies.{counts_of_tally}
use Rattle.tally_tree.proofs.lines.count_lines.Given as goal

abbrev pub invariant-loop-at : goal.invariant-loop-at
invariant-loop-at g l = record {
  few : length l.setting.declared ≤ 64;
  steps : l.steps ≡ l.fn.steps + l.at;
  so_far : AreLinesCounted l.setting.profile l.setting.declared (take l.at l.text) (counts_of_tally l.tally);
}
