use Rattle.std.proofs.Common.{◌-◌, ◌≤◌, length, take, drop}
use Rattle.face_data.specs.Places.{AllBefore, AllBehind}
use Rattle.face_data.proofs.symbols.search.Given as goal

abbrev pub decreases-loop-low : goal.decreases-loop-low
decreases-loop-low l = l.high - l.low

abbrev pub invariant-loop-low : goal.invariant-loop-low
invariant-loop-low l = record {
  ordered : l.low ≤ l.high;
  within : l.high ≤ length l.held;
  before : AllBefore l.n (take l.low l.held);
  behind : AllBehind l.n (drop l.high l.held);
}
