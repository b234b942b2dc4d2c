use Rattle.std.proofs.Common.{◌-◌, ◌≤◌, length, take, drop, map}
use Rattle.face_data.specs.Places.{AllBefore, AllBehind}
use Rattle.face_data.specs.View.{changed_of}
use Rattle.face_data.proofs.read_through.segs_on.Given as goal

abbrev pub decreases-loop-low : goal.decreases-loop-low
decreases-loop-low l = l.high - l.low

abbrev pub invariant-loop-low : goal.invariant-loop-low
invariant-loop-low l = record {
  ordered : l.low ≤ l.high;
  within : l.high ≤ length l.face.changes.now;
  before : AllBefore l.n (take l.low (map (changed_of l.face.segs.now) l.face.changes.now));
  behind : AllBehind l.n (drop l.high (map (changed_of l.face.segs.now) l.face.changes.now));
}
