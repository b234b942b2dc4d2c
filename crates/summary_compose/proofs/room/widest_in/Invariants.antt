use Rattle.std.proofs.Common.{◌≡◌, ◌≤◌, max, drop, map}
use Rattle.face_data.specs.View.{changed_of}
use Rattle.summary_compose.specs.Rooms.{widest_of}
use Rattle.summary_compose.proofs.room.widest_in.Given as goal

abbrev pub invariant-loop-change : goal.invariant-loop-change
invariant-loop-change l = record {
  some : 1 ≤ l.widest;
  rest : max l.widest (widest_of (map (changed_of l.segs) (drop l.change-index l.changes))) ≡ widest_of (map (changed_of l.segs) l.changes);
}
