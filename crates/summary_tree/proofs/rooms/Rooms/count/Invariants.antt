use Rattle.std.proofs.Common.{◌≡◌, ◌≤◌, take}
use Rattle.std.specs.Prelude.{count_by}
use Rattle.summary_tree.specs.Faces.{length_in}
use Rattle.summary_tree.specs.Meeting.{reaches}
use Rattle.summary_tree.proofs.rooms.Rooms.count.Given as goal

abbrev pub invariant-loop-room : goal.invariant-loop-room
invariant-loop-room l = record {
  count : l.many ≡ count_by (λ r. reaches l.class (length_in l.list r)) (take l.room-index l.room-items);
  few : l.many ≤ l.room-index;
}
