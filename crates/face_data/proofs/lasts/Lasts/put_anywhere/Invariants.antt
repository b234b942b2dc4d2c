use Rattle.std.proofs.Common.{◌≡◌, ◌≤◌, ◌-◌, length}
use Rattle.face_data.specs.Lasts.{put_last}
use Rattle.face_data.proofs.LastLists.{put_from}
use Rattle.face_data.proofs.lasts.Lasts.put_anywhere.Given as goal

abbrev pub invariant-loop-i : goal.invariant-loop-i
invariant-loop-i l = record {
  within : l.i ≤ length l.self-inside.held.items;
  same : put_from l.i l.self-inside.held.items l.last ≡ put_last l.self-inside.held.items l.last;
}

abbrev pub decreases-loop-i : goal.decreases-loop-i
decreases-loop-i l = length l.self-inside.held.items - l.i
