use Rattle.std.proofs.Common.{◌≡◌, ◌≤◌, ◌+◌, drop, length}
use Rattle.face_data.specs.Lasts.{lasts_of_both}
use Rattle.summary_compose.proofs.joining.put_lasts.Given as goal

abbrev pub invariant-loop-last : goal.invariant-loop-last
invariant-loop-last l = record {
  whole : lasts_of_both l.lasts.lasts (drop l.last-index l.last-items) ≡ lasts_of_both l.a.lasts.now l.last-items;
  few : length l.lasts.lasts + length (drop l.last-index l.last-items) ≤ l.lasts.room;
  room : l.fn.lasts.room ≤ l.lasts.room;
}
