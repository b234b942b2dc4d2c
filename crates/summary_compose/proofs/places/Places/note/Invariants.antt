use Rattle.std.proofs.Common.{take}
use Rattle.summary_compose.specs.Changes.{changed_needles}
use Rattle.summary_compose.specs.Tables.{HasNeedlePlaces, IsTableOf}
use Rattle.summary_compose.proofs.places.Places.note.Given as goal

abbrev pub invariant-loop-place : goal.invariant-loop-place
invariant-loop-place l = record {
  table : IsTableOf l.self.table.entries.items (changed_needles (take l.place l.changes));
  room : HasNeedlePlaces l.self;
}
