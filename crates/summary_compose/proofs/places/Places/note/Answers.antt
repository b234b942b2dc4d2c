-- One change more.
use Rattle.summary_compose.proofs.SegmentPlaces.{tells_more, tells_all}
use Rattle.summary_compose.proofs.places.Places.note.Goals as goal

pub loop-place-preserved : goal.loop-place-preserved
loop-place-preserved c = record {
  table = tells_more c.loop-place.self.table.entries.items c.set.new.self.entries.items c.args.changes.now c.loop-place.place _ c.loop-place-test.true c.set.ensures.written c.loop-place.invariant.table;
  room = c.set.ensures.room;
}

pub returns-clause-table : goal.returns-clause-table
returns-clause-table c = tells_all c.loop-place.self.table.entries.items c.args.changes.now c.loop-place.place c.loop-place-test.false c.loop-place.invariant.table
