use Rattle.std.proofs.Common.{◌≡◌, ◌-◌, length}
use Rattle.summary_compose.specs.Known.{checks_in, notes_of}
use Rattle.summary_compose.proofs.Readings.{ReadsOn}
use Rattle.summary_compose.proofs.reading.read_checks.Given as goal

abbrev pub invariant-loop-i : goal.invariant-loop-i
invariant-loop-i l = record {
  reads : ReadsOn l.a l.b l.effect l.i l.kept.checks l.digest (notes_of (checks_in l.a));
  check_room : l.kept.check_room ≡ l.initial.kept.check_room;
  name_room : l.kept.name_room ≡ l.initial.kept.name_room;
}

abbrev pub decreases-loop-i : goal.decreases-loop-i
decreases-loop-i l = length l.b.checks.now - l.i

abbrev pub invariant-loop-i-2 : goal.invariant-loop-i-2
invariant-loop-i-2 l = record {
  reads : ReadsOn l.a l.b l.effect l.i l.kept.checks l.digest l.index.notes;
  check_room : l.kept.check_room ≡ l.fn.kept.check_room;
  name_room : l.kept.name_room ≡ l.fn.kept.name_room;
  index_room : l.index.room ≡ l.fn.index.room;
}

abbrev pub decreases-loop-i-2 : goal.decreases-loop-i-2
decreases-loop-i-2 l = length l.b.checks.now - l.i
