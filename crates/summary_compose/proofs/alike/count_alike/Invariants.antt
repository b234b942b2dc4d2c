use Rattle.std.proofs.Common.{◌≡◌, ◌-◌, length, true}
use Rattle.summary_compose.specs.Changes.{changed_needles}
use Rattle.summary_compose.specs.Known.{AreImpliedChecks}
use Rattle.summary_compose.specs.Tables.{HasNeedlePlaces, IsTableOf}
use Rattle.summary_compose.proofs.alike.count_alike.Given as goal

abbrev pub invariant-loop-i : goal.invariant-loop-i
invariant-loop-i l = record {
  alike : AreImpliedChecks l.a l.b l.effect l.i;
  noted : l.noted ≡ true → IsTableOf l.places.table.entries.items (changed_needles l.a.changes.now);
  places : HasNeedlePlaces l.places;
}

abbrev pub decreases-loop-i : goal.decreases-loop-i
decreases-loop-i l = length l.b.checks.now - l.i
