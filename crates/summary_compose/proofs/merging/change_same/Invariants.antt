use Rattle.std.proofs.Common.{◌≡◌, ◌≤◌, drop, length}
use Rattle.face_data.specs.Composition.{changes_merged}
use Rattle.face_data.specs.Through.{changes_through}
use Rattle.summary_compose.specs.Changes.{changes_in}
use Rattle.summary_compose.proofs.merging.change_same.Given as goal

abbrev pub invariant-loop-i : goal.invariant-loop-i
invariant-loop-i l = record {
  same : changes_merged (drop l.i (changes_in l.a)) (drop l.i (changes_through (changes_in l.a) l.a.lines (changes_in l.b))) ≡ drop l.i (changes_through (changes_in l.a) l.a.lines (changes_in l.b));
  within : l.i ≤ length l.a.changes.now;
}

abbrev pub decreases-loop-i : goal.decreases-loop-i
decreases-loop-i l = l.i
