use Rattle.std.proofs.Common.{◌≡◌, ◌++◌, ◌+◌, ◌-◌, drop, length}
use Rattle.face_data.specs.Composition.{changes_merged}
use Rattle.face_data.specs.Through.{changes_through}
use Rattle.summary_compose.specs.Changes.{changes_in, merged_of}
use Rattle.summary_compose.proofs.merging.lay_others.Given as goal

abbrev pub invariant-loop-i : goal.invariant-loop-i
invariant-loop-i l = record {
  whole : l.laid.changes ++ changes_merged (drop l.i (changes_in l.a)) (drop l.j (changes_through (changes_in l.a) l.a.lines (changes_in l.b))) ≡ merged_of l.a l.b;
  change_room : l.laid.change_room ≡ l.initial.laid.change_room;
  seg_room : l.laid.seg_room ≡ l.initial.laid.seg_room;
}

abbrev pub decreases-loop-i : goal.decreases-loop-i
decreases-loop-i l = (length l.a.changes.now - l.i) + (length l.b.changes.now - l.j)
