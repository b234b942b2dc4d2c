use Rattle.std.proofs.Common.{◌≡◌, ◌≤◌, ℕ, length, None}
use Rattle.std.specs.List.{sum_by}
use Rattle.std.specs.Prelude.{slice_index_or}
use Rattle.summary_tree.specs.declared.faces.FaceList.{FaceList}
use Rattle.summary_tree.specs.Faces.{spans_at}
use Rattle.summary_tree.proofs.faces.lengthen_entries.Given as goal

abbrev pub invariant-loop-i : goal.invariant-loop-i
invariant-loop-i l = record {
  more : length l.initial.entries.items ≤ length l.entries.items;
  count : l._i ≤ length l.entries.items;
  same : (at : ℕ) → slice_index_or l.entries.items at None ≡ slice_index_or l.initial.entries.items at None;
  spans : (list : FaceList) (class : ℕ) → sum_by (spans_at list class) l.entries.items ≡ sum_by (spans_at list class) l.initial.entries.items;
}
