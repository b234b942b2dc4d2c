use Rattle.std.proofs.Common.{◌≡◌, ℕ, ◌<◌, ◌≤◌}
use Rattle.std.specs.Prelude.{count_by}
use Rattle.summary_tree.specs.Faces.{spare_in, length_in, KeepsSpares}
use Rattle.summary_tree.specs.Meeting.{reaches}
use Rattle.summary_tree.proofs.store.reserve_list.Given as goal

abbrev pub invariant-loop-class : goal.invariant-loop-class
invariant-loop-class l = record {
  enough : (k : ℕ) → k < l.class → count_by (λ r. reaches k (length_in l.list r)) l.need ≤ spare_in l.faces l.list k;
  faces : l.faces.faces ≡ l.initial.faces.faces;
  spares : KeepsSpares l.initial.faces l.faces;
}
