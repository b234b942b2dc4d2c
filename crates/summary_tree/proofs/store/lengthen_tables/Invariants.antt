use Rattle.std.proofs.Common.{◌≡◌, ◌≤◌, ℕ, length, None}
use Rattle.std.specs.Prelude.{slice_index_or}
use Rattle.summary_tree.proofs.store.lengthen_tables.Given as goal

abbrev pub invariant-loop-i : goal.invariant-loop-i
invariant-loop-i l = record {
  more : length l.initial.tables.items ≤ length l.tables.items;
  count : l._i ≤ length l.tables.items;
  same : (k : ℕ) → slice_index_or l.tables.items k None ≡ slice_index_or l.initial.tables.items k None;
}
