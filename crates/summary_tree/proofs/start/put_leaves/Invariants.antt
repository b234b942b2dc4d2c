use Rattle.std.proofs.Common.{◌≡◌, ℕ, ◌<◌, ◌≤◌, length, drop}
use Rattle.std.specs.List.{slice_get}
use Rattle.summary_tree.specs.Store.{leaf_in, faces_place_count}
use Rattle.summary_tree.proofs.start.put_leaves.Given as goal

abbrev pub invariant-loop-face : goal.invariant-loop-face
invariant-loop-face l = record {
  rest : l.face-iterator.rest.items ≡ drop l.number l.fn.leaves.items;
  leaves : (n : ℕ) → n < l.number → leaf_in l.store.faces l.store.tables.items n ≡ slice_get l.fn.leaves.items n;
  places : length l.fn.leaves.items ≤ faces_place_count l.store.faces l.store.tables.items;
}
