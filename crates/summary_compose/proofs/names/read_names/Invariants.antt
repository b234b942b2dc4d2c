use Rattle.std.proofs.Common.{◌≡◌, ◌++◌, vec_capacity, take}
use Rattle.face_data.specs.Segments.{names_through, new_through}
use Rattle.summary_compose.specs.Changes.{changes_in}
use Rattle.summary_compose.proofs.names.read_names.Given as goal

abbrev pub invariant-loop-n : goal.invariant-loop-n
invariant-loop-n l = record {
  items : l.names.items ≡ l.initial.names.items ++ names_through (changes_in l.a) (take l.n-index l.more);
  count : l.count ≡ new_through (changes_in l.a) (take l.n-index l.more);
  capacity : vec_capacity l.names ≡ vec_capacity l.initial.names;
}
