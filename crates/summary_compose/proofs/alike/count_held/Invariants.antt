use Rattle.std.proofs.Common.{◌≡◌, [], take}
use Rattle.face_data.specs.Segments.{names_through, new_through}
use Rattle.summary_compose.specs.Changes.{changes_in}
use Rattle.summary_compose.proofs.alike.count_held.Given as goal

abbrev pub invariant-loop-n : goal.invariant-loop-n
invariant-loop-n l = record {
  entries : names_through (changes_in l.a) (take l.n-index l.needles) ≡ [];
  count : l.count ≡ new_through (changes_in l.a) (take l.n-index l.needles);
}
