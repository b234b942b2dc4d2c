use Rattle.std.proofs.Common.{◌≡◌, ◌+◌, ◌-◌, take}
use Rattle.face_data.specs.Segments.{names_through, new_through}
use Rattle.face_data.proofs.sizes.ask_size.Given as goal

abbrev pub invariant-loop-n : goal.invariant-loop-n
invariant-loop-n l = record {
  entries : l.entries ≡ names_through l.segments (take l.n-index l.needles);
  room : l.room ≡ (l.most + 1) - new_through l.segments (take l.n-index l.needles);
}
