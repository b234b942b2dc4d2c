use Rattle.std.proofs.Common.{◌≡◌, ◌-◌, ◌++◌, take}
use Rattle.face_data.specs.Segments.{entry_needles_of, new_of}
use Rattle.face_data.proofs.sizes.add_segs.Given as goal

abbrev pub invariant-loop-seg : goal.invariant-loop-seg
invariant-loop-seg l = record {
  entries : l.entries ≡ l.initial.entries ++ entry_needles_of (take l.seg-index l.segs);
  left : l.left ≡ l.room - new_of (take l.seg-index l.segs);
}
