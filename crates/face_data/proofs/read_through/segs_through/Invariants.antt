use Rattle.std.proofs.Common.{◌≡◌, map, take}
use Rattle.face_data.specs.Through.{through}
use Rattle.face_data.specs.View.{changed_of}
use Rattle.face_data.proofs.read_through.segs_through.Given as goal

abbrev pub invariant-loop-seg : goal.invariant-loop-seg
invariant-loop-seg l = l.before ≡ through (map (changed_of l.face.segs.now) l.face.changes.now) l.face.lines (take l.seg-index l.segs)
