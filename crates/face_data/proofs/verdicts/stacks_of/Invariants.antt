use Rattle.std.proofs.Common.{◌≡◌, map, take}
use Rattle.face_data.specs.Verdicts.{stacks_left}
use Rattle.face_data.specs.View.{changed_of}
use Rattle.face_data.proofs.verdicts.stacks_of.Given as goal

abbrev pub invariant-loop-change : goal.invariant-loop-change
invariant-loop-change l = l.stacks ≡ stacks_left l.first (map (changed_of l.face.segs.now) (take l.change-index l.change-items))
