use Rattle.std.proofs.Common.{◌≡◌, take}
use Rattle.face_data.specs.Segments.{read_segs}
use Rattle.loop_history.specs.Entries.{state_with_stacks}
use Rattle.loop_history.proofs.resolving.resolve.Given as goal

abbrev pub invariant-loop-seg : goal.invariant-loop-seg
invariant-loop-seg l = l.through ≡ read_segs (state_with_stacks l.entries) l.first (take l.seg-index l.seg-items)
