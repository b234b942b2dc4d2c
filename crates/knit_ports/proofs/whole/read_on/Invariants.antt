use Rattle.knit_ports.proofs.Progress.{ReadSoFar}
use Rattle.std.proofs.Common.{◌+◌, ◌-◌, vec_len}
use Rattle.knit_ports.proofs.whole.read_on.Given as goal

abbrev pub invariant-reading : goal.invariant-reading
invariant-reading g l = ReadSoFar (g.S.Source.left l.fn.source) (g.S.Source.left l.source) (g.S.Source.faults l.fn.source) (g.S.Source.faults l.source) l.fn.bytes.items l.bytes.items (vec_len l.bytes) (vec_len l.piece) l.limit

abbrev pub decreases-reading : goal.decreases-reading
decreases-reading g l = l.limit + 1 - vec_len l.bytes
