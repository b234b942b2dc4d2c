use Rattle.std.proofs.Common.{◌+◌, sym, arith}
use Rattle.knit_ports.proofs.MemoryReads.{copied-read}
use Rattle.knit_ports.proofs.calm.CalmSourceSource.read.Goals as goal

pub returns-clause-bytes : goal.returns-clause-bytes
returns-clause-bytes c =
    copied-read _ _ _ _ _ _ _ c.min-count.result (c.min-count.result + 1) c.deref.ensures.value (sym c.self.view_is) c.self.invariant (omega arith)
    c.copy_from_slice.ensures.after c.min-count.ensures (omega arith)
