use Rattle.std.proofs.Common.{ap, sym}
use Rattle.knit_ports.proofs.MemoryReads.{copied-read}
use Rattle.knit_ports.proofs.memory_talk.MemoryTalkTalk.hear.Goals as goal

pub returns-in-Ok-clause-bytes : goal.returns-in-Ok-clause-bytes
returns-in-Ok-clause-bytes c =
    copied-read _ _ _ _ _ _ _ _ _ c.deref-2.ensures.value (ap (λ v. v.left) (sym c.self.view_is)) c.self.invariant.0 c.self.invariant.1
    c.copy_from_slice.ensures.after c.min.ensures c.min-count.ensures
