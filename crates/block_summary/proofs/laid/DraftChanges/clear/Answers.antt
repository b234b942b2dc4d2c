use Rattle.block_summary.proofs.LaidChanges.{nothing_laid}
use Rattle.block_summary.proofs.laid.DraftChanges.clear.Goals as goal

pub invariant_of-self : goal.invariant_of-self
invariant_of-self c = nothing_laid c.clear-2.new.self.items c.clear.new.self.items c.clear-2.ensures.items c.clear.ensures.items
