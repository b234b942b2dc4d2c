use Rattle.block_summary.proofs.DraftSteps.{nothing_known}
use Rattle.block_summary.proofs.draft.Draft.clear.Goals as goal

pub invariant_of-self : goal.invariant_of-self
invariant_of-self c = nothing_known c.clear.new.self _ _ c.clear-2.new.self c.none_bare-self-inside.result c.clear-2.ensures c.none_bare-self-inside.ensures
