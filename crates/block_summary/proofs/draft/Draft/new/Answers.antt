use Rattle.block_summary.proofs.DraftSteps.{nothing_known}
use Rattle.block_summary.proofs.draft.Draft.new.Goals as goal

pub invariant_of-result : goal.invariant_of-result
invariant_of-result c = nothing_known c.new.result _ _ c.new-2.result c.none_bare.result c.new-2.ensures c.none_bare.ensures
