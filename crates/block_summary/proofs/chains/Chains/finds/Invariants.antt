use Rattle.block_summary.proofs.ChainWalks.{Walks}
use Rattle.block_summary.proofs.chains.Chains.finds.Given as goal

abbrev pub invariant-loop-place : goal.invariant-loop-place
invariant-loop-place l = Walks l.self-inside.links.items l.chain l.names l.needles l.most l.limit l.place

abbrev pub decreases-loop-place : goal.decreases-loop-place
decreases-loop-place l = l.limit
