use Rattle.block_summary.proofs.LineSteps.{SizesAsked}
use Rattle.block_summary.proofs.draft.Draft.ask_sizes.Given as goal

abbrev pub invariant-loop-ask : goal.invariant-loop-ask
invariant-loop-ask l = SizesAsked l.initial.self l.self l.asks l.ask-index
