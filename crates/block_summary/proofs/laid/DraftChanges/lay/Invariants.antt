use Rattle.std.proofs.Common.{◌≡◌, take}
use Rattle.block_summary.proofs.laid.DraftChanges.lay.Given as goal

abbrev pub invariant-loop-held : goal.invariant-loop-held
invariant-loop-held l = l.self ≡ take l.held-index l.held-items
