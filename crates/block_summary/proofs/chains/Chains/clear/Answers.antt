use Rattle.block_summary.proofs.ChainWalks.{no_links}
use Rattle.block_summary.proofs.chains.Chains.clear.Goals as goal

pub invariant_of-self : goal.invariant_of-self
invariant_of-self c = no_links c.self.inside.lasts.places c.clear.new.self.items c.clear.ensures.items
