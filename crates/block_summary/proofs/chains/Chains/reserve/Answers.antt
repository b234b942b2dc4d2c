-- The links stay.
use Rattle.block_summary.proofs.ChainWalks.{links_same}
use Rattle.block_summary.proofs.chains.Chains.reserve.Goals as goal

pub invariant_of-self : goal.invariant_of-self
invariant_of-self c = links_same c.self.inside.lasts.places c.self.inside.links.items c.reserve.new.self.items c.reserve.ensures.items c.self.invariant

pub invariant_of-self-2 : goal.invariant_of-self-2
invariant_of-self-2 c = links_same c.self.inside.lasts.places c.self.inside.links.items c.reserve.new.self.items c.reserve.ensures.items c.self.invariant
