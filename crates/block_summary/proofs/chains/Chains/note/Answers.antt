-- One link more.
use Rattle.std.proofs.Common.{arith}
use Rattle.std.proofs.lemmas.Grind.{common_steps}
use Rattle.block_summary.proofs.ChainWalks.{links_more}
use Rattle.block_summary.proofs.chains.Chains.note.Goals as goal

pub invariant_of-self : goal.invariant_of-self
invariant_of-self c =
    links_more c.self.inside.lasts.places c.set.new.self.places c.self.inside.links.items c.push_reserved.new.self.items
    (record { chain = c.chain_of-chain.result; cond = c.args.cond; next = c.get-next.result }) c.len-place.result (grind (arith, common_steps)) c.push_reserved.ensures.items
    c.chain_of-chain.ensures.within c.get-next.ensures c.set.ensures.here c.set.ensures.elsewhere c.self.invariant
