-- What the chain of the first needle says.
use Rattle.block_summary.proofs.FoundConditions.{implied_as_found, links_fit}
use Rattle.block_summary.proofs.kept.KeptLineConditions.implies.Goals as goal

pub finds-requires-clause-fit : goal.finds-requires-clause-fit
finds-requires-clause-fit c =
    let inside = c.self.inside in
    links_fit inside.names.items c.deref.result.now inside.checks.items inside.chains.links c.deref.ensures.value (c.self.invariant).0.fit (c.self.invariant).1

pub returns-in-len1-up : goal.returns-in-len1-up
returns-in-len1-up c =
    let inside = c.self.inside in
    implied_as_found inside.names.items c.deref.result.now inside.checks.items inside.chains.links c.args.self.now c.args.needles.now _ c.args.most c.chain_of.result c.finds.result
    c.deref.ensures.value c.self.view_is c.in-len1-up.len_at_least c.chain_of.ensures.chain c.finds.ensures.yes c.finds.ensures.none (c.self.invariant).1
