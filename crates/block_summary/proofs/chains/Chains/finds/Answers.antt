-- The walk back over the links of the chain.
use Rattle.std.proofs.Common.{sym, subst, arith}
use Rattle.std.specs.List.{Contains}
use Rattle.std.proofs.lemmas.Grind.{common_steps}
use Rattle.block_summary.specs.NeedleChains.{ChainsView}
use Rattle.block_summary.proofs.ChainWalks.{walk_begins, walk_on}
use Rattle.block_summary.proofs.chains.Chains.finds.Goals as goal

pub loop-place-init : goal.loop-place-init
loop-place-init c =
    walk_begins c.self.inside.lasts.places c.self.inside.links.items c.args.chain c.args.names.now c.args.needles.now c.args.most c.len-limit.result c.get-place.result
    (grind (arith, common_steps)) c.get-place.ensures c.requires.chain (c.self.invariant).0

pub implies_size-requires : goal.implies_size-requires
implies_size-requires c =
    c.requires.fit c.index-link.result.now
    (subst (λ (v : ChainsView). Contains v.links c.index-link.result.now) c.self.view_is (c.loop-place.place, omega (arith, c.loop-place.invariant.within, c.loop-place-test.true), sym c.index-link.ensures))

pub loop-place-preserved : goal.loop-place-preserved
loop-place-preserved c =
    walk_on c.self.inside.links.items c.args.chain c.args.names.now c.args.needles.now c.args.most c.loop-place.limit c.loop-place.place c.index-link.result.now c.implies_size.result
    c.loop-place.invariant (c.self.invariant).1 c.loop-place-test.true c.index-link.ensures (grind (arith, common_steps)) c.implies_size.ensures c.if-implies_size.false
