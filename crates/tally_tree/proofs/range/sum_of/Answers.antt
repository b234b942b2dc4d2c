use Rattle.std.proofs.Common.{◌*◌, arith}
use Rattle.std.proofs.Math.Nat.{mul-le-mul_right}
use Rattle.tree_shape.specs.declared.node.Child.TheVariants.{Leaf}
use Rattle.tally_tree.specs.Tallies.{cost}
use Rattle.tally_tree.proofs.PartSums.{summed_all, summed_carriers, summed_fits, summed_more, summed_none, summed_there, summed_within}
use Rattle.tally_tree.proofs.range.sum_of.Goals as goal

pub loop-part-init : goal.loop-part-init
loop-part-init g c = summed_none _ _ _ _ _ c.in_ok-sum.ensures

pub unreachable-requires : goal.unreachable-requires
unreachable-requires g c =
    let s = c.requires.stand in
    summed_there _ _ _ _ _ _ _ c.loop-part.invariant (Leaf 0) c.loop-part-test.true c.in_default.ensures s.0 s.1 s.2 s.3

pub merge-requires-clause-fit : goal.merge-requires-clause-fit
merge-requires-clause-fit g c =
    let s = c.requires.stand in
    summed_fits _ _ _ _ _ _ _ c.loop-part.invariant (Leaf 0) _ c.loop-part-test.true c.in-Some.ensures s.0 s.1 s.2 s.3 s.4

pub merge-requires-clause-few : goal.merge-requires-clause-few
merge-requires-clause-few g c =
    let s = c.requires.stand in
    omega (arith, c.requires.few, summed_carriers _ _ _ _ _ _ _ c.loop-part.invariant (Leaf 0) _ c.loop-part-test.true c.in-Some.ensures s.0 s.1 s.2 s.3)

pub returns-in_err-sum-2-clause-steps : goal.returns-in_err-sum-2-clause-steps
returns-in_err-sum-2-clause-steps g c = summed_within _ _ _ _ _ _ _ c.loop-part.invariant (Leaf 0) _ c.loop-part-test.true c.in-Some.ensures _ c.merge.ensures.steps

pub loop-part-preserved : goal.loop-part-preserved
loop-part-preserved g c = summed_more _ _ _ _ _ _ _ c.loop-part.invariant (Leaf 0) _ c.loop-part-test.true c.in-Some.ensures _ c.merge.ensures.steps _ c.in_ok-sum-2.ensures.sum

pub returns-clause-tally : goal.returns-clause-tally
returns-clause-tally g c = summed_all _ _ _ _ _ _ _ c.loop-part.invariant c.loop-part-test.false

pub returns-clause-steps : goal.returns-clause-steps
returns-clause-steps g c leaves texts w stand tallies t =
    let few = c.loop-part.invariant.few leaves texts w stand tallies t in
    let most = mul-le-mul_right (2 * cost w) c.loop-part.auto.part-index-end in
    omega (arith, few, most)
