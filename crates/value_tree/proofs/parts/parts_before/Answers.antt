use Rattle.std.proofs.Common.{arith}
use Rattle.value_tree.proofs.TreeParts.{few_parts}
use Rattle.value_tree.proofs.parts.parts_before.Goals as goal

pub returns-clause-few : goal.returns-clause-few
returns-clause-few c = few_parts c.args.shape.now.tree _ _ c.loop-i.parting c.loop-i.parts.items c.len-len.ensures.lawful.balanced c.loop-i.invariant (omega (arith, c.loop-i.auto._i-end))
