use Rattle.std.proofs.Common.{arith}
use Rattle.tally_tree.specs.Merging.{few_merged}
use Rattle.tally_tree.proofs.tally.Tally.merge.Goals as goal

pub join-requires-clause-spare : goal.join-requires-clause-spare
join-requires-clause-spare g c = (_, c.in_ok-sum.ensures.spare, omega (arith, few_merged c.args.self.now.needles.items c.args.other.now.needles.items))
