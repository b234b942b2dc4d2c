use Rattle.tree_shape.specs.Values.{part}
use Rattle.tally_tree.specs.Leaves.{tally_at}
use Rattle.tally_tree.specs.Tallies.{counts_of_tally}
use Rattle.tally_tree.proofs.PartSums.{HasSummed}
use Rattle.tally_tree.proofs.range.sum_of.Given as goal

abbrev pub invariant-loop-part : goal.invariant-loop-part
invariant-loop-part g l = HasSummed l.carriers (part (tally_at l.store.leaves.items) (tally_at l.store.nodes.items)) l.parts l.part-index (counts_of_tally l.sum) l.initial.steps l.steps
