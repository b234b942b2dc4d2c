use Rattle.std.proofs.Common.{arith, ap}
use Rattle.tree_shape.specs.Values.{leaf_values}
use Rattle.tree_examples.specs.Sums.{sum_at, sum_of}
use Rattle.tree_examples.proofs.Sums.{sum-removed}
use Rattle.tree_examples.proofs.value_tests.cut.Goals as goal

pub remove-requires-clause-sound : goal.remove-requires-clause-sound
remove-requires-clause-sound g c =
    omega (arith, sum-removed c.args.at (leaf_values (sum_at c.args.tree.now.store.leaves.items) c.args.tree.now.shape.tree), c.requires.kept.sound_leaves)

pub returns-then-meets-clause-sum : goal.returns-then-meets-clause-sum
returns-then-meets-clause-sum g c =
    omega (arith, sum-removed c.args.at (leaf_values (sum_at c.args.tree.now.store.leaves.items) c.args.tree.now.shape.tree), ap sum_of c.remove.ensures.leaves)
