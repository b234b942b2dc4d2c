use Rattle.std.proofs.Common.{arith, ap}
use Rattle.tree_shape.specs.Values.{leaf_values}
use Rattle.tree_examples.specs.Sums.{sum_at, sum_of}
use Rattle.tree_examples.proofs.Sums.{sum-inserted, sum-reserved}
use Rattle.tree_examples.proofs.value_tests.add.Goals as goal

pub insert-requires-clause-sound : goal.insert-requires-clause-sound
insert-requires-clause-sound g c =
    let kept = sum-reserved c.args.tree.now.store.leaves.items c.reserve_insert.new.self.store.leaves.items c.args.tree.now.shape c.reserve_insert.new.self.shape c.reserve_insert.ensures.leaves c.reserve_insert.ensures.shape.tree in
    omega (arith, kept, sum-inserted c.args.at c.args.count (leaf_values (sum_at c.reserve_insert.new.self.store.leaves.items) c.reserve_insert.new.self.shape.tree), c.requires.few)

pub returns-clause-sum : goal.returns-clause-sum
returns-clause-sum g c =
    let kept = sum-reserved c.args.tree.now.store.leaves.items c.reserve_insert.new.self.store.leaves.items c.args.tree.now.shape c.reserve_insert.new.self.shape c.reserve_insert.ensures.leaves c.reserve_insert.ensures.shape.tree in
    omega (arith, kept, ap sum_of c.insert.ensures.leaves, sum-inserted c.args.at c.args.count (leaf_values (sum_at c.reserve_insert.new.self.store.leaves.items) c.reserve_insert.new.self.shape.tree))
