use Rattle.std.proofs.Common.{arith, ap}
use Rattle.tree_shape.specs.Values.{leaf_values}
use Rattle.tree_examples.specs.Sums.{sum_at, sum_of}
use Rattle.tree_examples.proofs.Sums.{sum-replaced, sum-reserved}
use Rattle.tree_examples.proofs.value_tests.put.Goals as goal

pub replace-requires-clause-sound : goal.replace-requires-clause-sound
replace-requires-clause-sound g c =
    let kept = sum-reserved c.args.tree.now.store.leaves.items c.reserve.new.self.store.leaves.items c.args.tree.now.shape c.reserve.new.self.shape c.reserve.ensures.leaves (ap (λ s. s.tree) c.reserve.ensures.shape) in
    omega (arith, kept, sum-replaced c.args.at c.args.count (leaf_values (sum_at c.reserve.new.self.store.leaves.items) c.reserve.new.self.shape.tree), c.requires.few)

pub returns-in_ok-reserve-clause-sum : goal.returns-in_ok-reserve-clause-sum
returns-in_ok-reserve-clause-sum g c =
    let kept = sum-reserved c.args.tree.now.store.leaves.items c.reserve.new.self.store.leaves.items c.args.tree.now.shape c.reserve.new.self.shape c.reserve.ensures.leaves (ap (λ s. s.tree) c.reserve.ensures.shape) in
    omega (arith, kept, ap sum_of c.replace.ensures.leaves, sum-replaced c.args.at c.args.count (leaf_values (sum_at c.reserve.new.self.store.leaves.items) c.reserve.new.self.shape.tree))
