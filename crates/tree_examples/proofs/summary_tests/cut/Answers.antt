use Rattle.std.proofs.Common.{ap, arith}
use Rattle.summary_tree.specs.Leaves.{leaf_line_count}
use Rattle.summary_tree.proofs.SoundLeaves.{lines_removed}
use Rattle.tree_examples.proofs.summary_tests.cut.Goals as goal

pub returns-then-meets : goal.returns-then-meets
returns-then-meets g c = omega (arith, ap leaf_line_count c.remove.ensures.leaves, lines_removed c.args.at c.reserve.new.self.leaves, ap leaf_line_count c.reserve.ensures.same.leaves)
