use Rattle.std.proofs.Common.{◌*◌, ◌≤◌}
use Rattle.summary_tree.specs.Leaves.{leaf_line_count}
use Rattle.tree_examples.proofs.summary_tests.walked.Given as goal

abbrev pub invariant-loop-i : goal.invariant-loop-i
invariant-loop-i g l = leaf_line_count l.tree.leaves ≤ 5 * l._i
