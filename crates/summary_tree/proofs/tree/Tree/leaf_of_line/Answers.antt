use Rattle.std.proofs.Common.{sym, ◌∙◌, arith}
use Rattle.tree_shape.specs.Values.{leaf_values}
use Rattle.value_tree.proofs.Offsets.{found_within}
use Rattle.summary_tree.specs.Leaves.{leaf_lines}
use Rattle.summary_tree.specs.Store.{leaf_in}
use Rattle.summary_tree.proofs.tree.Tree.leaf_of_line.Goals as goal

pub overflow_cast-result : goal.overflow_cast-result
overflow_cast-result c =
    let here = c.self.inside.whole in
    let low = found_within leaf_lines (leaf_values (leaf_in here.store.faces here.store.tables.items) here.shape.tree) c.from.result (c.in-Some.at, c.in-Some.within) (sym c.find.ensures ∙ c.in-Some.is) in
    omega (arith, low, c.from.ensures, c.ranges.offset.fits)
