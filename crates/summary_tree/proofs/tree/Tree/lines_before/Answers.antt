use Rattle.std.proofs.Common.{take, ◌∙◌, ap, arith}
use Rattle.tree_shape.specs.Values.{leaf_values}
use Rattle.value_tree.proofs.Descents.{total_some}
use Rattle.summary_tree.specs.Leaves.{leaf_lines, leaf_line_count}
use Rattle.summary_tree.specs.Store.{leaf_in}
use Rattle.summary_tree.specs.Trees.{TreeView}
use Rattle.summary_tree.proofs.Layouts.{count_is, total_lines}
use Rattle.summary_tree.proofs.tree.Tree.lines_before.Goals as goal

pub count_before-requires-clause-place : goal.count_before-requires-clause-place
count_before-requires-clause-place c =
    let here = c.self.inside.whole in
    omega (arith, c.requires, count_is here.shape here.store.faces here.store.tables.items here.store.scratch.room c.args.self.now c.self.view_is c.self.invariant)

pub overflow_cast-result : goal.overflow_cast-result
overflow_cast-result c =
    let here = c.self.inside.whole in
    let all = leaf_values (leaf_in here.store.faces here.store.tables.items) here.shape.tree in
    omega (arith, c.count_before.ensures, total_some leaf_lines all c.args.at, total_lines all, c.self.invariant.sound_leaves.few_lines)

pub returns : goal.returns
returns c =
    let here = c.self.inside.whole in
    let all = leaf_values (leaf_in here.store.faces here.store.tables.items) here.shape.tree in
    c.count_before.ensures ∙ (total_lines (take c.args.at all) ∙ ap (λ (v : TreeView). leaf_line_count (take c.args.at v.leaves)) c.self.view_is)
