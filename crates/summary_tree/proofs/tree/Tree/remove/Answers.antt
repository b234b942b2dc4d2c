use Rattle.std.proofs.Common.{◌+◌, ◌≤◌, length, sym, ◌∙◌, ap, subst, arith}
use Rattle.face_data.specs.Items.{most_items}
use Rattle.tree_shape.specs.Fewest.{list_removed}
use Rattle.tree_shape.specs.Values.{leaf_values}
use Rattle.tree_shape.specs.View.{leaf_count_of, rows_without}
use Rattle.summary_tree.specs.Laws.{items_law}
use Rattle.summary_tree.specs.Leaves.{AreGoodFor}
use Rattle.summary_tree.specs.Store.{leaf_in}
use Rattle.summary_tree.specs.Trees.{TreeView, change_steps}
use Rattle.summary_tree.proofs.Layouts.{count_is, steps_within}
use Rattle.summary_tree.proofs.SoundLeaves.{together_removed}
use Rattle.summary_tree.proofs.tree.Tree.remove.Goals as goal

pub remove-requires-clause-place : goal.remove-requires-clause-place
remove-requires-clause-place g c =
    let here = c.self.inside.whole in
    omega (arith, c.requires.place, count_is here.shape here.store.faces here.store.tables.items here.store.scratch.room c.args.self.now c.self.view_is c.self.invariant)

pub remove-requires-clause-sound : goal.remove-requires-clause-sound
remove-requires-clause-sound g c =
    let here = c.self.inside.whole in
    together_removed c.args.at (leaf_values (leaf_in here.store.faces here.store.tables.items) here.shape.tree) c.self.invariant.sound_leaves

pub returns-clause-leaves : goal.returns-clause-leaves
returns-clause-leaves g c = c.remove.ensures.leaves ∙ ap (λ (v : TreeView). list_removed c.args.at v.leaves) c.self.view_is

pub returns-clause-steps : goal.returns-clause-steps
returns-clause-steps g c = λ carriers limit known good.
    let here = c.self.inside.whole in
    let each = most_items carriers limit (length known) in
    let leaves = list_removed c.args.at (leaf_values (leaf_in here.store.faces here.store.tables.items) here.shape.tree) in
    let steps = c.remove.ensures.steps each (items_law leaves carriers limit known (subst (AreGoodFor carriers limit known) c.remove.ensures.leaves good)) in
    subst (λ n. c.remove.new.steps ≤ c.args.steps.now + change_steps n each) (sym (count_is here.shape here.store.faces here.store.tables.items here.store.scratch.room c.args.self.now c.self.view_is c.self.invariant))
    (steps_within c.remove.new.steps c.args.steps.now each (length (rows_without c.args.at here.shape.tree)) (leaf_count_of here.shape.tree) steps c.remove.ensures.rows)
