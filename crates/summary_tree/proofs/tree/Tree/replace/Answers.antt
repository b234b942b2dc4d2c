use Rattle.std.proofs.Common.{◌+◌, ◌≤◌, length, sym, subst, arith}
use Rattle.std.specs.Prelude.{slice_set}
use Rattle.face_data.specs.Items.{most_items}
use Rattle.face_data.specs.View.{summary_of}
use Rattle.tree_shape.specs.Values.{leaf_values}
use Rattle.tree_shape.specs.View.{leaf_count_of, rows_above}
use Rattle.summary_tree.specs.Laws.{items_law}
use Rattle.summary_tree.specs.Leaves.{Leaf, AreGoodFor, AreSound}
use Rattle.summary_tree.specs.Store.{leaf_in}
use Rattle.summary_tree.specs.Trees.{TreeView, change_steps}
use Rattle.summary_tree.proofs.Layouts.{count_is, steps_within}
use Rattle.summary_tree.proofs.SoundLeaves.{sound_leaves_stand_together}
use Rattle.summary_tree.proofs.tree.Tree.replace.Goals as goal

pub replace-requires-clause-place : goal.replace-requires-clause-place
replace-requires-clause-place g c =
    let here = c.self.inside.whole in
    omega (arith, c.requires.place, count_is here.shape here.store.faces here.store.tables.items here.store.scratch.room c.args.self.now c.self.view_is c.self.invariant)

pub replace-requires-clause-sound : goal.replace-requires-clause-sound
replace-requires-clause-sound g c =
    let here = c.self.inside.whole in
    let leaf : Leaf = (summary_of c.args.face.now, c.args.loops) in
    sound_leaves_stand_together (slice_set (leaf_values (leaf_in here.store.faces here.store.tables.items) here.shape.tree) c.args.at leaf) (subst (λ (v : TreeView). AreSound (slice_set v.leaves c.args.at leaf)) (sym c.self.view_is) c.requires.sound)

pub returns-clause-steps : goal.returns-clause-steps
returns-clause-steps g c = λ carriers limit known good.
    let here = c.self.inside.whole in
    let leaf : Leaf = (summary_of c.args.face.now, c.args.loops) in
    let each = most_items carriers limit (length known) in
    let leaves = slice_set (leaf_values (leaf_in here.store.faces here.store.tables.items) here.shape.tree) c.args.at leaf in
    let steps = c.replace.ensures.steps each (items_law leaves carriers limit known (subst (AreGoodFor carriers limit known) c.replace.ensures.leaves good)) in
    let few = c.replace.ensures.rows in
    subst (λ n. c.replace.new.steps ≤ c.args.steps.now + change_steps n each) (sym (count_is here.shape here.store.faces here.store.tables.items here.store.scratch.room c.args.self.now c.self.view_is c.self.invariant))
    (steps_within c.replace.new.steps c.args.steps.now each (length (rows_above c.args.at here.shape.tree)) (leaf_count_of here.shape.tree) steps (omega (arith, few)))
