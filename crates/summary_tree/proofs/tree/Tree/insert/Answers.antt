use Rattle.std.proofs.Common.{◌+◌, ◌≤◌, length, sym, subst, arith}
use Rattle.face_data.specs.Items.{most_items}
use Rattle.face_data.specs.View.{summary_of}
use Rattle.tree_shape.specs.Fewest.{list_inserted}
use Rattle.tree_shape.specs.Numbers.{next_number}
use Rattle.tree_shape.specs.Values.{leaf_values}
use Rattle.tree_shape.specs.View.{leaf_count_of, rows_with}
use Rattle.value_tree.proofs.LeafLists.{count_values}
use Rattle.summary_tree.specs.Laws.{items_law}
use Rattle.summary_tree.specs.Leaves.{Leaf, AreGoodFor, AreSound}
use Rattle.summary_tree.specs.Store.{leaf_in}
use Rattle.summary_tree.specs.Trees.{TreeView, change_steps}
use Rattle.summary_tree.proofs.Layouts.{count_is, length_inserted, steps_within}
use Rattle.summary_tree.proofs.SoundLeaves.{sound_leaves_stand_together}
use Rattle.summary_tree.proofs.tree.Tree.insert.Goals as goal

pub insert-requires-clause-place : goal.insert-requires-clause-place
insert-requires-clause-place g c =
    let here = c.self.inside.whole in
    omega (arith, c.requires.place, count_is here.shape here.store.faces here.store.tables.items here.store.scratch.room c.args.self.now c.self.view_is c.self.invariant)

pub insert-requires-clause-few : goal.insert-requires-clause-few
insert-requires-clause-few g c =
    let here = c.self.inside.whole in
    omega (arith, c.requires.sound.few_leaves, length_inserted c.args.at (summary_of c.args.face.now, c.args.loops) c.args.self.now.leaves, count_is here.shape here.store.faces here.store.tables.items here.store.scratch.room c.args.self.now c.self.view_is c.self.invariant)

pub insert-requires-clause-sound : goal.insert-requires-clause-sound
insert-requires-clause-sound g c =
    let here = c.self.inside.whole in
    let leaf : Leaf = (summary_of c.args.face.now, c.args.loops) in
    sound_leaves_stand_together (list_inserted c.args.at leaf (leaf_values (leaf_in here.store.faces here.store.tables.items) here.shape.tree)) (subst (λ (v : TreeView). AreSound (list_inserted c.args.at leaf v.leaves)) (sym c.self.view_is) c.requires.sound)

pub returns-clause-steps : goal.returns-clause-steps
returns-clause-steps g c = λ carriers limit known good.
    let here = c.self.inside.whole in
    let then = c.insert.new.self in
    let leaf : Leaf = (summary_of c.args.face.now, c.args.loops) in
    let each = most_items carriers limit (length known) in
    let leaves = list_inserted c.args.at leaf (leaf_values (leaf_in here.store.faces here.store.tables.items) here.shape.tree) in
    let steps = c.insert.ensures.steps each (items_law leaves carriers limit known (subst (AreGoodFor carriers limit known) c.insert.ensures.leaves good)) in
    let rows = rows_with c.args.at (next_number here.shape.leaf_numbers) (next_number here.shape.inner_numbers) here.shape.tree in
    subst (λ n. c.insert.new.steps ≤ c.args.steps.now + change_steps n each) (sym (count_values (leaf_in then.store.faces then.store.tables.items) then.shape.tree c.insert.ensures.kept.there))
    (steps_within c.insert.new.steps c.args.steps.now each (length rows) (leaf_count_of then.shape.tree) steps c.insert.ensures.rows)
