use Rattle.std.proofs.Common.{◌≡◌, ◌*◌, length, sym, ◌∙◌, ap, subst, arith}
use Rattle.face_data.specs.Items.{most_items}
use Rattle.tree_shape.specs.Changes.{numbers_below}
use Rattle.tree_shape.specs.Values.{values_of_numbers}
use Rattle.summary_tree.specs.Laws.{items_law}
use Rattle.summary_tree.specs.Leaves.{AreGoodFor, StandTogether}
use Rattle.summary_tree.specs.Store.{leaf_in}
use Rattle.summary_tree.proofs.SoundLeaves.{sound_leaves_stand_together}
use Rattle.summary_tree.proofs.Starts.{leaves_below}
use Rattle.summary_tree.proofs.tree.Tree.start.Goals as goal

pub build-requires-clause-there : goal.build-requires-clause-there
build-requires-clause-there g c =
    (leaves_below (leaf_in c.put_leaves.new.store.faces c.put_leaves.new.store.tables.items) c.len-many.result c.args.leaves.items (omega (arith, c.len-many.ensures)) c.in_ok-put_leaves.ensures.leaves).there

pub build-requires-clause-sound : goal.build-requires-clause-sound
build-requires-clause-sound g c =
    let all = leaves_below (leaf_in c.put_leaves.new.store.faces c.put_leaves.new.store.tables.items) c.len-many.result c.args.leaves.items (omega (arith, c.len-many.ensures)) c.in_ok-put_leaves.ensures.leaves in
    subst StandTogether (sym all.values) (sound_leaves_stand_together c.args.leaves.items c.requires)

pub returns-in_err-whole-clause-steps : goal.returns-in_err-whole-clause-steps
returns-in_err-whole-clause-steps g c = λ carriers limit known good.
    let all = leaves_below (leaf_in c.put_leaves.new.store.faces c.put_leaves.new.store.tables.items) c.len-many.result c.args.leaves.items (omega (arith, c.len-many.ensures)) c.in_ok-put_leaves.ensures.leaves in
    let each = most_items carriers limit (length known) in
    let steps = c.build.ensures.steps each (items_law (values_of_numbers (leaf_in c.put_leaves.new.store.faces c.put_leaves.new.store.tables.items) (numbers_below c.len-many.result)) carriers limit known (subst (AreGoodFor carriers limit known) (sym all.values) good)) in
    let many : c.len-many.result ≡ length c.args.leaves.items = omega (arith, c.len-many.ensures) in
    omega (arith, steps, ap (λ n. 3 * each * n) many)

pub returns-clause-leaves : goal.returns-clause-leaves
returns-clause-leaves g c =
    let all = leaves_below (leaf_in c.put_leaves.new.store.faces c.put_leaves.new.store.tables.items) c.len-many.result c.args.leaves.items (omega (arith, c.len-many.ensures)) c.in_ok-put_leaves.ensures.leaves in
    c.in_ok-whole.ensures.leaves ∙ all.values

pub returns-clause-steps : goal.returns-clause-steps
returns-clause-steps g c = λ carriers limit known good.
    let all = leaves_below (leaf_in c.put_leaves.new.store.faces c.put_leaves.new.store.tables.items) c.len-many.result c.args.leaves.items (omega (arith, c.len-many.ensures)) c.in_ok-put_leaves.ensures.leaves in
    let each = most_items carriers limit (length known) in
    let steps = c.build.ensures.steps each (items_law (values_of_numbers (leaf_in c.put_leaves.new.store.faces c.put_leaves.new.store.tables.items) (numbers_below c.len-many.result)) carriers limit known (subst (AreGoodFor carriers limit known) (sym all.values) good)) in
    let many : c.len-many.result ≡ length c.args.leaves.items = omega (arith, c.len-many.ensures) in
    omega (arith, steps, ap (λ n. 3 * each * n) many)
