use Rattle.std.proofs.Common.{◌≡◌, ◌<◌, length, Some, refl, sym, ◌∙◌, ap, subst, arith}
use Rattle.std.specs.Prelude.{slice_index, slice_set}
use Rattle.tree_shape.specs.Tree.{count, leaves}
use Rattle.tree_shape.specs.Plan.{rows}
use Rattle.tree_shape.specs.Removal.{plan_touched}
use Rattle.tree_shape.specs.Numbers.{AreNumbersAccounted}
use Rattle.tree_shape.specs.View.{leaf_count_of, leaves_of_tree, rows_above}
use Rattle.tree_shape.specs.Values.{values_of_numbers, leaf_values, AreThere, KeepsAll, values_refreshed}
use Rattle.tree_shape.specs.Composing.{Costs, steps_of_rows}
use Rattle.tree_shape.proofs.NodesAbove.{erase_touched}
use Rattle.tree_shape.proofs.PlanSteps.{index_times, gathered_same}
use Rattle.tree_shape.proofs.ArenaTrees.{length_leaves}
use Rattle.value_tree.proofs.Changes.{some_tree, once_of, leaf_once, used_drawn, placed, replace_step, ended}
use Rattle.tree_shape.specs.Fewest.{highest}
use Rattle.tree_shape.proofs.HeightBounds.{highest_bounds}
use Rattle.value_tree.proofs.tree.ValueTree.replace.Goals as goal

pub set_leaf-requires-clause-place : goal.set_leaf-requires-clause-place
set_leaf-requires-clause-place g c =
    let w = some_tree c.args.self.now.shape.tree c.args.at c.requires.place in
    let place : c.args.at < count w.0 = subst (λ v. c.args.at < leaf_count_of v) w.1 c.requires.place in
    let named : slice_index (leaves w.0) c.args.at ≡ c.leaf-number.result = sym (c.leaf-number.ensures ∙ ap (λ v. slice_index (leaves_of_tree v) c.args.at) w.1) in
    let counted : AreNumbersAccounted c.args.self.now.shape.leaf_numbers (leaves w.0) = subst (λ v. AreNumbersAccounted c.args.self.now.shape.leaf_numbers (leaves_of_tree v)) w.1 c.len-len.ensures.lawful.leaves in
    omega (arith, c.requires.kept.leaf_slots, used_drawn c.args.self.now.shape.leaf_numbers (leaves w.0) c.leaf-number.result counted (index_times c.args.at c.leaf-number.result (leaves w.0) (omega (arith, length_leaves w.0)) named))

pub refresh-requires-clause-places : goal.refresh-requires-clause-places
refresh-requires-clause-places g c =
    let w = some_tree c.args.self.now.shape.tree c.args.at c.requires.place in
    rw c.set_leaf.ensures.slots (placed c.args.self.now.shape w.0 (g.S.Values.slots c.args.self.now.store) c.touch.new.dirty c.len-len.ensures.lawful w.1 c.requires.kept.inner_slots c.touch.ensures.listing.children)

pub refresh-requires-clause-fit : goal.refresh-requires-clause-fit
refresh-requires-clause-fit g c =
    let w = some_tree c.args.self.now.shape.tree c.args.at c.requires.place in
    let place : c.args.at < count w.0 = subst (λ v. c.args.at < leaf_count_of v) w.1 c.requires.place in
    let named : slice_index (leaves w.0) c.args.at ≡ c.leaf-number.result = sym (c.leaf-number.ensures ∙ ap (λ v. slice_index (leaves_of_tree v) c.args.at) w.1) in
    let before = g.S.Values.leaf_at c.args.self.now.store in
    let nodes_before = g.S.Values.node_at c.args.self.now.store in
    let then = g.S.Values.leaf_at c.set_leaf.new.self in
    let nodes = g.S.Values.node_at c.set_leaf.new.self in
    let need = c.requires.need in
    let list : rows_above c.args.at c.args.self.now.shape.tree ≡ rows (plan_touched c.args.at w.0) = ap (rows_above c.args.at) w.1 in
    let step = replace_step g.S.Values.join g.S.Values.fits g.S.Values.cost g.S.Values.room g.S.Values.after g.S.Values.within g.S.Values.sound g.S.Values.stands g.met.S.Values.stand_laws g.met.S.Values.room_laws g.met.S.Values.cost_law before then nodes_before nodes c.leaf-number.result c.args.at (g.S.Takes.value_of c.args.leaf) w.0
    (once_of c.args.self.now.shape w.0 c.len-len.ensures.lawful w.1) (leaf_once c.args.self.now.shape w.0 c.len-len.ensures.lawful w.1) place named
    (subst (λ v. AreThere before (leaves_of_tree v)) w.1 c.requires.kept.there) (subst (KeepsAll g.S.Values.join before nodes_before) w.1 c.requires.kept.keeps)
    c.set_leaf.ensures.leaf c.set_leaf.ensures.others c.set_leaf.ensures.nodes
    (subst (λ v. g.S.Values.sound (slice_set (leaf_values before v) c.args.at (g.S.Takes.value_of c.args.leaf))) w.1 c.requires.sound)
    need.2.0 (rw (c.leaf-number.ensures, ← list) need.2.2) in
    let memory = c.set_leaf.ensures.memory (g.S.Values.room (g.S.Takes.value_of c.args.leaf)) need.2.0 (g.met.S.Values.room_laws.same (g.S.Values.room (g.S.Takes.value_of c.args.leaf))) (g.met.S.Values.meets_law c.args.self.now.store (g.S.Values.room (g.S.Takes.value_of c.args.leaf)) need.2.0 (subst (g.S.Values.meets c.args.self.now.store) need.2.1 need.1)) in
    (need.2.0, rw (c.touch.ensures.listed ∙ list) step.change.steps, memory)

pub returns : goal.returns
returns g c =
    let w = some_tree c.args.self.now.shape.tree c.args.at c.requires.place in
    let place : c.args.at < count w.0 = subst (λ v. c.args.at < leaf_count_of v) w.1 c.requires.place in
    let named : slice_index (leaves w.0) c.args.at ≡ c.leaf-number.result = sym (c.leaf-number.ensures ∙ ap (λ v. slice_index (leaves_of_tree v) c.args.at) w.1) in
    let before = g.S.Values.leaf_at c.args.self.now.store in
    let nodes_before = g.S.Values.node_at c.args.self.now.store in
    let then = g.S.Values.leaf_at c.set_leaf.new.self in
    let nodes = g.S.Values.node_at c.set_leaf.new.self in
    let need = c.requires.need in
    let list : rows_above c.args.at c.args.self.now.shape.tree ≡ rows (plan_touched c.args.at w.0) = ap (rows_above c.args.at) w.1 in
    let step = replace_step g.S.Values.join g.S.Values.fits g.S.Values.cost g.S.Values.room g.S.Values.after g.S.Values.within g.S.Values.sound g.S.Values.stands g.met.S.Values.stand_laws g.met.S.Values.room_laws g.met.S.Values.cost_law before then nodes_before nodes c.leaf-number.result c.args.at (g.S.Takes.value_of c.args.leaf) w.0
    (once_of c.args.self.now.shape w.0 c.len-len.ensures.lawful w.1) (leaf_once c.args.self.now.shape w.0 c.len-len.ensures.lawful w.1) place named
    (subst (λ v. AreThere before (leaves_of_tree v)) w.1 c.requires.kept.there) (subst (KeepsAll g.S.Values.join before nodes_before) w.1 c.requires.kept.keeps)
    c.set_leaf.ensures.leaf c.set_leaf.ensures.others c.set_leaf.ensures.nodes
    (subst (λ v. g.S.Values.sound (slice_set (leaf_values before v) c.args.at (g.S.Takes.value_of c.args.leaf))) w.1 c.requires.sound)
    need.2.0 (rw (c.leaf-number.ensures, ← list) need.2.2) in
    record {
      kept =
          let slots : g.S.Values.slots c.refresh.new.store ≡ g.S.Values.slots c.args.self.now.store = c.refresh.ensures.slots ∙ c.set_leaf.ensures.slots in
          ended g.S.Values.join g.S.Values.fits g.S.Values.cost g.S.Values.room g.S.Values.after g.S.Values.within g.S.Values.sound g.S.Values.stands then (g.S.Values.leaf_at c.refresh.new.store) nodes (g.S.Values.node_at c.refresh.new.store) (plan_touched c.args.at w.0) need.2.0 c.args.self.now.shape (g.S.Values.slots c.refresh.new.store)
          (w.1 ∙ ap (λ v. Some v) (sym (erase_touched c.args.at w.0))) step.change c.refresh.ensures.leaves
          (λ k. c.refresh.ensures.nodes k ∙ ap (λ xs. values_refreshed g.S.Values.join then nodes xs k) (c.touch.ensures.listed ∙ list))
          step.there step.sound_then (rw slots c.requires.kept.leaf_slots) (rw slots c.requires.kept.inner_slots);
      leaves =
          let end = g.S.Values.leaf_at c.refresh.new.store in
          rw w.1 (sym (gathered_same then end (leaves w.0) (λ k h. sym (c.refresh.ensures.leaves k))) ∙ (ap (λ u. values_of_numbers then (leaves u)) (sym (erase_touched c.args.at w.0)) ∙ step.values));
      steps = λ each costs.
          let here = subst (λ v. Costs g.S.Values.stands g.S.Values.cost each (slice_set (leaf_values before v) c.args.at (g.S.Takes.value_of c.args.leaf))) w.1 costs in
          let few = step.change.few each (subst (Costs g.S.Values.stands g.S.Values.cost each) (sym step.values) here) in
          rw list (omega (arith, few, c.refresh.ensures.steps, ap (steps_of_rows g.S.Values.join g.S.Values.cost then nodes) (c.touch.ensures.listed ∙ list)));
      shape = refl;
      rows = let n = leaf_count_of c.args.self.now.shape.tree in omega (arith, c.touch.ensures.few (highest n) (highest_bounds n), ap length c.touch.ensures.listed);
    }
