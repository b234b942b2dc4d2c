use Rattle.std.proofs.Common.{◌≡◌, ◌≤◌, length, Some, refl, sym, ◌∙◌, ap, subst, arith}
use Rattle.tree_shape.specs.Tree.{leaves}
use Rattle.tree_shape.specs.Plan.{tree_of_plan}
use Rattle.tree_shape.specs.Numbers.{NumbersView, next_number}
use Rattle.tree_shape.specs.View.{leaf_count_of, leaves_of_tree, tree_with}
use Rattle.tree_shape.specs.Values.{values_refreshed}
use Rattle.tree_shape.specs.Composing.{Costs, steps_of_rows}
use Rattle.tree_shape.proofs.NumberCounts.{fresh, next_place}
use Rattle.tree_shape.proofs.Shapes.{taken_drawn}
use Rattle.tree_shape.proofs.PlanSteps.{gathered_same}
use Rattle.value_tree.proofs.Changes.{once_of, placed_all, inners_drawn, insert_any, ended}
use Rattle.tree_shape.specs.Fewest.{highest}
use Rattle.tree_shape.proofs.HeightBounds.{highest_bounds}
use Rattle.value_tree.proofs.tree.ValueTree.insert.Goals as goal

pub set_leaf-requires-clause-place : goal.set_leaf-requires-clause-place
set_leaf-requires-clause-place g c = omega (arith, c.requires.leaf_slot, c.insert-number.ensures.number, (next_place c.args.self.now.shape.leaf_numbers (leaves_of_tree c.args.self.now.shape.tree) c.len-before.ensures.lawful.leaves).0)

pub refresh-requires-clause-places : goal.refresh-requires-clause-places
refresh-requires-clause-places g c =
    let old = c.args.self.now.shape in
    let many : c.insert-number.new.self.inner_numbers.drawn ≤ g.S.Values.slots c.args.self.now.store = omega (arith, c.requires.inner_slot, ap (λ (v : NumbersView). v.drawn) c.insert-number.ensures.inner_numbers, inners_drawn old.tree old.inner_numbers) in
    rw c.set_leaf.ensures.slots (placed_all c.insert-number.new.self.tree c.insert-number.new.self (g.S.Values.slots c.args.self.now.store) c.insert-number.new.dirty c.len-after.ensures.lawful refl many c.insert-number.ensures.listing.children)

pub refresh-requires-clause-fit : goal.refresh-requires-clause-fit
refresh-requires-clause-fit g c =
    let old = c.args.self.now.shape in
    let new = next_number old.leaf_numbers in
    let number = next_number old.inner_numbers in
    let before = g.S.Values.leaf_at c.args.self.now.store in
    let nodes_before = g.S.Values.node_at c.args.self.now.store in
    let then = g.S.Values.leaf_at c.set_leaf.new.self in
    let nodes = g.S.Values.node_at c.set_leaf.new.self in
    let need = c.requires.need in
    let after_shape = c.insert-number.new.self in
    let seen = c.insert-number.ensures.tree in
    let is_new = c.insert-number.ensures.number in
    let step = insert_any g.S.Values.join g.S.Values.fits g.S.Values.cost g.S.Values.room g.S.Values.after g.S.Values.within g.S.Values.sound g.S.Values.stands g.met.S.Values.stand_laws g.met.S.Values.room_laws g.met.S.Values.cost_law before then nodes_before nodes new number c.args.at (g.S.Takes.value_of c.args.leaf) old.tree
    (once_of after_shape (tree_with c.args.at new number old.tree) c.len-after.ensures.lawful seen) (fresh old.leaf_numbers (leaves_of_tree old.tree) c.len-before.ensures.lawful.leaves) c.requires.place
    c.requires.kept.there c.requires.kept.keeps
    (subst (λ n. then n ≡ Some (g.S.Takes.value_of c.args.leaf)) is_new c.set_leaf.ensures.leaf) (λ k apart. c.set_leaf.ensures.others k (λ e. apart (e ∙ is_new))) c.set_leaf.ensures.nodes
    c.requires.sound need.2.0 need.2.2 in
    let memory = c.set_leaf.ensures.memory (g.S.Values.room (g.S.Takes.value_of c.args.leaf)) need.2.0 (g.met.S.Values.room_laws.same (g.S.Values.room (g.S.Takes.value_of c.args.leaf))) (g.met.S.Values.meets_law c.args.self.now.store (g.S.Values.room (g.S.Takes.value_of c.args.leaf)) need.2.0 (subst (g.S.Values.meets c.args.self.now.store) need.2.1 need.1)) in
    (need.2.0, rw (c.insert-number.ensures.listed ∙ step.2) step.3.change.steps, memory)

pub returns : goal.returns
returns g c =
    let old = c.args.self.now.shape in
    let new = next_number old.leaf_numbers in
    let number = next_number old.inner_numbers in
    let before = g.S.Values.leaf_at c.args.self.now.store in
    let nodes_before = g.S.Values.node_at c.args.self.now.store in
    let then = g.S.Values.leaf_at c.set_leaf.new.self in
    let nodes = g.S.Values.node_at c.set_leaf.new.self in
    let need = c.requires.need in
    let after_shape = c.insert-number.new.self in
    let seen = c.insert-number.ensures.tree in
    let is_new = c.insert-number.ensures.number in
    let step = insert_any g.S.Values.join g.S.Values.fits g.S.Values.cost g.S.Values.room g.S.Values.after g.S.Values.within g.S.Values.sound g.S.Values.stands g.met.S.Values.stand_laws g.met.S.Values.room_laws g.met.S.Values.cost_law before then nodes_before nodes new number c.args.at (g.S.Takes.value_of c.args.leaf) old.tree
    (once_of after_shape (tree_with c.args.at new number old.tree) c.len-after.ensures.lawful seen) (fresh old.leaf_numbers (leaves_of_tree old.tree) c.len-before.ensures.lawful.leaves) c.requires.place
    c.requires.kept.there c.requires.kept.keeps
    (subst (λ n. then n ≡ Some (g.S.Takes.value_of c.args.leaf)) is_new c.set_leaf.ensures.leaf) (λ k apart. c.set_leaf.ensures.others k (λ e. apart (e ∙ is_new))) c.set_leaf.ensures.nodes
    c.requires.sound need.2.0 need.2.2 in
    record {
      kept =
          let slots : g.S.Values.slots c.refresh.new.store ≡ g.S.Values.slots c.args.self.now.store = c.refresh.ensures.slots ∙ c.set_leaf.ensures.slots in
          ended g.S.Values.join g.S.Values.fits g.S.Values.cost g.S.Values.room g.S.Values.after g.S.Values.within g.S.Values.sound g.S.Values.stands then (g.S.Values.leaf_at c.refresh.new.store) nodes (g.S.Values.node_at c.refresh.new.store) step.0 need.2.0 after_shape (g.S.Values.slots c.refresh.new.store)
          (seen ∙ ap (λ v. Some v) step.1) step.3.change c.refresh.ensures.leaves
          (λ k. c.refresh.ensures.nodes k ∙ ap (λ xs. values_refreshed g.S.Values.join then nodes xs k) (c.insert-number.ensures.listed ∙ step.2))
          step.3.there step.3.sound_then
          (omega (arith, slots, c.requires.leaf_slot, ap (λ (v : NumbersView). v.drawn) c.insert-number.ensures.leaf_numbers, taken_drawn old.leaf_numbers))
          (omega (arith, slots, c.requires.inner_slot, ap (λ (v : NumbersView). v.drawn) c.insert-number.ensures.inner_numbers, inners_drawn old.tree old.inner_numbers));
      leaves =
          let end = g.S.Values.leaf_at c.refresh.new.store in
          rw (seen ∙ ap (λ v. Some v) step.1) (sym (gathered_same then end (leaves (tree_of_plan step.0)) (λ k h. sym (c.refresh.ensures.leaves k))) ∙ step.3.values);
      steps = λ each costs.
          let few = step.3.change.few each (subst (Costs g.S.Values.stands g.S.Values.cost each) (sym step.3.values) costs) in
          rw step.2 (omega (arith, few, c.refresh.ensures.steps, ap (steps_of_rows g.S.Values.join g.S.Values.cost then nodes) (c.insert-number.ensures.listed ∙ step.2)));
      number = c.insert-number.ensures.number;
      numbers = c.insert-number.ensures.leaves;
      rows = let n = leaf_count_of after_shape.tree in omega (arith, c.insert-number.ensures.few (highest n) (highest_bounds n), ap length c.insert-number.ensures.listed);
    }
