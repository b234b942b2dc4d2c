use Rattle.std.proofs.Common.{◌≡◌, ℕ, ◌+◌, ◌*◌, ◌<◌, ◌≤◌, length, Some, refl, sym, ◌∙◌, ap, subst, arith}
use Rattle.std.specs.Prelude.{slice_index}
use Rattle.std.specs.Option.{option_map}
use Rattle.tree_shape.specs.Tree.{count, leaves}
use Rattle.tree_shape.specs.Fewest.{list_removed}
use Rattle.tree_shape.specs.Numbers.{NumbersView}
use Rattle.tree_shape.specs.View.{leaf_count_of, leaves_of_tree, inners_of_tree, rows_without}
use Rattle.tree_shape.specs.Values.{leaf_values, AreThere, KeepsAll, composed_all, values_refreshed}
use Rattle.tree_shape.specs.Composing.{Costs, steps_of_rows}
use Rattle.tree_shape.proofs.NumberCounts.{fresh}
use Rattle.tree_shape.proofs.ArenaTrees.{length_leaves}
use Rattle.std.proofs.Common.{map, append-nil}
use Rattle.tree_shape.specs.Numbers.{times_in}
use Rattle.tree_shape.specs.Apply.{mark}
use Rattle.tree_shape.specs.View.{tree_without}
use Rattle.tree_shape.proofs.ArenaChanges.{one_same}
use Rattle.tree_shape.proofs.Shapes.{times_removed}
use Rattle.value_tree.proofs.Changes.{some_tree, once_of, leaf_once, placed_all, inners_back, values_same, removal, kept_end}
use Rattle.tree_shape.specs.Fewest.{highest}
use Rattle.tree_shape.proofs.HeightBounds.{highest_bounds}
use Rattle.value_tree.proofs.tree.ValueTree.remove.Goals as goal

pub refresh-requires-clause-places : goal.refresh-requires-clause-places
refresh-requires-clause-places g c =
    let old = c.args.self.now.shape in
    placed_all c.remove-number.new.self.tree c.remove-number.new.self (g.S.Values.slots c.args.self.now.store) c.remove-number.new.dirty c.len-after.ensures.lawful refl
    (omega (arith, c.requires.kept.inner_slots, ap (λ (v : NumbersView). v.drawn) c.remove-number.ensures.inner_numbers, inners_back c.args.at old.tree old.inner_numbers)) c.remove-number.ensures.listing.children

pub refresh-requires-clause-fit : goal.refresh-requires-clause-fit
refresh-requires-clause-fit g c =
    let old = c.args.self.now.shape in
    let w = some_tree old.tree c.args.at c.requires.place in
    let place : c.args.at < count w.0 = subst (λ v. c.args.at < leaf_count_of v) w.1 c.requires.place in
    let before = g.S.Values.leaf_at c.args.self.now.store in
    let nodes = g.S.Values.node_at c.args.self.now.store in
    let need = c.requires.need in
    let after_shape = c.remove-number.new.self in
    let seen : after_shape.tree ≡ tree_without c.args.at (Some w.0) = c.remove-number.ensures.tree ∙ ap (tree_without c.args.at) w.1 in
    let list : c.remove-number.new.dirty ≡ rows_without c.args.at (Some w.0) = c.remove-number.ensures.listed ∙ ap (rows_without c.args.at) w.1 in
    let step = removal g.S.Values.join g.S.Values.fits g.S.Values.cost g.S.Values.room g.S.Values.after g.S.Values.within g.S.Values.sound g.S.Values.stands g.met.S.Values.stand_laws g.met.S.Values.room_laws g.met.S.Values.cost_law before nodes c.args.at w.0 (once_of old w.0 c.len-before.ensures.lawful w.1) place
    (subst (λ v. AreThere before (leaves_of_tree v)) w.1 c.requires.kept.there) (subst (KeepsAll g.S.Values.join before nodes) w.1 c.requires.kept.keeps)
    (subst (λ v. g.S.Values.sound (list_removed c.args.at (leaf_values before v))) w.1 c.requires.sound)
    need.2.0 (subst (λ v. map (λ r. Some r) need.2.0 ≡ composed_all g.S.Values.after (λ k. option_map g.S.Values.room (before k)) (λ k. option_map g.S.Values.room (nodes k)) (rows_without c.args.at v)) w.1 need.2.2) in
    (need.2.0, rw list step.steps, subst (g.S.Values.meets c.args.self.now.store) (need.2.1 ∙ append-nil need.2.0) need.1)

pub returns : goal.returns
returns g c =
    let old = c.args.self.now.shape in
    let w = some_tree old.tree c.args.at c.requires.place in
    let place : c.args.at < count w.0 = subst (λ v. c.args.at < leaf_count_of v) w.1 c.requires.place in
    let before = g.S.Values.leaf_at c.args.self.now.store in
    let nodes = g.S.Values.node_at c.args.self.now.store in
    let need = c.requires.need in
    let after_shape = c.remove-number.new.self in
    let seen : after_shape.tree ≡ tree_without c.args.at (Some w.0) = c.remove-number.ensures.tree ∙ ap (tree_without c.args.at) w.1 in
    let list : c.remove-number.new.dirty ≡ rows_without c.args.at (Some w.0) = c.remove-number.ensures.listed ∙ ap (rows_without c.args.at) w.1 in
    let step = removal g.S.Values.join g.S.Values.fits g.S.Values.cost g.S.Values.room g.S.Values.after g.S.Values.within g.S.Values.sound g.S.Values.stands g.met.S.Values.stand_laws g.met.S.Values.room_laws g.met.S.Values.cost_law before nodes c.args.at w.0 (once_of old w.0 c.len-before.ensures.lawful w.1) place
    (subst (λ v. AreThere before (leaves_of_tree v)) w.1 c.requires.kept.there) (subst (KeepsAll g.S.Values.join before nodes) w.1 c.requires.kept.keeps)
    (subst (λ v. g.S.Values.sound (list_removed c.args.at (leaf_values before v))) w.1 c.requires.sound)
    need.2.0 (subst (λ v. map (λ r. Some r) need.2.0 ≡ composed_all g.S.Values.after (λ k. option_map g.S.Values.room (before k)) (λ k. option_map g.S.Values.room (nodes k)) (rows_without c.args.at v)) w.1 need.2.2) in
    let end = g.S.Values.leaf_at c.clear_node.new.self in
    let gone : (k : ℕ) → 1 ≤ times_in k (leaves_of_tree (tree_without c.args.at (Some w.0))) → before k ≡ end k = λ k h. sym (c.clear_node.ensures.leaves k ∙ (c.clear_leaf.ensures.others k (λ e. absurd (omega (
      arith,
      ap (λ v. times_in k (leaves_of_tree v)) seen,
      ap (times_in k) c.remove-number.ensures.leaves,
      ap (λ v. times_in k (list_removed c.args.at (leaves_of_tree v))) w.1,
      times_removed k c.args.at (leaves w.0) (omega (arith, length_leaves w.0)),
      leaf_once old w.0 c.len-before.ensures.lawful w.1 k,
      ap (λ v. mark k (slice_index (leaves_of_tree v) c.args.at)) w.1,
      ap (mark k) c.remove-number.ensures.number,
      ap (mark k) e,
      one_same k,
    ))) ∙ c.refresh.ensures.leaves k)) in
    record {
      kept =
          let slots : g.S.Values.slots c.clear_node.new.self ≡ g.S.Values.slots c.args.self.now.store = c.clear_node.ensures.slots ∙ (c.clear_leaf.ensures.slots ∙ c.refresh.ensures.slots) in
          kept_end g.S.Values.join g.S.Values.fits g.S.Values.cost g.S.Values.room g.S.Values.after g.S.Values.within g.S.Values.sound g.S.Values.stands before end (values_refreshed g.S.Values.join before nodes (rows_without c.args.at (Some w.0))) (g.S.Values.node_at c.clear_node.new.self) (tree_without c.args.at (Some w.0)) after_shape (g.S.Values.slots c.clear_node.new.self) seen
          step.there step.sound_then step.keeps gone
          (λ k h. c.clear_node.ensures.others k (λ e. absurd (omega (arith, h, fresh after_shape.inner_numbers (inners_of_tree after_shape.tree) c.len-after.ensures.lawful.inners, ap (λ v. times_in v (inners_of_tree after_shape.tree)) (e ∙ c.next_inner-gone.ensures), ap (λ v. times_in k (inners_of_tree v)) seen))) ∙ (c.clear_leaf.ensures.nodes k ∙ (c.refresh.ensures.nodes k ∙ ap (λ xs. values_refreshed g.S.Values.join before nodes xs k) list)))
          (omega (arith, slots, c.requires.kept.leaf_slots, ap (λ (v : NumbersView). v.drawn) c.remove-number.ensures.leaf_numbers))
          (omega (arith, slots, c.requires.kept.inner_slots, ap (λ (v : NumbersView). v.drawn) c.remove-number.ensures.inner_numbers, inners_back c.args.at old.tree old.inner_numbers));
      leaves =
          ap (leaf_values end) seen ∙ (sym (values_same before end (tree_without c.args.at (Some w.0)) gone) ∙ (step.values ∙ sym (ap (λ v. list_removed c.args.at (leaf_values before v)) w.1)));
      steps = λ each costs.
          let here = subst (λ v. Costs g.S.Values.stands g.S.Values.cost each (list_removed c.args.at (leaf_values before v))) w.1 costs in
          let few = step.few each (subst (Costs g.S.Values.stands g.S.Values.cost each) (sym step.values) here) in
          let bound : c.refresh.new.steps ≤ c.args.steps.now + 3 * each * length (rows_without c.args.at (Some w.0)) = omega (arith, few, c.refresh.ensures.steps, ap (steps_of_rows g.S.Values.join g.S.Values.cost before nodes) list) in
          let same_rows : rows_without c.args.at (Some w.0) ≡ rows_without c.args.at old.tree = sym (ap (rows_without c.args.at) w.1) in
          subst (λ v. c.refresh.new.steps ≤ c.args.steps.now + 3 * each * length v) same_rows bound;
      number = c.remove-number.ensures.number;
      numbers = c.remove-number.ensures.leaves;
      rows = let n = leaf_count_of c.args.self.now.shape.tree in omega (arith, c.remove-number.ensures.few (highest n) (highest_bounds n), ap length c.remove-number.ensures.listed);
    }
