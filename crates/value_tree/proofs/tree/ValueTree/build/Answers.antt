use Rattle.std.proofs.Common.{◌≡◌, ◌*◌, ◌-◌, ◌≤◌, length, refl, sym, ◌∙◌, ap, subst, arith}
use Rattle.std.proofs.Math.Nat.{mul-le-mul_left}
use Rattle.tree_shape.specs.Building.{all_rows}
use Rattle.tree_shape.specs.Changes.{numbers_below}
use Rattle.tree_shape.specs.Composing.{Costs}
use Rattle.tree_shape.specs.Numbers.{NumbersView}
use Rattle.tree_shape.specs.Values.{AreThere, values_of_numbers, leaf_values, values_refreshed}
use Rattle.tree_shape.specs.View.{leaves_of_tree}
use Rattle.tree_shape.proofs.AllRows.{length_rows}
use Rattle.value_tree.proofs.Changes.{kept_end}
use Rattle.value_tree.proofs.Starts.{starts, values_of}
use Rattle.value_tree.proofs.tree.ValueTree.build.Goals as goal

pub compose_all-requires-clause-fit : goal.compose_all-requires-clause-fit
compose_all-requires-clause-fit g c =
    let shape = c.in_ok-shape.shape in
    let made = c.in_ok-shape.ensures in
    let there : AreThere (g.S.Values.leaf_at c.args.store) (leaves_of_tree shape.tree) = subst (AreThere (g.S.Values.leaf_at c.args.store)) (sym made.leaves) c.requires.there in
    let values : leaf_values (g.S.Values.leaf_at c.args.store) shape.tree ≡ values_of_numbers (g.S.Values.leaf_at c.args.store) (numbers_below c.args.leaves) = values_of (g.S.Values.leaf_at c.args.store) shape.tree ∙ ap (values_of_numbers (g.S.Values.leaf_at c.args.store)) made.leaves in
    let s = starts g.S.Values.join g.S.Values.fits g.S.Values.cost g.S.Values.room g.S.Values.after g.S.Values.within g.S.Values.sound g.S.Values.stands g.met.S.Values.stand_laws g.met.S.Values.room_laws g.met.S.Values.cost_law (g.S.Values.leaf_at c.args.store) (g.S.Values.node_at c.args.store) shape.tree shape c.len-len.ensures.lawful refl there (subst g.S.Values.sound (sym values) c.requires.sound) in
    (s.rooms, s.fit)

pub returns-in_err-compose_all-clause-steps : goal.returns-in_err-compose_all-clause-steps
returns-in_err-compose_all-clause-steps g c = λ each costs.
    let shape = c.in_ok-shape.shape in
    let made = c.in_ok-shape.ensures in
    let there : AreThere (g.S.Values.leaf_at c.args.store) (leaves_of_tree shape.tree) = subst (AreThere (g.S.Values.leaf_at c.args.store)) (sym made.leaves) c.requires.there in
    let values : leaf_values (g.S.Values.leaf_at c.args.store) shape.tree ≡ values_of_numbers (g.S.Values.leaf_at c.args.store) (numbers_below c.args.leaves) = values_of (g.S.Values.leaf_at c.args.store) shape.tree ∙ ap (values_of_numbers (g.S.Values.leaf_at c.args.store)) made.leaves in
    let s = starts g.S.Values.join g.S.Values.fits g.S.Values.cost g.S.Values.room g.S.Values.after g.S.Values.within g.S.Values.sound g.S.Values.stands g.met.S.Values.stand_laws g.met.S.Values.room_laws g.met.S.Values.cost_law (g.S.Values.leaf_at c.args.store) (g.S.Values.node_at c.args.store) shape.tree shape c.len-len.ensures.lawful refl there (subst g.S.Values.sound (sym values) c.requires.sound) in
    let many = length_rows shape.tree (c.args.leaves - 1) made.inners in
    let few = s.few each (subst (Costs g.S.Values.stands g.S.Values.cost each) (sym values) costs) in
    let more : 3 * each * length (all_rows shape.tree) ≤ 3 * each * c.args.leaves = mul-le-mul_left (3 * each) (omega (arith, many)) in
    omega (arith, few, more, c.compose_all.ensures.steps)

pub returns-clause-kept : goal.returns-clause-kept
returns-clause-kept g c =
    let shape = c.in_ok-shape.shape in
    let made = c.in_ok-shape.ensures in
    let there : AreThere (g.S.Values.leaf_at c.args.store) (leaves_of_tree shape.tree) = subst (AreThere (g.S.Values.leaf_at c.args.store)) (sym made.leaves) c.requires.there in
    let values : leaf_values (g.S.Values.leaf_at c.args.store) shape.tree ≡ values_of_numbers (g.S.Values.leaf_at c.args.store) (numbers_below c.args.leaves) = values_of (g.S.Values.leaf_at c.args.store) shape.tree ∙ ap (values_of_numbers (g.S.Values.leaf_at c.args.store)) made.leaves in
    let s = starts g.S.Values.join g.S.Values.fits g.S.Values.cost g.S.Values.room g.S.Values.after g.S.Values.within g.S.Values.sound g.S.Values.stands g.met.S.Values.stand_laws g.met.S.Values.room_laws g.met.S.Values.cost_law (g.S.Values.leaf_at c.args.store) (g.S.Values.node_at c.args.store) shape.tree shape c.len-len.ensures.lawful refl there (subst g.S.Values.sound (sym values) c.requires.sound) in
    let end = g.S.Values.leaf_at c.compose_all.new.store in
    kept_end g.S.Values.join g.S.Values.fits g.S.Values.cost g.S.Values.room g.S.Values.after g.S.Values.within g.S.Values.sound g.S.Values.stands (g.S.Values.leaf_at c.args.store) end (values_refreshed g.S.Values.join (g.S.Values.leaf_at c.args.store) (g.S.Values.node_at c.args.store) (all_rows shape.tree)) (g.S.Values.node_at c.compose_all.new.store) shape.tree shape (g.S.Values.slots c.compose_all.new.store) refl
    there (subst g.S.Values.sound (sym values) c.requires.sound) s.keeps (λ k h. sym (c.compose_all.ensures.leaves k)) (λ k h. c.in_ok-compose_all.ensures.nodes k)
    (omega (arith, c.requires.places, c.compose_all.ensures.slots, ap (λ (v : NumbersView). v.drawn) made.leaf_numbers))
    (omega (arith, c.requires.places, c.compose_all.ensures.slots, ap (λ (v : NumbersView). v.drawn) made.inner_numbers))

pub returns-clause-steps : goal.returns-clause-steps
returns-clause-steps g c = λ each costs.
    let shape = c.in_ok-shape.shape in
    let made = c.in_ok-shape.ensures in
    let there : AreThere (g.S.Values.leaf_at c.args.store) (leaves_of_tree shape.tree) = subst (AreThere (g.S.Values.leaf_at c.args.store)) (sym made.leaves) c.requires.there in
    let values : leaf_values (g.S.Values.leaf_at c.args.store) shape.tree ≡ values_of_numbers (g.S.Values.leaf_at c.args.store) (numbers_below c.args.leaves) = values_of (g.S.Values.leaf_at c.args.store) shape.tree ∙ ap (values_of_numbers (g.S.Values.leaf_at c.args.store)) made.leaves in
    let s = starts g.S.Values.join g.S.Values.fits g.S.Values.cost g.S.Values.room g.S.Values.after g.S.Values.within g.S.Values.sound g.S.Values.stands g.met.S.Values.stand_laws g.met.S.Values.room_laws g.met.S.Values.cost_law (g.S.Values.leaf_at c.args.store) (g.S.Values.node_at c.args.store) shape.tree shape c.len-len.ensures.lawful refl there (subst g.S.Values.sound (sym values) c.requires.sound) in
    let many = length_rows shape.tree (c.args.leaves - 1) made.inners in
    let few = s.few each (subst (Costs g.S.Values.stands g.S.Values.cost each) (sym values) costs) in
    let more : 3 * each * length (all_rows shape.tree) ≤ 3 * each * c.args.leaves = mul-le-mul_left (3 * each) (omega (arith, many)) in
    omega (arith, few, more, c.compose_all.ensures.steps)
