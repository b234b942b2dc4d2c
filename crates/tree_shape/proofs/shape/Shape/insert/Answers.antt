use Rattle.std.proofs.Common.{◌≡◌, ◌<◌, ◌≤◌, length, vec_len, vec_capacity, sym, ◌∙◌, ap, subst, arith, Some}
use Rattle.tree_shape.specs.Tree.{leaves, inner_node_numbers}
use Rattle.std.specs.List.{All}
use Rattle.tree_shape.specs.Plan.{plan_grown, tree_of_plan, rows}
use Rattle.tree_shape.specs.Parents.{parents_of, with_parents, PartsHaveParents, RowIsPlaced}
use Rattle.tree_shape.proofs.Listings.{listing_grown}
use Rattle.tree_shape.proofs.ParentLinks.{linked_leaf, rows_are_placed, shape_linked}
use Rattle.tree_shape.specs.Apply.{times}
use Rattle.tree_shape.specs.Numbers.{NumbersView, numbers_view, next_number, numbers_without_next}
use Rattle.tree_shape.specs.View.{ShapeView, IsShape, IsSoundTree, leaf_count_of}
use Rattle.tree_shape.proofs.NumberCounts.{next_place}
use Rattle.tree_shape.proofs.Roots.{sound_read, leaves_with}
use Rattle.tree_shape.proofs.Shapes.{tree_below, rooms, taken_drawn, shape_first, shape_grown, next_free, counted_inners, listing_put, few_put}
use Rattle.tree_shape.proofs.shape.Shape.insert.Goals as goal

pub invariant_of-self : goal.invariant_of-self
invariant_of-self c =
    let room = rooms c.self.inside.leaves.drawn (vec_capacity c.self.inside.leaves.free) c.self.inside.inners.drawn (vec_capacity c.self.inside.inners.free) (vec_len c.self.inside.nodes) (vec_capacity c.self.inside.nodes) (length c.self.inside.parents.leaves.items) (length c.self.inside.parents.inners.items) (ap (λ (v : ShapeView). v.room) c.self.view_is ∙ c.requires.room) in
    let first = shape_first c.self.inside.nodes.items (numbers_view c.self.inside.leaves) (numbers_view c.self.inside.inners) (subst (λ v. IsShape c.self.inside.nodes.items v (numbers_view c.self.inside.leaves) (numbers_view c.self.inside.inners)) c.in-None.is c.self.invariant.0) in (
      rw (c.draw-new.ensures.number, c.draw-new.ensures.numbers) first,
      c.self.invariant.1,
      omega (arith, ap (λ (v : NumbersView). v.drawn) c.draw-new.ensures.numbers, taken_drawn (numbers_view c.self.inside.leaves), room.0, c.draw-new.ensures.capacity),
      c.self.invariant.3,
      linked_leaf (parents_of c.self.inside.parents) c.draw-new.result,
      record {
        leaves = omega (arith, ap (λ (v : NumbersView). v.drawn) c.draw-new.ensures.numbers, taken_drawn (numbers_view c.self.inside.leaves), room.3);
        inners = c.self.invariant.5.inners;
      },
    )

pub put-requires-clause-near : goal.put-requires-clause-near
put-requires-clause-near c =
    let r = tree_below _ _ c.in-Some.child _ _ _ c.in-Some.is (ap (λ (v : ShapeView). v.tree) c.self.view_is) c.self.invariant.0 in
    let near = (next_place (numbers_view c.self.inside.inners) (inner_node_numbers r.t) (counted_inners _ _ r.t _ _ r.shape r.sound)).0 in
    omega (arith, near, c.draw-number.ensures.number, c.self.invariant.1)

pub put-requires-clause-place : goal.put-requires-clause-place
put-requires-clause-place c =
    let r = tree_below _ _ c.in-Some.child _ _ _ c.in-Some.is (ap (λ (v : ShapeView). v.tree) c.self.view_is) c.self.invariant.0 in
    let place = subst (λ v. c.args.at ≤ leaf_count_of v) r.seen c.requires.place in
    let few = subst (λ v. leaf_count_of v < 65536) r.seen c.requires.few in
    let free : times c.draw-number.result r.t ≡ 0 = rw c.draw-number.ensures.number (next_free _ _ r.t _ _ r.shape r.sound) in
    (r.t, r.sound, place, few, free)

pub note-requires : goal.note-requires
note-requires c =
    let r = tree_below _ _ c.in-Some.child _ _ _ c.in-Some.is (ap (λ (v : ShapeView). v.tree) c.self.view_is) c.self.invariant.0 in
    let place = subst (λ v. c.args.at ≤ leaf_count_of v) r.seen c.requires.place in
    let few = subst (λ v. leaf_count_of v < 65536) r.seen c.requires.few in
    let free : times c.draw-number.result r.t ≡ 0 = rw c.draw-number.ensures.number (next_free _ _ r.t _ _ r.shape r.sound) in
    let written = c.put.ensures.sound r.t r.sound place few free in
    let after : IsSoundTree c.put.new.nodes.items c.put.result (tree_of_plan (plan_grown c.args.at (next_number (numbers_view c.self.inside.leaves)) (next_number (numbers_view c.self.inside.inners)) r.t)) =
    rw (← c.draw-new.ensures.number, ← c.draw-number.ensures.number) written in
    let room = rooms c.self.inside.leaves.drawn (vec_capacity c.self.inside.leaves.free) c.self.inside.inners.drawn (vec_capacity c.self.inside.inners.free) (vec_len c.self.inside.nodes) (vec_capacity c.self.inside.nodes) (length c.self.inside.parents.leaves.items) (length c.self.inside.parents.inners.items) (ap (λ (v : ShapeView). v.room) c.self.view_is ∙ c.requires.room) in
    let whole = shape_grown _ _ _ _ r.t c.args.at _ _ r.shape r.sound place few after in
    let v = parents_of c.self.inside.parents in
    let linked : PartsHaveParents v (Some r.t) = subst (PartsHaveParents v) (ap (λ (s : ShapeView). s.tree) c.self.view_is ∙ r.seen) c.self.invariant.4 in
    let listing = listing_grown r.t c.args.at c.draw-new.result c.draw-number.result written.once in
    let leaf_places : (numbers_without_next (numbers_view c.self.inside.leaves)).drawn ≤ length v.leaves = omega (arith, taken_drawn (numbers_view c.self.inside.leaves), room.3) in
    let inner_places : (numbers_without_next (numbers_view c.self.inside.inners)).drawn ≤ length v.inners = omega (arith, taken_drawn (numbers_view c.self.inside.inners), room.4) in
    subst (All (RowIsPlaced (length v.leaves) (length v.inners))) (sym (c.put.ensures.listed r.t r.sound)) (rows_are_placed v (Some r.t) c.put.new.nodes.items c.put.result (tree_of_plan (plan_grown c.args.at c.draw-new.result c.draw-number.result r.t)) (rows (plan_grown c.args.at c.draw-new.result c.draw-number.result r.t)) (numbers_without_next (numbers_view c.self.inside.leaves)) (numbers_without_next (numbers_view c.self.inside.inners)) linked listing written whole leaf_places inner_places)

pub invariant_of-self-in-Some : goal.invariant_of-self-in-Some
invariant_of-self-in-Some c =
    let r = tree_below _ _ c.in-Some.child _ _ _ c.in-Some.is (ap (λ (v : ShapeView). v.tree) c.self.view_is) c.self.invariant.0 in
    let place = subst (λ v. c.args.at ≤ leaf_count_of v) r.seen c.requires.place in
    let few = subst (λ v. leaf_count_of v < 65536) r.seen c.requires.few in
    let free : times c.draw-number.result r.t ≡ 0 = rw c.draw-number.ensures.number (next_free _ _ r.t _ _ r.shape r.sound) in
    let written = c.put.ensures.sound r.t r.sound place few free in
    let after : IsSoundTree c.put.new.nodes.items c.put.result (tree_of_plan (plan_grown c.args.at (next_number (numbers_view c.self.inside.leaves)) (next_number (numbers_view c.self.inside.inners)) r.t)) =
    rw (← c.draw-new.ensures.number, ← c.draw-number.ensures.number) written in
    let room = rooms c.self.inside.leaves.drawn (vec_capacity c.self.inside.leaves.free) c.self.inside.inners.drawn (vec_capacity c.self.inside.inners.free) (vec_len c.self.inside.nodes) (vec_capacity c.self.inside.nodes) (length c.self.inside.parents.leaves.items) (length c.self.inside.parents.inners.items) (ap (λ (v : ShapeView). v.room) c.self.view_is ∙ c.requires.room) in
    let whole = shape_grown _ _ _ _ r.t c.args.at _ _ r.shape r.sound place few after in
    let v = parents_of c.self.inside.parents in
    let linked : PartsHaveParents v (Some r.t) = subst (PartsHaveParents v) (ap (λ (s : ShapeView). s.tree) c.self.view_is ∙ r.seen) c.self.invariant.4 in
    let listing = listing_grown r.t c.args.at c.draw-new.result c.draw-number.result written.once in
    let leaf_places : (numbers_without_next (numbers_view c.self.inside.leaves)).drawn ≤ length v.leaves = omega (arith, taken_drawn (numbers_view c.self.inside.leaves), room.3) in
    let inner_places : (numbers_without_next (numbers_view c.self.inside.inners)).drawn ≤ length v.inners = omega (arith, taken_drawn (numbers_view c.self.inside.inners), room.4) in
    let noted : parents_of c.note.new.self ≡ with_parents v (rows (plan_grown c.args.at c.draw-new.result c.draw-number.result r.t)) = c.note.ensures.noted ∙ ap (with_parents v) (c.put.ensures.listed r.t r.sound) in
    let at = (next_place (numbers_view c.self.inside.inners) (inner_node_numbers r.t) (counted_inners _ _ r.t _ _ r.shape r.sound)).1 in
    let drawn = ap (λ (v : NumbersView). v.drawn) c.draw-number.ensures.numbers in (
      rw (c.draw-new.ensures.numbers, c.draw-number.ensures.numbers) whole,
      omega (arith, c.put.ensures.len, at, drawn, c.self.invariant.1, c.draw-number.ensures.number),
      omega (arith, ap (λ (v : NumbersView). v.drawn) c.draw-new.ensures.numbers, taken_drawn (numbers_view c.self.inside.leaves), room.0, c.draw-new.ensures.capacity),
      omega (arith, drawn, taken_drawn (numbers_view c.self.inside.inners), room.1, c.draw-number.ensures.capacity),
      shape_linked v (Some r.t) c.put.new.nodes.items c.put.result (tree_of_plan (plan_grown c.args.at c.draw-new.result c.draw-number.result r.t)) (rows (plan_grown c.args.at c.draw-new.result c.draw-number.result r.t)) (numbers_without_next (numbers_view c.self.inside.leaves)) (numbers_without_next (numbers_view c.self.inside.inners)) linked listing written whole leaf_places inner_places (parents_of c.note.new.self) noted,
      record {
        leaves = omega (arith, ap (λ (v : NumbersView). v.drawn) c.draw-new.ensures.numbers, leaf_places, c.note.ensures.leaves);
        inners = omega (arith, drawn, inner_places, c.note.ensures.inners);
      },
    )

pub returns-in-Some : goal.returns-in-Some
returns-in-Some c =
    let r = tree_below _ _ c.in-Some.child _ _ _ c.in-Some.is (ap (λ (v : ShapeView). v.tree) c.self.view_is) c.self.invariant.0 in
    let place = subst (λ v. c.args.at ≤ leaf_count_of v) r.seen c.requires.place in
    let few = subst (λ v. leaf_count_of v < 65536) r.seen c.requires.few in
    let free : times c.draw-number.result r.t ≡ 0 = rw c.draw-number.ensures.number (next_free _ _ r.t _ _ r.shape r.sound) in
    let written = c.put.ensures.sound r.t r.sound place few free in
    let after : IsSoundTree c.put.new.nodes.items c.put.result (tree_of_plan (plan_grown c.args.at (next_number (numbers_view c.self.inside.leaves)) (next_number (numbers_view c.self.inside.inners)) r.t)) =
    rw (← c.draw-new.ensures.number, ← c.draw-number.ensures.number) written in
    let listed = c.put.ensures.listed r.t r.sound in
    let leaf_numbers : c.args.self.now.leaf_numbers ≡ numbers_view c.self.inside.leaves = ap (λ (v : ShapeView). v.leaf_numbers) (sym c.self.view_is) in
    let inner_numbers : c.args.self.now.inner_numbers ≡ numbers_view c.self.inside.inners = ap (λ (v : ShapeView). v.inner_numbers) (sym c.self.view_is) in
    record {
      number = rw leaf_numbers c.draw-new.ensures.number;
      leaves = rw (r.seen, c.draw-new.ensures.number) (ap leaves (sound_read _ _ _ after) ∙ leaves_with c.args.at (next_number (numbers_view c.self.inside.leaves)) (next_number (numbers_view c.self.inside.inners)) (Some r.t) place);
      tree = rw (leaf_numbers, inner_numbers, r.seen) (ap (λ v. Some v) (sound_read _ _ _ after));
      leaf_numbers = rw leaf_numbers c.draw-new.ensures.numbers;
      inner_numbers = rw (inner_numbers, r.seen) c.draw-number.ensures.numbers;
      listed = rw (leaf_numbers, inner_numbers, r.seen, ← c.draw-new.ensures.number, ← c.draw-number.ensures.number) listed;
      listing = listing_put _ _ r.t c.args.at c.draw-new.result c.draw-number.result c.args.self.now.tree c.put.new.dirty written r.seen listed;
      few = few_put _ _ r.t c.args.at c.draw-new.result c.draw-number.result c.put.new.dirty written r.sound.balanced listed;
    }
