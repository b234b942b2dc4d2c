use Rattle.std.proofs.Common.{◌≡◌, ◌<◌, length, sym, ◌∙◌, ap, subst, arith, Some}
use Rattle.tree_shape.specs.declared.node.Child.TheVariants.{Leaf, Inner}
use Rattle.tree_shape.specs.Tree.{NodesStand, count, leaves}
use Rattle.tree_shape.specs.Numbers.{NumbersView, numbers_view, given_back}
use Rattle.tree_shape.specs.View.{ShapeView, leaf_count_of}
use Rattle.std.specs.List.{All}
use Rattle.std.specs.Prelude.{slice_index}
use Rattle.tree_shape.specs.Plan.{tree_of_plan, rows}
use Rattle.tree_shape.specs.Removal.{plan_shrunk, node_removed}
use Rattle.tree_shape.specs.Parents.{parents_of, with_parents, PartsHaveParents, RowIsPlaced}
use Rattle.tree_shape.proofs.Listings.{listing_shrunk}
use Rattle.tree_shape.proofs.ParentLinks.{linked_none, rows_are_placed, shape_linked}
use Rattle.tree_shape.proofs.Roots.{sound_read}
use Rattle.tree_shape.proofs.Shapes.{shape_at, shape_shrunk, shape_emptied}
use Rattle.tree_shape.proofs.Removals.{leaves_shrunk}
use Rattle.tree_shape.proofs.Shapes.{tree_below, inside, leaf_room, inner_room, tree_without_inner, inners_without_inner, listing_taken, few_taken}
use Rattle.tree_shape.proofs.shape.Shape.remove.Goals as goal

pub invariant_of-self : goal.invariant_of-self
invariant_of-self c =
    let top : c.self.inside.root ≡ Some (Leaf c.in-Leaf.number) = c.in-Some.is ∙ ap (λ v. Some v) c.in-Leaf.is in
    let shape = shape_at c.self.inside.nodes.items c.self.inside.root (Leaf c.in-Leaf.number) (numbers_view c.self.inside.leaves) (numbers_view c.self.inside.inners) top c.self.invariant.0 in (
      rw c.give_back.ensures.numbers (shape_emptied c.self.inside.nodes.items c.in-Leaf.number (numbers_view c.self.inside.leaves) (numbers_view c.self.inside.inners) shape),
      c.self.invariant.1,
      omega (arith, ap (λ (v : NumbersView). v.drawn) c.give_back.ensures.numbers, c.give_back.ensures.capacity, c.self.invariant.2),
      c.self.invariant.3,
      linked_none (parents_of c.self.inside.parents),
      record { leaves = omega (arith, ap (λ (v : NumbersView). v.drawn) c.give_back.ensures.numbers, c.self.invariant.5.leaves); inners = c.self.invariant.5.inners },
    )

pub leaf_at-number-requires : goal.leaf_at-number-requires
leaf_at-number-requires c =
    let r = tree_below _ _ (Inner c.in-Inner.top) _ _ _ (c.in-Some.is ∙ ap (λ v. Some v) c.in-Inner.is) (ap (λ (v : ShapeView). v.tree) c.self.view_is) c.self.invariant.0 in
    (r.t, r.sound.named, subst (λ v. NodesStand v r.t) (sym c.as_slice.ensures.value) r.sound.stands, subst (λ v. c.args.at < leaf_count_of v) r.seen c.requires)

pub parent_of-gone-requires : goal.parent_of-gone-requires
parent_of-gone-requires c =
    let r = tree_below _ _ (Inner c.in-Inner.top) _ _ _ (c.in-Some.is ∙ ap (λ v. Some v) c.in-Inner.is) (ap (λ (v : ShapeView). v.tree) c.self.view_is) c.self.invariant.0 in
    (r.t, r.sound.named, subst (λ v. NodesStand v r.t) (sym c.as_slice-in-Inner.ensures.value) r.sound.stands, subst (λ v. c.args.at < leaf_count_of v) r.seen c.requires)

pub take-requires-clause-place : goal.take-requires-clause-place
take-requires-clause-place c =
    let r = tree_below _ _ (Inner c.in-Inner.top) _ _ _ (c.in-Some.is ∙ ap (λ v. Some v) c.in-Inner.is) (ap (λ (v : ShapeView). v.tree) c.self.view_is) c.self.invariant.0 in
    (r.t, r.sound, subst (λ v. c.args.at < leaf_count_of v) r.seen c.requires)

pub note-requires : goal.note-requires
note-requires c =
    let r = tree_below _ _ (Inner c.in-Inner.top) _ _ _ (c.in-Some.is ∙ ap (λ v. Some v) c.in-Inner.is) (ap (λ (v : ShapeView). v.tree) c.self.view_is) c.self.invariant.0 in
    let place : c.args.at < count r.t = subst (λ v. c.args.at < leaf_count_of v) r.seen c.requires in
    let after = c.take.ensures.sound r.t r.sound place in
    let whole = shape_shrunk _ _ _ _ r.t c.args.at _ _ r.shape r.sound place (inside c.in-Inner.top r.t r.sound.named) after in
    let v = parents_of c.self.inside.parents in
    let linked : PartsHaveParents v (Some r.t) = subst (PartsHaveParents v) (ap (λ (s : ShapeView). s.tree) c.self.view_is ∙ r.seen) c.self.invariant.4 in
    let listing = listing_shrunk r.t c.args.at after.once in
    subst (All (RowIsPlaced (length v.leaves) (length v.inners))) (sym (c.take.ensures.listed r.t r.sound)) (rows_are_placed v (Some r.t) c.take.new.nodes.items c.take.result (tree_of_plan (plan_shrunk c.args.at r.t)) (rows (plan_shrunk c.args.at r.t)) (given_back (slice_index (leaves r.t) c.args.at) (numbers_view c.self.inside.leaves)) (given_back (node_removed c.args.at r.t) (numbers_view c.self.inside.inners)) linked listing after whole c.self.invariant.5.leaves c.self.invariant.5.inners)

pub give_back-requires-in-Inner : goal.give_back-requires-in-Inner
give_back-requires-in-Inner c =
    let r = tree_below _ _ (Inner c.in-Inner.top) _ _ _ (c.in-Some.is ∙ ap (λ v. Some v) c.in-Inner.is) (ap (λ (v : ShapeView). v.tree) c.self.view_is) c.self.invariant.0 in
    omega (arith, leaf_room _ _ r.t _ _ r.shape r.sound, c.self.invariant.2)

pub give_back-requires-in-Inner-2 : goal.give_back-requires-in-Inner-2
give_back-requires-in-Inner-2 c =
    let r = tree_below _ _ (Inner c.in-Inner.top) _ _ _ (c.in-Some.is ∙ ap (λ v. Some v) c.in-Inner.is) (ap (λ (v : ShapeView). v.tree) c.self.view_is) c.self.invariant.0 in
    omega (arith, inner_room _ _ r.t _ _ r.shape r.sound (inside c.in-Inner.top r.t r.sound.named), c.self.invariant.3)

pub invariant_of-self-in-Inner : goal.invariant_of-self-in-Inner
invariant_of-self-in-Inner c =
    let r = tree_below _ _ (Inner c.in-Inner.top) _ _ _ (c.in-Some.is ∙ ap (λ v. Some v) c.in-Inner.is) (ap (λ (v : ShapeView). v.tree) c.self.view_is) c.self.invariant.0 in
    let place : c.args.at < count r.t = subst (λ v. c.args.at < leaf_count_of v) r.seen c.requires in
    let number = c.leaf_at-number.ensures r.t r.sound.named (subst (λ v. NodesStand v r.t) (sym c.as_slice.ensures.value) r.sound.stands) in
    let parent = c.parent_of-gone.ensures r.t r.sound.named (subst (λ v. NodesStand v r.t) (sym c.as_slice-in-Inner.ensures.value) r.sound.stands) in
    let after = c.take.ensures.sound r.t r.sound place in
    let whole = shape_shrunk _ _ _ _ r.t c.args.at _ _ r.shape r.sound place (inside c.in-Inner.top r.t r.sound.named) after in
    let v = parents_of c.self.inside.parents in
    let linked : PartsHaveParents v (Some r.t) = subst (PartsHaveParents v) (ap (λ (s : ShapeView). s.tree) c.self.view_is ∙ r.seen) c.self.invariant.4 in
    let listing = listing_shrunk r.t c.args.at after.once in
    let noted : parents_of c.note.new.self ≡ with_parents v (rows (plan_shrunk c.args.at r.t)) = c.note.ensures.noted ∙ ap (with_parents v) (c.take.ensures.listed r.t r.sound) in (
      rw (c.give_back-in-Inner.ensures.numbers, c.give_back-in-Inner-2.ensures.numbers, number, parent) whole,
      omega (arith, c.take.ensures.len, c.self.invariant.1, ap (λ (v : NumbersView). v.drawn) c.give_back-in-Inner-2.ensures.numbers),
      omega (arith, c.self.invariant.2, c.give_back-in-Inner.ensures.capacity, ap (λ (v : NumbersView). v.drawn) c.give_back-in-Inner.ensures.numbers),
      omega (arith, c.self.invariant.3, c.give_back-in-Inner-2.ensures.capacity, ap (λ (v : NumbersView). v.drawn) c.give_back-in-Inner-2.ensures.numbers),
      shape_linked v (Some r.t) c.take.new.nodes.items c.take.result (tree_of_plan (plan_shrunk c.args.at r.t)) (rows (plan_shrunk c.args.at r.t)) (given_back (slice_index (leaves r.t) c.args.at) (numbers_view c.self.inside.leaves)) (given_back (node_removed c.args.at r.t) (numbers_view c.self.inside.inners)) linked listing after whole c.self.invariant.5.leaves c.self.invariant.5.inners (parents_of c.note.new.self) noted,
      record {
        leaves = omega (arith, c.self.invariant.5.leaves, c.note.ensures.leaves, ap (λ (v : NumbersView). v.drawn) c.give_back-in-Inner.ensures.numbers);
        inners = omega (arith, c.self.invariant.5.inners, c.note.ensures.inners, ap (λ (v : NumbersView). v.drawn) c.give_back-in-Inner-2.ensures.numbers);
      },
    )

pub returns-in-Inner : goal.returns-in-Inner
returns-in-Inner c =
    let r = tree_below _ _ (Inner c.in-Inner.top) _ _ _ (c.in-Some.is ∙ ap (λ v. Some v) c.in-Inner.is) (ap (λ (v : ShapeView). v.tree) c.self.view_is) c.self.invariant.0 in
    let place : c.args.at < count r.t = subst (λ v. c.args.at < leaf_count_of v) r.seen c.requires in
    let within = inside c.in-Inner.top r.t r.sound.named in
    let number = c.leaf_at-number.ensures r.t r.sound.named (subst (λ v. NodesStand v r.t) (sym c.as_slice.ensures.value) r.sound.stands) in
    let parent = c.parent_of-gone.ensures r.t r.sound.named (subst (λ v. NodesStand v r.t) (sym c.as_slice-in-Inner.ensures.value) r.sound.stands) in
    let after = c.take.ensures.sound r.t r.sound place in
    let listed = c.take.ensures.listed r.t r.sound in
    let leaf_numbers : c.args.self.now.leaf_numbers ≡ numbers_view c.self.inside.leaves = ap (λ (v : ShapeView). v.leaf_numbers) (sym c.self.view_is) in
    let inner_numbers : c.args.self.now.inner_numbers ≡ numbers_view c.self.inside.inners = ap (λ (v : ShapeView). v.inner_numbers) (sym c.self.view_is) in
    record {
      number = rw r.seen number;
      leaves = rw r.seen (ap leaves (sound_read _ _ _ after) ∙ leaves_shrunk c.args.at r.t place within);
      tree = rw r.seen (ap (λ v. Some v) (sound_read _ _ _ after) ∙ sym (tree_without_inner c.args.at r.t within));
      leaf_numbers = rw (leaf_numbers, r.seen, ← number) c.give_back-in-Inner.ensures.numbers;
      inner_numbers = rw (inner_numbers, r.seen) (c.give_back-in-Inner-2.ensures.numbers ∙ (ap (λ n. given_back n (numbers_view c.self.inside.inners)) parent ∙ sym (inners_without_inner c.args.at r.t (numbers_view c.self.inside.inners) within)));
      listed = rw r.seen listed;
      listing = listing_taken _ _ r.t c.args.at c.args.self.now.tree c.take.new.dirty after r.seen listed;
      few = few_taken r.t c.args.at c.args.self.now.tree c.take.new.dirty r.sound.balanced r.seen listed;
    }
