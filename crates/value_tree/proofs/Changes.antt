-- What a change leaves: the values of the tree after it, and what it took.
use Rattle.std.proofs.Common.{◌≡◌, ◌≢◌, ℕ, zero, suc, ◌+◌, ◌*◌, ◌<◌, ◌≤◌, List, [], ◌∷◌, ◌-◌, nat_lt, map, length, take, drop, Option, Some, None, refl, sym, ◌∙◌, ap, subst, arith, inl, inr}
use Rattle.std.specs.Option.{option_map}
use Rattle.std.specs.Prelude.{slice_index, slice_set}
use Rattle.std.specs.List.{All}
use Rattle.std.specs.Prelude.{IfSome}
use Rattle.tree_shape.specs.declared.node.Child.{Child}
use Rattle.std.proofs.lemmas.List.Elements.{All-weaker}
use Rattle.std.proofs.lemmas.Bool.Decides.{leb_tells}
use Rattle.tree_shape.specs.declared.dirty.DirtyRow.{DirtyRow}
use Rattle.tree_shape.specs.Tree.{Tree, leaf, inner, name, count, leaves, inner_node_numbers}
use Rattle.tree_shape.specs.Plan.{Plan, kept, plan_grown, tree_of_plan, rows}
use Rattle.tree_shape.specs.Removal.{plan_touched, plan_shrunk}
use Rattle.tree_shape.specs.Fewest.{list_inserted, list_removed}
use Rattle.tree_shape.specs.Apply.{mark, times, KeptBy}
use Rattle.tree_shape.specs.Changes.{IsSubtree, HasChildren}
use Rattle.tree_shape.specs.Numbers.{NumbersView, times_in, next_number, AreNumbersAccounted}
use Rattle.tree_shape.specs.View.{ShapeView, IsLawfulShape, leaf_count_of, leaves_of_tree, inners_of_tree, tree_with, rows_above, rows_with, inners_with, tree_without, rows_without, inners_without}
use Rattle.tree_shape.proofs.ArenaChanges.{mark_is_one_or_none, one_same}
use Rattle.tree_shape.proofs.ArenaTrees.{length_leaves}
use Rattle.tree_shape.proofs.NodesAbove.{erase_touched}
use Rattle.tree_shape.proofs.Insertions.{GoesDown, kept_by_grown, leaves_grown, times_grown}
use Rattle.tree_shape.proofs.InsertionBounds.{both_ways}
use Rattle.tree_shape.proofs.Rooms.{rooms_there}
use Rattle.tree_shape.proofs.Removals.{IsInner, kept_by_shrunk, leaves_shrunk}
use Rattle.tree_shape.proofs.LeafChanges.{kept_touched, kept_inserted, kept_removed}
use Rattle.tree_shape.proofs.NumberCounts.{counted_times, fresh}
use Rattle.tree_shape.proofs.Shapes.{times_inners, taken_drawn}
use Rattle.tree_shape.proofs.Roots.{shrunk_times}
use Rattle.tree_shape.specs.Values.{IsThere, AreThere, joined_on, part, values_of_numbers, leaf_values, KeepsNodeValues, KeepsAll, composed_all, values_refreshed, with_node}
use Rattle.tree_shape.specs.Composing.{FitSteps, StandLaws, RoomLaws, Costs, steps_of_rows}
use Rattle.tree_shape.proofs.RowWalks.{set_node}
use Rattle.tree_shape.proofs.NodeValues.{kept_weaker, kept_both, frame_keeps, keeps_leaves, value_of_child, keeps_refreshed}
use Rattle.tree_shape.proofs.PlanSteps.{standing, kept_there, bounded_kept, fit_steps, there_same, there_front, there_back, there_both, value_there, gathered_same, gathered_replaced, gathered_inserted, gathered_removed}
use Rattle.value_tree.specs.Kept.{KeepsLeafValues}

-- the inner numbers of a lawful shape are there once
pub once_of : (shape : ShapeView) (t : Tree) → IsLawfulShape shape → shape.tree ≡ Some t → (k : ℕ) → times k t ≤ 1
once_of shape t lawful seen k =
    let c : AreNumbersAccounted shape.inner_numbers (inner_node_numbers t) = subst (λ v. AreNumbersAccounted shape.inner_numbers (inners_of_tree v)) seen lawful.inners in
    omega (arith, counted_times shape.inner_numbers (inner_node_numbers t) k c, times_inners k t)

-- and so are its leaf numbers
pub leaf_once : (shape : ShapeView) (t : Tree) → IsLawfulShape shape → shape.tree ≡ Some t → (k : ℕ) → times_in k (leaves t) ≤ 1
leaf_once shape t lawful seen k =
    let c : AreNumbersAccounted shape.leaf_numbers (leaves t) = subst (λ v. AreNumbersAccounted shape.leaf_numbers (leaves_of_tree v)) seen lawful.leaves in
    omega (arith, counted_times shape.leaf_numbers (leaves t) k c)

-- what is in use was drawn
pub used_drawn : (v : NumbersView) (used : List ℕ) (k : ℕ) → AreNumbersAccounted v used → 1 ≤ times_in k used → k < v.drawn
used_drawn v used k c h = elim (leb_tells v.drawn k) [ inl w ↦ absurd (omega (arith, c.not_drawn k w.1)) | inr w ↦ w.1 ]

part_counts : (k : ℕ) (l r t : Tree) → IsSubtree (inner k l r) t → 1 ≤ times k t
part_counts k l r (leaf n) e = cc
part_counts k l r (inner n a b) (inl e) = let same : k ≡ n = cc in omega (arith, one_same n, ap (λ v. mark v n) same)
part_counts k l r (inner n a b) (inr (inl p)) = omega (arith, part_counts k l r a p)
part_counts k l r (inner n a b) (inr (inr p)) = omega (arith, part_counts k l r b p)

-- each row's node has a place
pub placed : (shape : ShapeView) (t : Tree) (slots : ℕ) (xs : List DirtyRow) → IsLawfulShape shape → shape.tree ≡ Some t → shape.inner_numbers.drawn ≤ slots → All (HasChildren shape.tree) xs → All (λ row. row.node < slots) xs
placed shape t slots xs lawful seen many all =
    let c : AreNumbersAccounted shape.inner_numbers (inner_node_numbers t) = subst (λ v. AreNumbersAccounted shape.inner_numbers (inners_of_tree v)) seen lawful.inners in
    let here : All (HasChildren (Some t)) xs = subst (λ v. All (HasChildren v) xs) seen all in
    All-weaker (HasChildren (Some t)) (λ row. row.node < slots) (λ row h. omega (arith, used_drawn shape.inner_numbers (inner_node_numbers t) row.node c (omega (arith, times_inners row.node t, part_counts row.node h.0 h.1 t h.2)))) xs here

-- the rooms of leaves with one leaf's new room
pub rooms_then : {V R : Type 0} (room : V → R) (before then : ℕ → Option V) (n : ℕ) (v : V) → then n ≡ Some v → ((k : ℕ) → k ≢ n → then k ≡ before k) → (k : ℕ) → with_node (λ k. option_map room (before k)) n (Some (room v)) k ≡ option_map room (then k)
rooms_then room before then n v here others k = elim (set_node (λ k. option_map room (before k)) n (Some (room v)) k) [
  | inl w ↦ w.1 ∙ sym (ap (λ m. option_map room (then m)) w.0 ∙ ap (option_map room) here)
  | inr w ↦ w.1 ∙ ap (option_map room) (sym (others k w.0))
]

there_then_of : {V : Type 0} (before then : ℕ → Option V) (number : ℕ) (v : V) (ns : List ℕ) → AreThere before ns → then number ≡ Some v → ((k : ℕ) → k ≢ number → then k ≡ before k) → AreThere then ns
there_then_of before then number v [] there here others = tt
there_then_of before then number v (n ∷ ns) there here others =
    let rest = there_then_of before then number v ns there.1 here others in
    elim (mark_is_one_or_none n number) [ inl w ↦ ((v, ap then w.0 ∙ here), rest) | inr w ↦ ((there.0.0, others n w.0 ∙ there.0.1), rest) ]

there_take : {V : Type 0} (leaf_at : ℕ → Option V) (i : ℕ) (ns : List ℕ) → AreThere leaf_at ns → AreThere leaf_at (take i ns)
there_take leaf_at zero ns h = tt
there_take leaf_at (suc i) [] h = tt
there_take leaf_at (suc i) (n ∷ ns) h = (h.0, there_take leaf_at i ns h.1)

there_drop : {V : Type 0} (leaf_at : ℕ → Option V) (i : ℕ) (ns : List ℕ) → AreThere leaf_at ns → AreThere leaf_at (drop i ns)
there_drop leaf_at zero ns h = h
there_drop leaf_at (suc i) [] h = tt
there_drop leaf_at (suc i) (n ∷ ns) h = there_drop leaf_at i ns h.1

first_inserted : {V : Type 0} (at : ℕ) (v : V) → list_inserted at v [] ≡ v ∷ []
first_inserted zero v = refl
first_inserted (suc at) v = refl

-- the same leaf values, where each leaf of the tree has what it had
pub values_same : {V : Type 0} (before end : ℕ → Option V) (o : Option Tree) → ((k : ℕ) → 1 ≤ times_in k (leaves_of_tree o) → before k ≡ end k) → leaf_values before o ≡ leaf_values end o
values_same before end None same = refl
values_same before end (Some t) same = gathered_same before end (leaves t) same

-- an insertion draws one inner number at most
pub inners_drawn : (o : Option Tree) (v : NumbersView) → (inners_with o v).drawn ≤ v.drawn + 1
inners_drawn None v = omega arith
inners_drawn (Some t) v = taken_drawn v

-- a removal draws none
pub inners_back : (at : ℕ) (o : Option Tree) (v : NumbersView) → (inners_without at o v).drawn ≡ v.drawn
inners_back at None v = refl
inners_back at (Some (leaf n)) v = refl
inners_back at (Some (inner n l r)) v = refl

-- each row's node has a place, also in a tree without a leaf
pub placed_all : (o : Option Tree) (shape : ShapeView) (slots : ℕ) (xs : List DirtyRow) → IsLawfulShape shape → shape.tree ≡ o → shape.inner_numbers.drawn ≤ slots → All (HasChildren shape.tree) xs → All (λ row. row.node < slots) xs
placed_all (Some t) shape slots xs lawful seen many all = placed shape t slots xs lawful seen many all
placed_all None shape slots xs lawful seen many all = All-weaker (HasChildren None) (λ row. row.node < slots) (λ row h. absurd h.2) xs (subst (λ v. All (HasChildren v) xs) seen all)

once_then : (k number : ℕ) (t : Tree) {after : ℕ} → times number t ≡ 0 → times k t ≤ 1 → after ≡ mark k number + times k t → after ≤ 1
once_then k number t none once e = elim (mark_is_one_or_none k number) [ inl w ↦ omega (arith, e, w.1, none, ap (λ v. times v t) w.0) | inr w ↦ omega (arith, e, w.1) ]

-- a tree with a leaf
pub some_tree : (o : Option Tree) (at : ℕ) → at < leaf_count_of o → (t : Tree) × (o ≡ Some t)
some_tree None at h = absurd (omega arith)
some_tree (Some t) at h = (t, refl)

module _ {V R : Type 0} (join : V → V → V) (fits : V → V → Type 0) (cost : V → ℕ) (room : V → R) (after : R → R → R) (within : R → R → Type 0) (sound : List V → Type 0) (stands : List V → V → Type 0) where
  -- along a plan's rows each part is there with its room, and afterwards the tree's values are kept
  pub record Changed (leaf_then nodes : ℕ → Option V) (p : Plan) (rs : List R) : Type 0 where
    pub steps : FitSteps join fits room after within leaf_then nodes (rows p) rs
    pub keeps : KeepsNodeValues join leaf_then (values_refreshed join leaf_then nodes (rows p)) (tree_of_plan p)
    pub few : (each : ℕ) → Costs stands cost each (values_of_numbers leaf_then (leaves (tree_of_plan p))) → steps_of_rows join cost leaf_then nodes (rows p) ≤ 3 * each * length (rows p)

  -- a plan whose parts are kept, over leaves that may stand in one tree, can be composed anew
  pub changed : StandLaws sound stands join fits → RoomLaws join fits room after within → ((xs : List V) → sound xs → (each : ℕ) × Costs stands cost each xs)
      → (leaf_then nodes : ℕ → Option V) (room_at rooms : ℕ → Option R) (p : Plan) → KeptBy (KeepsNodeValues join leaf_then nodes) p → ((k : ℕ) → times k (tree_of_plan p) ≤ 1)
      → AreThere leaf_then (leaves (tree_of_plan p)) → sound (values_of_numbers leaf_then (leaves (tree_of_plan p))) → ((k : ℕ) → room_at k ≡ option_map room (leaf_then k)) → ((k : ℕ) → rooms k ≡ option_map room (nodes k))
      → (rs : List R) → map (λ r. Some r) rs ≡ composed_all after room_at rooms (rows p) → Changed leaf_then nodes p rs
  changed stand_laws room_laws cost_law leaf_then nodes room_at rooms p keeps once there s of_leaf of_node rs e =
      let xs = values_of_numbers leaf_then (leaves (tree_of_plan p)) in
      let some_cost = cost_law xs s in
      let whole = standing sound stands join fits cost leaf_then stand_laws some_cost.0 (tree_of_plan p) there s some_cost.1 in
      let bounded = kept_weaker _ _ (λ t h. bounded_kept join leaf_then room within room_laws.same room_at rooms nodes of_leaf of_node t h.0 h.1) p (kept_both (KeepsNodeValues join leaf_then nodes) (λ t. AreThere leaf_then (leaves t)) p keeps (kept_there join leaf_then p there)) in
      let f = fit_steps join fits cost room after within (3 * some_cost.0) leaf_then room_at room_laws nodes rooms p (record { keeps = keeps; once = once }) bounded whole.fit rs e in
      record {
        steps = f.steps;
        keeps = keeps_refreshed join leaf_then nodes p (record { keeps = keeps; once = once });
        few = λ each costs.
            let fit = (standing sound stands join fits cost leaf_then stand_laws each (tree_of_plan p) there s costs).fit in
            (fit_steps join fits cost room after within (3 * each) leaf_then room_at room_laws nodes rooms p (record { keeps = keeps; once = once }) bounded fit rs e).few;
      }

  -- what is kept at the end
  pub ended : (leaf_then leaf_end nodes nodes_end : ℕ → Option V) (p : Plan) (rs : List R) (shape : ShapeView) (slots : ℕ) → shape.tree ≡ Some (tree_of_plan p) → Changed leaf_then nodes p rs
      → ((k : ℕ) → leaf_end k ≡ leaf_then k) → ((k : ℕ) → nodes_end k ≡ values_refreshed join leaf_then nodes (rows p) k)
      → AreThere leaf_then (leaves (tree_of_plan p)) → sound (values_of_numbers leaf_then (leaves (tree_of_plan p))) → shape.leaf_numbers.drawn ≤ slots → shape.inner_numbers.drawn ≤ slots → KeepsLeafValues join sound leaf_end nodes_end slots shape
  ended leaf_then leaf_end nodes nodes_end p rs shape slots seen c same_leaves same_nodes there s some more =
      let t = tree_of_plan p in
      let same : values_of_numbers leaf_then (leaves t) ≡ values_of_numbers leaf_end (leaves t) = gathered_same leaf_then leaf_end (leaves t) (λ k h. sym (same_leaves k)) in
      let at_end : KeepsNodeValues join leaf_end nodes_end t = keeps_leaves join leaf_then leaf_end nodes_end t (λ k h. sym (same_leaves k)) (frame_keeps join leaf_then (values_refreshed join leaf_then nodes (rows p)) nodes_end t (λ k h. sym (same_nodes k)) c.keeps) in
      record {
        there = subst (λ v. AreThere leaf_end (leaves_of_tree v)) (sym seen) (there_same leaf_then leaf_end (leaves t) (λ k h. sym (same_leaves k)) there);
        sound_leaves = subst (λ v. sound (leaf_values leaf_end v)) (sym seen) (subst sound same s);
        keeps = subst (KeepsAll join leaf_end nodes_end) (sym seen) at_end;
        leaf_slots = some;
        inner_slots = more;
      }

  -- one change of the tree: what its leaves are then, and that its rows can be composed anew
  pub record Step (before then nodes : ℕ → Option V) (p : Plan) (rs : List R) (old : Tree) (leaves_then : List V) : Type 0 where
    pub there : AreThere then (leaves (tree_of_plan p))
    pub values : values_of_numbers then (leaves (tree_of_plan p)) ≡ leaves_then
    pub sound_then : sound (values_of_numbers then (leaves (tree_of_plan p)))
    pub change : Changed then nodes p rs

  -- another value at a leaf
  pub replace_step : StandLaws sound stands join fits → RoomLaws join fits room after within → ((xs : List V) → sound xs → (each : ℕ) × Costs stands cost each xs)
      → (before then nodes_before nodes : ℕ → Option V) (number at : ℕ) (v : V) (t : Tree) → ((k : ℕ) → times k t ≤ 1) → ((k : ℕ) → times_in k (leaves t) ≤ 1) → at < count t → slice_index (leaves t) at ≡ number
      → AreThere before (leaves t) → KeepsNodeValues join before nodes_before t → then number ≡ Some v → ((k : ℕ) → k ≢ number → then k ≡ before k) → ((k : ℕ) → nodes k ≡ nodes_before k)
      → sound (slice_set (values_of_numbers before (leaves t)) at v)
      → (rs : List R) → map (λ r. Some r) rs ≡ composed_all after (with_node (λ k. option_map room (before k)) number (Some (room v))) (λ k. option_map room (nodes_before k)) (rows (plan_touched at t))
      → Step before then nodes (plan_touched at t) rs t (slice_set (values_of_numbers before (leaves t)) at v)
  replace_step stand_laws room_laws cost_law before then nodes_before nodes number at v t once leaf_once place named there keeps here others same s rs e =
      let p = plan_touched at t in
      let same_tree = erase_touched at t in
      let keeps_now : KeepsNodeValues join before nodes t = frame_keeps join before nodes_before nodes t (λ k h. sym (same k)) keeps in
      let there_then : AreThere then (leaves t) = there_then_of before then number v (leaves t) there here others in
      let values : values_of_numbers then (leaves t) ≡ slice_set (values_of_numbers before (leaves t)) at v = gathered_replaced before then at number v (leaves t) there (omega (arith, length_leaves t)) named (leaf_once number) here others in
      let there_p : AreThere then (leaves (tree_of_plan p)) = subst (λ u. AreThere then (leaves u)) (sym same_tree) there_then in
      let values_p : values_of_numbers then (leaves (tree_of_plan p)) ≡ slice_set (values_of_numbers before (leaves t)) at v = ap (λ u. values_of_numbers then (leaves u)) same_tree ∙ values in
      let sound_p : sound (values_of_numbers then (leaves (tree_of_plan p))) = subst sound (sym values_p) s in
      record {
        there = there_p;
        values = values_p;
        sound_then = sound_p;
        change = changed stand_laws room_laws cost_law then nodes (with_node (λ k. option_map room (before k)) number (Some (room v))) (λ k. option_map room (nodes_before k)) p
            (kept_touched join before then nodes number others at t place named (leaf_once number) keeps_now)
            (λ k. omega (arith, once k, ap (times k) same_tree))
            there_p sound_p (rooms_then room before then number v here others) (λ k. ap (option_map room) (sym (same k))) rs e;
      }

  -- a leaf more in a tree that has one
  pub insert_step : StandLaws sound stands join fits → RoomLaws join fits room after within → ((xs : List V) → sound xs → (each : ℕ) × Costs stands cost each xs)
      → (before then nodes_before nodes : ℕ → Option V) (new number at : ℕ) (v : V) (t : Tree) → ((k : ℕ) → times k (tree_of_plan (plan_grown at new number t)) ≤ 1) → times_in new (leaves t) ≡ 0 → at ≤ count t
      → AreThere before (leaves t) → KeepsNodeValues join before nodes_before t → then new ≡ Some v → ((k : ℕ) → k ≢ new → then k ≡ before k) → ((k : ℕ) → nodes k ≡ nodes_before k)
      → sound (list_inserted at v (values_of_numbers before (leaves t)))
      → (rs : List R) → map (λ r. Some r) rs ≡ composed_all after (with_node (λ k. option_map room (before k)) new (Some (room v))) (λ k. option_map room (nodes_before k)) (rows (plan_grown at new number t))
      → Step before then nodes (plan_grown at new number t) rs t (list_inserted at v (values_of_numbers before (leaves t)))
  insert_step stand_laws room_laws cost_law before then nodes_before nodes new number at v t once fresh place there keeps here others same s rs e =
      let p = plan_grown at new number t in
      let list : leaves (tree_of_plan p) ≡ list_inserted at new (leaves t) = leaves_grown at new number t place in
      let keeps_now : KeepsNodeValues join before nodes t = frame_keeps join before nodes_before nodes t (λ k h. sym (same k)) keeps in
      let there_then : AreThere then (leaves t) = there_then_of before then new v (leaves t) there here others in
      let there_p : AreThere then (leaves (tree_of_plan p)) = subst (AreThere then) (sym list) (there_both then (take at (leaves t)) (new ∷ drop at (leaves t)) (there_take then at (leaves t) there_then) ((v, here), there_drop then at (leaves t) there_then)) in
      let values_p : values_of_numbers then (leaves (tree_of_plan p)) ≡ list_inserted at v (values_of_numbers before (leaves t)) = ap (values_of_numbers then) list ∙ gathered_inserted before then at new v (leaves t) there fresh here others in
      let sound_p : sound (values_of_numbers then (leaves (tree_of_plan p))) = subst sound (sym values_p) s in
      record {
        there = there_p;
        values = values_p;
        sound_then = sound_p;
        change = changed stand_laws room_laws cost_law then nodes (with_node (λ k. option_map room (before k)) new (Some (room v))) (λ k. option_map room (nodes_before k)) p
            (kept_inserted join before then nodes new others at number t fresh keeps_now) once
            there_p sound_p (rooms_then room before then new v here others) (λ k. ap (option_map room) (sym (same k))) rs e;
      }

  -- a leaf less in a tree that has another
  pub remove_step : StandLaws sound stands join fits → RoomLaws join fits room after within → ((xs : List V) → sound xs → (each : ℕ) × Costs stands cost each xs)
      → (leaf_at nodes : ℕ → Option V) (at : ℕ) (t : Tree) → ((k : ℕ) → times k (tree_of_plan (plan_shrunk at t)) ≤ 1) → IsInner t → at < count t
      → AreThere leaf_at (leaves t) → KeepsNodeValues join leaf_at nodes t → sound (list_removed at (values_of_numbers leaf_at (leaves t)))
      → (rs : List R) → map (λ r. Some r) rs ≡ composed_all after (λ k. option_map room (leaf_at k)) (λ k. option_map room (nodes k)) (rows (plan_shrunk at t))
      → Step leaf_at leaf_at nodes (plan_shrunk at t) rs t (list_removed at (values_of_numbers leaf_at (leaves t)))
  remove_step stand_laws room_laws cost_law leaf_at nodes at t once is_inner place there keeps s rs e =
      let p = plan_shrunk at t in
      let list : leaves (tree_of_plan p) ≡ list_removed at (leaves t) = leaves_shrunk at t place is_inner in
      let there_p : AreThere leaf_at (leaves (tree_of_plan p)) = subst (AreThere leaf_at) (sym list) (there_both leaf_at (take at (leaves t)) (drop (at + 1) (leaves t)) (there_take leaf_at at (leaves t) there) (there_drop leaf_at (at + 1) (leaves t) there)) in
      let values_p : values_of_numbers leaf_at (leaves (tree_of_plan p)) ≡ list_removed at (values_of_numbers leaf_at (leaves t)) = ap (values_of_numbers leaf_at) list ∙ gathered_removed leaf_at at (leaves t) there in
      let sound_p : sound (values_of_numbers leaf_at (leaves (tree_of_plan p))) = subst sound (sym values_p) s in
      record {
        there = there_p;
        values = values_p;
        sound_then = sound_p;
        change = changed stand_laws room_laws cost_law leaf_at nodes (λ k. option_map room (leaf_at k)) (λ k. option_map room (nodes k)) p
            (kept_removed join leaf_at nodes at t keeps) once there_p sound_p (λ k. refl) (λ k. refl) rs e;
      }

  -- a leaf more in any tree
  pub insert_any : StandLaws sound stands join fits → RoomLaws join fits room after within → ((xs : List V) → sound xs → (each : ℕ) × Costs stands cost each xs)
      → (before then nodes_before nodes : ℕ → Option V) (new number at : ℕ) (v : V) (o : Option Tree) → ((k : ℕ) → times k (tree_with at new number o) ≤ 1) → times_in new (leaves_of_tree o) ≡ 0 → at ≤ leaf_count_of o
      → AreThere before (leaves_of_tree o) → KeepsAll join before nodes_before o → then new ≡ Some v → ((k : ℕ) → k ≢ new → then k ≡ before k) → ((k : ℕ) → nodes k ≡ nodes_before k)
      → sound (list_inserted at v (leaf_values before o))
      → (rs : List R) → map (λ r. Some r) rs ≡ composed_all after (with_node (λ k. option_map room (before k)) new (Some (room v))) (λ k. option_map room (nodes_before k)) (rows_with at new number o)
      → (p : Plan) × (tree_with at new number o ≡ tree_of_plan p) × (rows_with at new number o ≡ rows p) × Step before then nodes p rs (leaf new) (list_inserted at v (leaf_values before o))
  insert_any stand_laws room_laws cost_law before then nodes_before nodes new number at v None once fresh place there keeps here others same s rs e =
      let only : list_inserted at v (leaf_values before None) ≡ v ∷ [] = first_inserted at v in
      let values : values_of_numbers then (leaves (leaf new)) ≡ list_inserted at v (leaf_values before None) = ap (λ o. joined_on o []) here ∙ sym only in
      let sound_then : sound (values_of_numbers then (leaves (leaf new))) = subst sound (sym values) s in (
        kept (leaf new),
        refl,
        refl,
        record {
          there = ((v, here), tt);
          values = values;
          sound_then = sound_then;
          change = changed stand_laws room_laws cost_law then nodes (with_node (λ k. option_map room (before k)) new (Some (room v))) (λ k. option_map room (nodes_before k)) (kept (leaf new)) tt once
              ((v, here), tt) sound_then (rooms_then room before then new v here others) (λ k. ap (option_map room) (sym (same k))) rs e;
        },
      )
  insert_any stand_laws room_laws cost_law before then nodes_before nodes new number at v (Some t) once fresh place there keeps here others same s rs e =
      let w = insert_step stand_laws room_laws cost_law before then nodes_before nodes new number at v t once fresh place there keeps here others same s rs e in
      (plan_grown at new number t, refl, refl, record { there = w.there; values = w.values; sound_then = w.sound_then; change = w.change })

  -- the last leaf goes, or one of several
  pub remove_any : StandLaws sound stands join fits → RoomLaws join fits room after within → ((xs : List V) → sound xs → (each : ℕ) × Costs stands cost each xs)
      → (leaf_at nodes : ℕ → Option V) (at : ℕ) (t : Tree) → IsInner t → ((k : ℕ) → times k t ≤ 1) → at < count t
      → AreThere leaf_at (leaves t) → KeepsNodeValues join leaf_at nodes t → sound (list_removed at (values_of_numbers leaf_at (leaves t)))
      → (rs : List R) → map (λ r. Some r) rs ≡ composed_all after (λ k. option_map room (leaf_at k)) (λ k. option_map room (nodes k)) (rows (plan_shrunk at t))
      → Step leaf_at leaf_at nodes (plan_shrunk at t) rs t (list_removed at (values_of_numbers leaf_at (leaves t)))
  remove_any stand_laws room_laws cost_law leaf_at nodes at t is_inner once place there keeps s rs e =
      remove_step stand_laws room_laws cost_law leaf_at nodes at t (λ k. omega (arith, once k, shrunk_times k at t is_inner)) is_inner place there keeps s rs e

  -- what a removal leaves, also of the last leaf
  pub record Removal (leaf_at nodes : ℕ → Option V) (at : ℕ) (rs : List R) (o : Option Tree) : Type 0 where
    pub steps : FitSteps join fits room after within leaf_at nodes (rows_without at o) rs
    pub there : AreThere leaf_at (leaves_of_tree (tree_without at o))
    pub values : leaf_values leaf_at (tree_without at o) ≡ list_removed at (leaf_values leaf_at o)
    pub sound_then : sound (leaf_values leaf_at (tree_without at o))
    pub keeps : KeepsAll join leaf_at (values_refreshed join leaf_at nodes (rows_without at o)) (tree_without at o)
    pub few : (each : ℕ) → Costs stands cost each (leaf_values leaf_at (tree_without at o)) → steps_of_rows join cost leaf_at nodes (rows_without at o) ≤ 3 * each * length (rows_without at o)

  -- what a removal leaves of any tree
  pub removal : StandLaws sound stands join fits → RoomLaws join fits room after within → ((xs : List V) → sound xs → (each : ℕ) × Costs stands cost each xs)
      → (leaf_at nodes : ℕ → Option V) (at : ℕ) (t : Tree) → ((k : ℕ) → times k t ≤ 1) → at < count t
      → AreThere leaf_at (leaves t) → KeepsNodeValues join leaf_at nodes t → sound (list_removed at (values_of_numbers leaf_at (leaves t)))
      → (rs : List R) → map (λ r. Some r) rs ≡ composed_all after (λ k. option_map room (leaf_at k)) (λ k. option_map room (nodes k)) (rows_without at (Some t))
      → Removal leaf_at nodes at rs (Some t)
  removal stand_laws room_laws cost_law leaf_at nodes zero (leaf n) once place there keeps s rs e =
      let none : list_removed zero (values_of_numbers leaf_at (n ∷ [])) ≡ [] = ap (λ o. list_removed zero (joined_on o [])) there.0.1 in
      record { steps = tt; there = tt; values = sym none; sound_then = subst sound none s; keeps = tt; few = λ each costs. omega arith }
  removal stand_laws room_laws cost_law leaf_at nodes (suc at) (leaf n) once place there keeps s rs e = absurd (omega arith)
  removal stand_laws room_laws cost_law leaf_at nodes at (inner n l r) once place there keeps s rs e =
      let w = remove_any stand_laws room_laws cost_law leaf_at nodes at (inner n l r) tt once place there keeps s rs e in
      record { steps = w.change.steps; there = w.there; values = w.values; sound_then = w.sound_then; keeps = w.change.keeps; few = w.change.few }

  -- what is kept after a removal
  pub kept_end : (before end nodes nodes_end : ℕ → Option V) (o : Option Tree) (shape : ShapeView) (slots : ℕ) → shape.tree ≡ o
      → AreThere before (leaves_of_tree o) → sound (leaf_values before o) → KeepsAll join before nodes o
      → ((k : ℕ) → 1 ≤ times_in k (leaves_of_tree o) → before k ≡ end k) → ((k : ℕ) → 1 ≤ times_in k (inners_of_tree o) → nodes_end k ≡ nodes k)
      → shape.leaf_numbers.drawn ≤ slots → shape.inner_numbers.drawn ≤ slots → KeepsLeafValues join sound end nodes_end slots shape
  kept_end before end nodes nodes_end None shape slots seen there s keeps same same_nodes some more =
      record { there = subst (λ v. AreThere end (leaves_of_tree v)) (sym seen) tt; sound_leaves = subst (λ v. sound (leaf_values end v)) (sym seen) s; keeps = subst (KeepsAll join end nodes_end) (sym seen) tt; leaf_slots = some; inner_slots = more }
  kept_end before end nodes nodes_end (Some t) shape slots seen there s keeps same same_nodes some more =
      record {
        there = subst (λ v. AreThere end (leaves_of_tree v)) (sym seen) (there_same before end (leaves t) same there);
        sound_leaves = subst (λ v. sound (leaf_values end v)) (sym seen) (subst sound (gathered_same before end (leaves t) same) s);
        keeps = subst (KeepsAll join end nodes_end) (sym seen) (keeps_leaves join before end nodes_end t same (frame_keeps join before nodes nodes_end t (λ k h. sym (same_nodes k (omega (arith, times_inners k t, h)))) keeps));
        leaf_slots = some;
        inner_slots = more;
      }

  -- the root's value stands for all leaves
  pub root_stands : StandLaws sound stands join fits → ((xs : List V) → sound xs → (each : ℕ) × Costs stands cost each xs) → (leaf_at nodes : ℕ → Option V) (o : Option Tree) (root : Option Child) → root ≡ option_map name o
      → AreThere leaf_at (leaves_of_tree o) → sound (leaf_values leaf_at o) → KeepsAll join leaf_at nodes o → IfSome root (λ child. (v : V) × (part leaf_at nodes child ≡ Some v) × stands (leaf_values leaf_at o) v)
  root_stands stand_laws cost_law leaf_at nodes None root e there s k = subst (λ r. IfSome r (λ child. (v : V) × (part leaf_at nodes child ≡ Some v) × stands [] v)) (sym e) tt
  root_stands stand_laws cost_law leaf_at nodes (Some t) root e there s k =
      let xs = values_of_numbers leaf_at (leaves t) in
      let some_cost = cost_law xs s in
      let w = standing sound stands join fits cost leaf_at stand_laws some_cost.0 t there s some_cost.1 in
      subst (λ r. IfSome r (λ child. (v : V) × (part leaf_at nodes child ≡ Some v) × stands xs v)) (sym e) (w.v, value_of_child join leaf_at nodes t k ∙ w.value_is, w.stands_for)

-- The rooms of a change are there.
module _ {V R : Type 0} (join : V → V → V) (room : V → R) (after : R → R → R) (leaf_at nodes : ℕ → Option V) where
  -- what a part that stays has: its values, if it is an inner node
  abbrev pub HasValues : Tree → Type 0
  HasValues (leaf n) = Unit {0}
  HasValues (inner n l r) = AreThere leaf_at (leaves (inner n l r)) × KeepsNodeValues join leaf_at nodes (inner n l r)

  has_values : (t : Tree) → AreThere leaf_at (leaves t) → KeepsNodeValues join leaf_at nodes t → HasValues t
  has_values (leaf n) h k = tt
  has_values (inner n l r) h k = (h, k)

  values_go_down : GoesDown HasValues
  values_go_down = record {
    leaf_has = λ n. tt;
    parts_have = λ n l r h. (has_values l (there_front leaf_at (leaves l) (leaves r) h.0) h.1.1, has_values r (there_back leaf_at (leaves l) (leaves r) h.0) h.1.2);
  }

  part_room : (room_at : ℕ → Option R) (t : Tree) → AreThere room_at (leaves t) × HasValues t → IsThere (part room_at (λ k. option_map room (nodes k)) (name t))
  part_room room_at (leaf n) h = h.0.0
  part_room room_at (inner n l r) h = let v = value_there join leaf_at (inner n l r) h.1.0 in (room v.0, ap (option_map room) (h.1.1.0 ∙ v.1))

  pub plan_rooms : (room_at : ℕ → Option R) (p : Plan) → ((k : ℕ) → times k (tree_of_plan p) ≤ 1) → AreThere room_at (leaves (tree_of_plan p)) → KeptBy HasValues p → (rs : List R) × (map (λ r. Some r) rs ≡ composed_all after room_at (λ k. option_map room (nodes k)) (rows p))
  plan_rooms room_at p once there h =
      let w = rooms_there after room_at (λ k. option_map room (nodes k)) p once (kept_weaker _ _ (part_room room_at) p (kept_both (λ t. AreThere room_at (leaves t)) HasValues p (kept_there (λ a b. a) room_at p there) h)) in
      (w.rs, w.all)

  rooms_over : (n : ℕ) (r : R) (ns : List ℕ) → AreThere leaf_at ns → AreThere (with_node (λ k. option_map room (leaf_at k)) n (Some r)) ns
  rooms_over n r [] h = tt
  rooms_over n r (m ∷ ns) h = (elim (set_node (λ k. option_map room (leaf_at k)) n (Some r) m) [ inl w ↦ (r, w.1) | inr w ↦ (room h.0.0, w.1 ∙ ap (option_map room) h.0.1) ], rooms_over n r ns h.1)

  pub rooms_plain : (ns : List ℕ) → AreThere leaf_at ns → AreThere (λ k. option_map room (leaf_at k)) ns
  rooms_plain [] h = tt
  rooms_plain (m ∷ ns) h = ((room h.0.0, ap (option_map room) h.0.1), rooms_plain ns h.1)

  kept_touched_values : (at : ℕ) (t : Tree) → AreThere leaf_at (leaves t) → KeepsNodeValues join leaf_at nodes t → KeptBy HasValues (plan_touched at t)
  kept_touched_values at (leaf n) h k = tt
  kept_touched_values at (inner n l r) h k =
      let hl = there_front leaf_at (leaves l) (leaves r) h in
      let hr = there_back leaf_at (leaves l) (leaves r) h in
      both_ways (KeptBy HasValues) (nat_lt at (count l)) _ _ (kept_touched_values at l hl k.1, has_values r hr k.2) (kept_touched_values (at - count l) r hr k.2, has_values l hl k.1)

  -- the rooms for another value at a leaf are found
  pub rooms_replace : (n at : ℕ) (r : R) (o : Option Tree) (shape : ShapeView) → IsLawfulShape shape → shape.tree ≡ o → AreThere leaf_at (leaves_of_tree o) → KeepsAll join leaf_at nodes o
      → (rs : List R) × (map (λ r. Some r) rs ≡ composed_all after (with_node (λ k. option_map room (leaf_at k)) n (Some r)) (λ k. option_map room (nodes k)) (rows_above at o))
  rooms_replace n at r None shape lawful seen h k = ([], refl)
  rooms_replace n at r (Some t) shape lawful seen h k =
      let same = erase_touched at t in
      plan_rooms (with_node (λ k. option_map room (leaf_at k)) n (Some r)) (plan_touched at t) (λ k. omega (arith, once_of shape t lawful seen k, ap (times k) same))
      (subst (λ u. AreThere (with_node (λ k. option_map room (leaf_at k)) n (Some r)) (leaves u)) (sym same) (rooms_over n r (leaves t) h)) (kept_touched_values at t h k)

  -- the rooms for a leaf more are found
  pub rooms_insert : (at : ℕ) (r : R) (o : Option Tree) (shape : ShapeView) → IsLawfulShape shape → shape.tree ≡ o → at ≤ leaf_count_of o → AreThere leaf_at (leaves_of_tree o) → KeepsAll join leaf_at nodes o
      → (rs : List R) × (map (λ r. Some r) rs ≡ composed_all after (with_node (λ k. option_map room (leaf_at k)) (next_number shape.leaf_numbers) (Some r)) (λ k. option_map room (nodes k)) (rows_with at (next_number shape.leaf_numbers) (next_number shape.inner_numbers) o))
  rooms_insert at r None shape lawful seen place h k = ([], refl)
  rooms_insert at r (Some t) shape lawful seen place h k =
      let new = next_number shape.leaf_numbers in
      let number = next_number shape.inner_numbers in
      let base = with_node (λ k. option_map room (leaf_at k)) new (Some r) in
      let p = plan_grown at new number t in
      let list : leaves (tree_of_plan p) ≡ list_inserted at new (leaves t) = leaves_grown at new number t place in
      let over = rooms_over new r (leaves t) h in
      let own : IsThere (base new) = elim (set_node (λ k. option_map room (leaf_at k)) new (Some r) new) [ inl w ↦ (r, w.1) | inr w ↦ absurd (w.0 refl) ] in
      let c : AreNumbersAccounted shape.inner_numbers (inner_node_numbers t) = subst (λ v. AreNumbersAccounted shape.inner_numbers (inners_of_tree v)) seen lawful.inners in
      plan_rooms base p (λ k. once_then k number t (omega (arith, times_inners number t, fresh shape.inner_numbers (inner_node_numbers t) c)) (once_of shape t lawful seen k) (times_grown k at new number t))
      (subst (AreThere base) (sym list) (there_both base (take at (leaves t)) (new ∷ drop at (leaves t)) (there_take base at (leaves t) over) (own, there_drop base at (leaves t) over)))
      (kept_by_grown HasValues values_go_down at new number t (has_values t h k))

  -- the rooms for a leaf less are found
  pub rooms_remove : (at : ℕ) (o : Option Tree) (shape : ShapeView) → IsLawfulShape shape → shape.tree ≡ o → at < leaf_count_of o → AreThere leaf_at (leaves_of_tree o) → KeepsAll join leaf_at nodes o
      → (rs : List R) × (map (λ r. Some r) rs ≡ composed_all after (λ k. option_map room (leaf_at k)) (λ k. option_map room (nodes k)) (rows_without at o))
  rooms_remove at None shape lawful seen place h k = ([], refl)
  rooms_remove at (Some (leaf n)) shape lawful seen place h k = ([], refl)
  rooms_remove at (Some (inner n l r)) shape lawful seen place h k =
      let t = inner n l r in
      let list : leaves (tree_of_plan (plan_shrunk at t)) ≡ list_removed at (leaves t) = leaves_shrunk at t place tt in
      let plain = rooms_plain (leaves t) h in
      let base : ℕ → Option R = λ k. option_map room (leaf_at k) in
      plan_rooms base (plan_shrunk at t) (λ k. omega (arith, once_of shape t lawful seen k, shrunk_times k at t tt))
      (subst (AreThere base) (sym list) (there_both base (take at (leaves t)) (drop (at + 1) (leaves t)) (there_take base at (leaves t) plain) (there_drop base (at + 1) (leaves t) plain)))
      (kept_by_shrunk HasValues values_go_down at t (h, k))
