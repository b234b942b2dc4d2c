-- The walk over a plan's rows finds each part, and the rooms found along the rows are enough.
use Rattle.std.proofs.Common.{◌≡◌, ◌≢◌, ℕ, zero, suc, ◌+◌, ◌*◌, ◌<◌, ◌≤◌, List, [], ◌∷◌, ◌++◌, map, length, take, drop, Option, Some, None, refl, sym, ◌∙◌, ap, subst, arith, append_assoc, append-nil, length-append, inl, inr}
use Rattle.std.specs.Prelude.{slice_index, slice_set}
use Rattle.std.specs.Option.{option_map}
use Rattle.tree_shape.specs.declared.node.Side.{Side}
use Rattle.tree_shape.specs.declared.node.Side.TheVariants.{Left, Right}
use Rattle.tree_shape.specs.declared.dirty.DirtyRow.{DirtyRow}
use Rattle.tree_shape.specs.Tree.{Tree, leaf, inner, name, leaves}
use Rattle.tree_shape.specs.Plan.{Plan, kept, made, inner_on, tree_of_plan, dirty_row, rows}
use Rattle.tree_shape.specs.Apply.{mark, times, KeptBy}
use Rattle.tree_shape.specs.Numbers.{times_in}
use Rattle.tree_shape.specs.Fewest.{list_inserted, list_removed}
use Rattle.tree_shape.proofs.ArenaChanges.{one_same, made_within, times_inner_on}
use Rattle.tree_shape.specs.Values.{IsThere, AreThere, joined_values, part, with_node, values_of_numbers, joined_on, value, KeepsNodeValues, row_value, values_refreshed, composed_all}
use Rattle.tree_shape.specs.Composing.{FitsStep, FitSteps, StandLaws, RoomLaws, Costs, ValuesFit, IsBounded, composing_steps, steps_of_rows}
use Rattle.tree_shape.proofs.RowWalks.{set_node}
use Rattle.tree_shape.proofs.NodeValues.{split_some, refreshed-append, composed_all-append, refreshed_away, value_of_child, IsRefreshable, near_refreshable, far_refreshable, both_kept}

-- The values of leaves in order.

-- the item at a place is in the list
pub index_times : (at n : ℕ) (ns : List ℕ) → at < length ns → slice_index ns at ≡ n → 1 ≤ times_in n ns
index_times at n [] h e = absurd (omega arith)
index_times zero n (m ∷ ns) h e = let first : m ≡ n = e in omega (arith, one_same n, ap (mark n) first)
index_times (suc at) n (m ∷ ns) h e = let deeper : slice_index ns at ≡ n = e in omega (arith, index_times at n ns (omega arith) deeper)

module _ {V : Type 0} (leaf_at : ℕ → Option V) where
  joined_on-append : (o : Option V) (vs ws : List V) → joined_on o vs ++ ws ≡ joined_on o (vs ++ ws)
  joined_on-append None vs ws = refl
  joined_on-append (Some v) vs ws = refl

  pub gathered-append : (xs ys : List ℕ) → values_of_numbers leaf_at (xs ++ ys) ≡ values_of_numbers leaf_at xs ++ values_of_numbers leaf_at ys
  gathered-append [] ys = refl
  gathered-append (x ∷ xs) ys = ap (joined_on (leaf_at x)) (gathered-append xs ys) ∙ sym (joined_on-append (leaf_at x) (values_of_numbers leaf_at xs) (values_of_numbers leaf_at ys))

  pub there_front : (xs ys : List ℕ) → AreThere leaf_at (xs ++ ys) → AreThere leaf_at xs
  there_front [] ys h = tt
  there_front (x ∷ xs) ys h = (h.0, there_front xs ys h.1)

  pub there_back : (xs ys : List ℕ) → AreThere leaf_at (xs ++ ys) → AreThere leaf_at ys
  there_back [] ys h = h
  there_back (x ∷ xs) ys h = there_back xs ys h.1

  pub there_both : (xs ys : List ℕ) → AreThere leaf_at xs → AreThere leaf_at ys → AreThere leaf_at (xs ++ ys)
  there_both [] ys h k = k
  there_both (x ∷ xs) ys h k = (h.0, there_both xs ys h.1 k)

  pub length_gathered : (ns : List ℕ) → AreThere leaf_at ns → length (values_of_numbers leaf_at ns) ≡ length ns
  length_gathered [] h = refl
  length_gathered (n ∷ ns) h = ap (λ o. length (joined_on o (values_of_numbers leaf_at ns))) h.0.1 ∙ ap suc (length_gathered ns h.1)

  pub gathered_take : (k : ℕ) (ns : List ℕ) → AreThere leaf_at ns → values_of_numbers leaf_at (take k ns) ≡ take k (values_of_numbers leaf_at ns)
  gathered_take zero ns h = refl
  gathered_take (suc k) [] h = refl
  gathered_take (suc k) (n ∷ ns) h =
      ap (λ o. joined_on o (values_of_numbers leaf_at (take k ns))) h.0.1 ∙ (ap (λ v. h.0.0 ∷ v) (gathered_take k ns h.1) ∙ sym (ap (λ o. take (suc k) (joined_on o (values_of_numbers leaf_at ns))) h.0.1))

  pub gathered_drop : (k : ℕ) (ns : List ℕ) → AreThere leaf_at ns → values_of_numbers leaf_at (drop k ns) ≡ drop k (values_of_numbers leaf_at ns)
  gathered_drop zero ns h = refl
  gathered_drop (suc k) [] h = refl
  gathered_drop (suc k) (n ∷ ns) h = gathered_drop k ns h.1 ∙ sym (ap (λ o. drop (suc k) (joined_on o (values_of_numbers leaf_at ns))) h.0.1)

  pub gathered_removed : (at : ℕ) (ns : List ℕ) → AreThere leaf_at ns → values_of_numbers leaf_at (list_removed at ns) ≡ list_removed at (values_of_numbers leaf_at ns)
  gathered_removed at ns h = gathered-append (take at ns) (drop (at + 1) ns) ∙ cc (gathered_take at ns h, gathered_drop (at + 1) ns h)

module _ {V : Type 0} (f g : ℕ → Option V) where
  pub gathered_same : (ns : List ℕ) → ((k : ℕ) → 1 ≤ times_in k ns → f k ≡ g k) → values_of_numbers f ns ≡ values_of_numbers g ns
  gathered_same [] h = refl
  gathered_same (n ∷ ns) h =
      let rest = gathered_same ns (λ k w. h k (omega arith)) in
      let here = h n (omega (arith, one_same n)) in
      cc (rest, here)

  pub there_same : (ns : List ℕ) → ((k : ℕ) → 1 ≤ times_in k ns → f k ≡ g k) → AreThere f ns → AreThere g ns
  there_same [] h t = tt
  there_same (n ∷ ns) h t = ((t.0.0, sym (h n (omega (arith, one_same n))) ∙ t.0.1), there_same ns (λ k w. h k (omega arith)) t.1)

  pub gathered_inserted : (at new : ℕ) (v : V) (ns : List ℕ) → AreThere f ns → times_in new ns ≡ 0 → g new ≡ Some v → ((k : ℕ) → k ≢ new → g k ≡ f k) → values_of_numbers g (list_inserted at new ns) ≡ list_inserted at v (values_of_numbers f ns)
  gathered_inserted at new v ns there fresh here others =
      let same : (k : ℕ) → 1 ≤ times_in k ns → f k ≡ g k = λ k h. sym (others k (λ e. omega (arith, ap (λ n. times_in n ns) e))) in
      let there_then = there_same ns same there in
      let all : values_of_numbers g ns ≡ values_of_numbers f ns = sym (gathered_same ns same) in
      let front : values_of_numbers g (take at ns) ≡ take at (values_of_numbers f ns) = gathered_take g at ns there_then ∙ ap (take at) all in
      let back : values_of_numbers g (drop at ns) ≡ drop at (values_of_numbers f ns) = gathered_drop g at ns there_then ∙ ap (drop at) all in
      gathered-append g (take at ns) (new ∷ drop at ns) ∙ (ap (λ o. values_of_numbers g (take at ns) ++ joined_on o (values_of_numbers g (drop at ns))) here ∙ cc (front, back))

  pub gathered_replaced : (at n : ℕ) (v : V) (ns : List ℕ) → AreThere f ns → at < length ns → slice_index ns at ≡ n → times_in n ns ≤ 1 → g n ≡ Some v → ((k : ℕ) → k ≢ n → g k ≡ f k) → values_of_numbers g ns ≡ slice_set (values_of_numbers f ns) at v
  gathered_replaced at n v [] there h e once here others = absurd (omega arith)
  gathered_replaced zero n v (m ∷ ns) there h e once here others =
      let first : m ≡ n = e in
      let rest : values_of_numbers f ns ≡ values_of_numbers g ns = gathered_same ns (λ k w. sym (others k (λ q. omega (arith, one_same n, ap (mark n) first, ap (λ x. times_in x ns) q)))) in
      let old : values_of_numbers f (m ∷ ns) ≡ there.0.0 ∷ values_of_numbers f ns = ap (λ o. joined_on o (values_of_numbers f ns)) there.0.1 in
      let new : values_of_numbers g (m ∷ ns) ≡ v ∷ values_of_numbers g ns = ap (λ o. joined_on o (values_of_numbers g ns)) (ap g first ∙ here) in
      new ∙ (ap (λ x. v ∷ x) (sym rest) ∙ sym (ap (λ x. slice_set x zero v) old))
  gathered_replaced (suc at) n v (m ∷ ns) there h e once here others =
      let deeper : slice_index ns at ≡ n = e in
      let inside = index_times at n ns (omega arith) deeper in
      let apart : m ≢ n = λ q. omega (arith, one_same n, ap (mark n) q) in
      let rest = gathered_replaced at n v ns there.1 (omega arith) deeper (omega arith) here others in
      let old : values_of_numbers f (m ∷ ns) ≡ there.0.0 ∷ values_of_numbers f ns = ap (λ o. joined_on o (values_of_numbers f ns)) there.0.1 in
      let new : values_of_numbers g (m ∷ ns) ≡ there.0.0 ∷ values_of_numbers g ns = ap (λ o. joined_on o (values_of_numbers g ns)) (others m apart ∙ there.0.1) in
      new ∙ (ap (λ x. there.0.0 ∷ x) rest ∙ sym (ap (λ x. slice_set x (suc at) v) old))

-- What is there below a plan's root.
module _ {V : Type 0} (join : V → V → V) (leaf_at : ℕ → Option V) where
  there_on : (side : Side) (n : ℕ) (a b : Tree) → AreThere leaf_at (leaves (inner_on side n a b)) → AreThere leaf_at (leaves a) × AreThere leaf_at (leaves b)
  there_on Left n a b h = (there_front leaf_at (leaves a) (leaves b) h, there_back leaf_at (leaves a) (leaves b) h)
  there_on Right n a b h = (there_back leaf_at (leaves b) (leaves a) h, there_front leaf_at (leaves b) (leaves a) h)

  pub kept_there : (p : Plan) → AreThere leaf_at (leaves (tree_of_plan p)) → KeptBy (λ t. AreThere leaf_at (leaves t)) p
  kept_there (kept t) h = h
  kept_there (made side n near far) h = let both = there_on side n (tree_of_plan near) (tree_of_plan far) h in (kept_there near both.0, kept_there far both.1)

  pub value_there : (t : Tree) → AreThere leaf_at (leaves t) → IsThere (value join leaf_at t)
  value_there (leaf n) h = h.0
  value_there (inner n l r) h =
      let a = value_there l (there_front leaf_at (leaves l) (leaves r) h) in
      let b = value_there r (there_back leaf_at (leaves l) (leaves r) h) in
      (join a.0 b.0, cc (a.1, b.1))

  -- the room of a part that stays
  pub bounded_kept : {R : Type 0} (room : V → R) (within : R → R → Type 0) → ((r : R) → within r r) → (room_at rooms : ℕ → Option R) (nodes : ℕ → Option V) → ((k : ℕ) → room_at k ≡ option_map room (leaf_at k)) → ((k : ℕ) → rooms k ≡ option_map room (nodes k))
      → (t : Tree) → KeepsNodeValues join leaf_at nodes t → AreThere leaf_at (leaves t) → IsBounded join room within leaf_at room_at rooms t
  bounded_kept room within same room_at rooms nodes of_leaf of_node (leaf n) k h = (h.0.0, room h.0.0, h.0.1, of_leaf n ∙ ap (option_map room) h.0.1, same (room h.0.0))
  bounded_kept room within same room_at rooms nodes of_leaf of_node (inner n l r) k h =
      let v = value_there (inner n l r) h in
      (v.0, room v.0, v.1, of_node n ∙ ap (option_map room) (k.0 ∙ v.1), same (room v.0))

-- A tree's value stands for its leaves.
module _ {V : Type 0} (sound : List V → Type 0) (stands : List V → V → Type 0) (join : V → V → V) (fits : V → V → Type 0) (cost : V → ℕ) (leaf_at : ℕ → Option V) where
  pub record Standing (most : ℕ) (t : Tree) : Type 0 where
    pub v : V
    pub value_is : value join leaf_at t ≡ Some v
    pub stands_for : stands (values_of_numbers leaf_at (leaves t)) v
    pub fit : ValuesFit join fits cost (3 * most) leaf_at t

  costs_front : (most : ℕ) (xs ys : List V) → Costs stands cost most (xs ++ ys) → Costs stands cost most xs
  costs_front most xs ys h before run after v e s =
      h before run (after ++ ys) v (ap (λ w. w ++ ys) e ∙ (append_assoc before (run ++ after) ys ∙ ap (λ w. before ++ w) (append_assoc run after ys))) s

  costs_back : (most : ℕ) (xs ys : List V) → Costs stands cost most (xs ++ ys) → Costs stands cost most ys
  costs_back most xs ys h before run after v e s = h (xs ++ before) run after v (ap (λ w. xs ++ w) e ∙ sym (append_assoc xs before (run ++ after))) s

  whole : (most : ℕ) (xs : List V) (v : V) → Costs stands cost most xs → stands xs v → cost v ≤ most
  whole most xs v h s = h [] xs [] v (sym (append-nil xs)) s

  pub standing : StandLaws sound stands join fits → (most : ℕ) (t : Tree) → AreThere leaf_at (leaves t) → sound (values_of_numbers leaf_at (leaves t)) → Costs stands cost most (values_of_numbers leaf_at (leaves t)) → Standing most t
  standing laws most (leaf n) there s c =
      let only : values_of_numbers leaf_at (n ∷ []) ≡ there.0.0 ∷ [] = ap (λ o. joined_on o []) there.0.1 in
      record { v = there.0.0; value_is = there.0.1; stands_for = rw only (laws.one there.0.0 (rw (← only) s)); fit = there.0 }
  standing laws most (inner n l r) there s c =
      let split = gathered-append leaf_at (leaves l) (leaves r) in
      let xs = values_of_numbers leaf_at (leaves l) in
      let ys = values_of_numbers leaf_at (leaves r) in
      let s_both : sound (xs ++ ys) = subst sound split s in
      let c_both : Costs stands cost most (xs ++ ys) = subst (Costs stands cost most) split c in
      let c_left = costs_front most xs ys c_both in
      let c_right = costs_back most xs ys c_both in
      let a = standing laws most l (there_front leaf_at (leaves l) (leaves r) there) (laws.front xs ys s_both) c_left in
      let b = standing laws most r (there_back leaf_at (leaves l) (leaves r) there) (laws.back xs ys s_both) c_right in
      let both = laws.both xs ys a.v b.v s_both a.stands_for b.stands_for in
      record {
        v = join a.v b.v;
        value_is = cc (a.value_is, b.value_is);
        stands_for = subst (λ w. stands w (join a.v b.v)) (sym split) both.1;
        fit = (a.v, b.v, a.value_is, b.value_is, both.0, omega (arith, whole most xs a.v c_left a.stands_for, whole most ys b.v c_right b.stands_for, whole most (xs ++ ys) (join a.v b.v) c_both both.1), a.fit, b.fit);
      }

-- The rooms along a plan's rows.
module _ {V R : Type 0} (join : V → V → V) (fits : V → V → Type 0) (cost : V → ℕ) (room : V → R) (after : R → R → R) (within : R → R → Type 0) (each : ℕ) (leaf_at : ℕ → Option V) (room_at : ℕ → Option R) where
  FitSteps-append : (nodes : ℕ → Option V) (xs ys : List DirtyRow) (r1 r2 : List R) → length r1 ≡ length xs → FitSteps join fits room after within leaf_at nodes xs r1 → FitSteps join fits room after within leaf_at (values_refreshed join leaf_at nodes xs) ys r2 → FitSteps join fits room after within leaf_at nodes (xs ++ ys) (r1 ++ r2)
  FitSteps-append nodes [] ys [] r2 e f g = g
  FitSteps-append nodes [] ys (r ∷ r1) r2 e f g = absurd (omega (arith, e))
  FitSteps-append nodes (x ∷ xs) ys [] r2 e f g = absurd f
  FitSteps-append nodes (x ∷ xs) ys (r ∷ r1) r2 e f g = (f.0, FitSteps-append (with_node nodes x.node (row_value join leaf_at nodes x)) xs ys r1 r2 (omega (arith, e)) f.1 g)

  length_composed : (rooms : ℕ → Option R) (xs : List DirtyRow) → length (composed_all after room_at rooms xs) ≡ length xs
  length_composed rooms [] = refl
  length_composed rooms (x ∷ xs) = ap suc (length_composed (with_node rooms x.node (row_value after room_at rooms x)) xs)

  length_some : (rs : List R) → length (map (λ r. Some r) rs) ≡ length rs
  length_some [] = refl
  length_some (r ∷ rs) = ap suc (length_some rs)

  frame_bounded : (rooms other : ℕ → Option R) (t : Tree) → ((k : ℕ) → 1 ≤ times k t → rooms k ≡ other k) → IsBounded join room within leaf_at room_at rooms t → IsBounded join room within leaf_at room_at other t
  frame_bounded rooms other (leaf n) same b = b
  frame_bounded rooms other (inner n l r) same b = (b.0, b.1, b.2, sym (same n (omega (arith, one_same n))) ∙ b.3, b.4)

  frame_kept_bounded : (rooms other : ℕ → Option R) (p : Plan) → ((k : ℕ) → 1 ≤ times k (tree_of_plan p) → rooms k ≡ other k) → KeptBy (IsBounded join room within leaf_at room_at rooms) p → KeptBy (IsBounded join room within leaf_at room_at other) p
  frame_kept_bounded rooms other (kept t) same b = frame_bounded rooms other t same b
  frame_kept_bounded rooms other (made side n near far) same b = (
    frame_kept_bounded rooms other near (λ k h. same k (omega (arith, times_inner_on side k n (tree_of_plan near) (tree_of_plan far)))) b.0,
    frame_kept_bounded rooms other far (λ k h. same k (omega (arith, times_inner_on side k n (tree_of_plan near) (tree_of_plan far)))) b.1,
  )

  parts_fit : (side : Side) (n : ℕ) (a b : Tree) → ValuesFit join fits cost each leaf_at (inner_on side n a b) → ValuesFit join fits cost each leaf_at a × ValuesFit join fits cost each leaf_at b
  parts_fit Left n a b f = (f.6, f.7)
  parts_fit Right n a b f = (f.7, f.6)

  -- the room of a row is that found for it
  own_room : (rs : List R) (o : Option R) (r : R) → map (λ r. Some r) rs ≡ o ∷ [] → o ≡ Some r → rs ≡ r ∷ []
  own_room [] o r e q = cc
  own_room (x ∷ []) o r e q = let s : Some x ≡ Some r = cc in let w : x ≡ r = cc in ap (λ v. v ∷ []) w
  own_room (x ∷ (y ∷ ys)) o r e q = cc

  -- a row whose parts are kept and bounded fits, and its node is bounded then
  own_step : (laws : RoomLaws join fits room after within) (side : Side) (nodes : ℕ → Option V) (rooms : ℕ → Option R) (n : ℕ) (a b : Tree) → KeepsNodeValues join leaf_at nodes a → KeepsNodeValues join leaf_at nodes b
      → IsBounded join room within leaf_at room_at rooms a → IsBounded join room within leaf_at room_at rooms b → ValuesFit join fits cost each leaf_at (inner_on side n a b)
      → (r : R) × (row_value after room_at rooms (dirty_row side n (name a) (name b)) ≡ Some r) × FitsStep join fits room after within leaf_at nodes (dirty_row side n (name a) (name b)) r × (composing_steps join cost (part leaf_at nodes (dirty_row side n (name a) (name b)).left) (part leaf_at nodes (dirty_row side n (name a) (name b)).right) ≤ each)
      × IsBounded join room within leaf_at room_at (with_node rooms (dirty_row side n (name a) (name b)).node (row_value after room_at rooms (dirty_row side n (name a) (name b)))) (inner_on side n a b)
  own_step laws Left nodes rooms n a b ka kb ba bb f =
      let x = f.0 in
      let y = f.1 in
      let wa : within (room x) ba.1 = let s : Some ba.0 ≡ Some x = sym ba.2 ∙ f.2 in let e : ba.0 ≡ x = cc in rw (← e) ba.4 in
      let wb : within (room y) bb.1 = let s : Some bb.0 ≡ Some y = sym bb.2 ∙ f.3 in let e : bb.0 ≡ y = cc in rw (← e) bb.4 in
      let enough = laws.rises (room x) ba.1 (room y) bb.1 wa wb in
      let found : joined_values after (part room_at rooms (name a)) (part room_at rooms (name b)) ≡ Some (after ba.1 bb.1) = cc (ba.3, bb.3) in
      let there : with_node rooms n (joined_values after (part room_at rooms (name a)) (part room_at rooms (name b))) n ≡ Some (after ba.1 bb.1) = elim (set_node rooms n (joined_values after (part room_at rooms (name a)) (part room_at rooms (name b))) n) [ inl w ↦ w.1 ∙ found | inr w ↦ absurd (w.0 refl) ] in
      let v : joined_values join (value join leaf_at a) (value join leaf_at b) ≡ Some (join x y) = cc (f.2, f.3) in
      let cost_is : composing_steps join cost (part leaf_at nodes (name a)) (part leaf_at nodes (name b)) ≡ cost x + (cost y + cost (join x y)) = cc (value_of_child join leaf_at nodes a ka ∙ f.2, value_of_child join leaf_at nodes b kb ∙ f.3) in (
        after ba.1 bb.1,
        found,
        (x, y, value_of_child join leaf_at nodes a ka ∙ f.2, value_of_child join leaf_at nodes b kb ∙ f.3, f.4, enough),
        omega (arith, cost_is, f.5),
        (join x y, after ba.1 bb.1, v, there, laws.along _ _ _ (laws.bounds x y f.4) enough),
      )
  own_step laws Right nodes rooms n a b ka kb ba bb f =
      let x = f.0 in
      let y = f.1 in
      let wa : within (room y) ba.1 = let s : Some ba.0 ≡ Some y = sym ba.2 ∙ f.3 in let e : ba.0 ≡ y = cc in rw (← e) ba.4 in
      let wb : within (room x) bb.1 = let s : Some bb.0 ≡ Some x = sym bb.2 ∙ f.2 in let e : bb.0 ≡ x = cc in rw (← e) bb.4 in
      let enough = laws.rises (room x) bb.1 (room y) ba.1 wb wa in
      let found : joined_values after (part room_at rooms (name b)) (part room_at rooms (name a)) ≡ Some (after bb.1 ba.1) = cc (ba.3, bb.3) in
      let there : with_node rooms n (joined_values after (part room_at rooms (name b)) (part room_at rooms (name a))) n ≡ Some (after bb.1 ba.1) = elim (set_node rooms n (joined_values after (part room_at rooms (name b)) (part room_at rooms (name a))) n) [ inl w ↦ w.1 ∙ found | inr w ↦ absurd (w.0 refl) ] in
      let v : joined_values join (value join leaf_at b) (value join leaf_at a) ≡ Some (join x y) = cc (f.2, f.3) in
      let cost_is : composing_steps join cost (part leaf_at nodes (name b)) (part leaf_at nodes (name a)) ≡ cost x + (cost y + cost (join x y)) = cc (value_of_child join leaf_at nodes b kb ∙ f.2, value_of_child join leaf_at nodes a ka ∙ f.3) in (
        after bb.1 ba.1,
        found,
        (x, y, value_of_child join leaf_at nodes b kb ∙ f.2, value_of_child join leaf_at nodes a ka ∙ f.3, f.4, enough),
        omega (arith, cost_is, f.5),
        (join x y, after bb.1 ba.1, v, there, laws.along _ _ _ (laws.bounds x y f.4) enough),
      )

  spent-append : (nodes : ℕ → Option V) (xs ys : List DirtyRow) → steps_of_rows join cost leaf_at nodes (xs ++ ys) ≡ steps_of_rows join cost leaf_at nodes xs + steps_of_rows join cost leaf_at (values_refreshed join leaf_at nodes xs) ys
  spent-append nodes [] ys = omega arith
  spent-append nodes (x ∷ xs) ys = omega (arith, spent-append (with_node nodes x.node (row_value join leaf_at nodes x)) xs ys)

  all_spent : (nodes : ℕ → Option V) (xs ys : List DirtyRow) (row : DirtyRow) (last : ℕ → Option V) → values_refreshed join leaf_at nodes (xs ++ ys) ≡ last
      → steps_of_rows join cost leaf_at nodes ((xs ++ ys) ++ row ∷ []) ≡ (steps_of_rows join cost leaf_at nodes xs + steps_of_rows join cost leaf_at (values_refreshed join leaf_at nodes xs) ys) + composing_steps join cost (part leaf_at last row.left) (part leaf_at last row.right)
  all_spent nodes xs ys row last e = omega (arith, spent-append nodes (xs ++ ys) (row ∷ []), spent-append nodes xs ys, ap (λ g. steps_of_rows join cost leaf_at g (row ∷ [])) e)

  spent_sum : (a b c m n : ℕ) → a ≤ each * m → b ≤ each * n → c ≤ each → {total long : ℕ} → total ≡ (a + b) + c → long ≡ (m + n) + 1 → total ≤ each * long
  spent_sum a b c m n ha hb hc e q = rw (e, q) (omega arith)

  -- Along a plan's rows each part is there, the rooms found are enough, and the whole is bounded.
  pub record Fitted (nodes : ℕ → Option V) (rooms : ℕ → Option R) (p : Plan) (rs : List R) : Type 0 where
    pub steps : FitSteps join fits room after within leaf_at nodes (rows p) rs
    pub bounded : IsBounded join room within leaf_at room_at (values_refreshed after room_at rooms (rows p)) (tree_of_plan p)
    pub long : length rs ≡ length (rows p)
    pub few : steps_of_rows join cost leaf_at nodes (rows p) ≤ each * length (rows p)

  pub fit_steps : RoomLaws join fits room after within → (nodes : ℕ → Option V) (rooms : ℕ → Option R) (p : Plan) → IsRefreshable join leaf_at nodes p → KeptBy (IsBounded join room within leaf_at room_at rooms) p
      → ValuesFit join fits cost each leaf_at (tree_of_plan p) → (rs : List R) → map (λ r. Some r) rs ≡ composed_all after room_at rooms (rows p) → Fitted nodes rooms p rs
  fit_steps laws nodes rooms (kept t) a b f [] e = record { steps = tt; bounded = b; long = refl; few = omega arith }
  fit_steps laws nodes rooms (kept t) a b f (r ∷ rs) e = cc
  fit_steps laws nodes rooms (made side n near far) a b f rs e =
      let row = dirty_row side n (name (tree_of_plan near)) (name (tree_of_plan far)) in
      let nodes1 = values_refreshed join leaf_at nodes (rows near) in
      let nodes2 = values_refreshed join leaf_at nodes1 (rows far) in
      let rooms1 = values_refreshed after room_at rooms (rows near) in
      let rooms2 = values_refreshed after room_at rooms1 (rows far) in
      let split_nodes : values_refreshed join leaf_at nodes (rows near ++ rows far) ≡ nodes2 = refreshed-append join leaf_at nodes (rows near) (rows far) in
      let split_rooms : values_refreshed after room_at rooms (rows near ++ rows far) ≡ rooms2 = refreshed-append after room_at rooms (rows near) (rows far) in
      let outer = split_some (composed_all after room_at rooms (rows near ++ rows far)) (composed_all after room_at (values_refreshed after room_at rooms (rows near ++ rows far)) (row ∷ [])) rs (e ∙ composed_all-append after room_at rooms (rows near ++ rows far) (row ∷ [])) in
      let inside = split_some (composed_all after room_at rooms (rows near)) (composed_all after room_at rooms1 (rows far)) outer.0 (outer.3 ∙ composed_all-append after room_at rooms (rows near) (rows far)) in
      let halves = parts_fit side n (tree_of_plan near) (tree_of_plan far) f in
      let first = fit_steps laws nodes rooms near (near_refreshable join leaf_at nodes side n near far a) b.0 halves.0 inside.0 inside.3 in
      let free_near : (k : ℕ) → 1 ≤ times k (tree_of_plan far) → rooms k ≡ rooms1 k = λ k h. sym (refreshed_away after room_at rooms near k (omega (arith, made_within k near, a.once k, times_inner_on side k n (tree_of_plan near) (tree_of_plan far)))) in
      let free_far : (k : ℕ) → 1 ≤ times k (tree_of_plan near) → rooms1 k ≡ rooms2 k = λ k h. sym (refreshed_away after room_at rooms1 far k (omega (arith, made_within k far, a.once k, times_inner_on side k n (tree_of_plan near) (tree_of_plan far)))) in
      let second = fit_steps laws nodes1 rooms1 far (far_refreshable join leaf_at nodes side n near far a) (frame_kept_bounded rooms rooms1 far free_near b.1) halves.1 inside.1 inside.4 in
      let both = both_kept join leaf_at nodes side n near far a in
      let near_bounded = frame_bounded rooms1 rooms2 (tree_of_plan near) free_far first.bounded in
      let own = own_step laws side nodes2 rooms2 n (tree_of_plan near) (tree_of_plan far) both.near_kept both.far_kept near_bounded second.bounded f in
      let last : outer.1 ≡ own.0 ∷ [] = own_room outer.1 (row_value after room_at rooms2 row) own.0 (outer.4 ∙ ap (λ g. row_value after room_at g row ∷ []) split_rooms) own.1 in
      let two : FitSteps join fits room after within leaf_at nodes (rows near ++ rows far) (inside.0 ++ inside.1) = FitSteps-append nodes (rows near) (rows far) inside.0 inside.1 first.long first.steps second.steps in
      let long_two : length (inside.0 ++ inside.1) ≡ length (rows near ++ rows far) = omega (arith, length-append inside.0 inside.1, length-append (rows near) (rows far), first.long, second.long) in
      let at_last : FitSteps join fits room after within leaf_at (values_refreshed join leaf_at nodes (rows near ++ rows far)) (row ∷ []) (own.0 ∷ []) = subst (λ g. FitSteps join fits room after within leaf_at g (row ∷ []) (own.0 ∷ [])) (sym split_nodes) (own.2, tt) in
      let all : rs ≡ (inside.0 ++ inside.1) ++ own.0 ∷ [] = outer.2 ∙ cc (inside.2, last) in
      record {
        steps = subst (λ v. FitSteps join fits room after within leaf_at nodes ((rows near ++ rows far) ++ row ∷ []) v) (sym all) (FitSteps-append nodes (rows near ++ rows far) (row ∷ []) (inside.0 ++ inside.1) (own.0 ∷ []) long_two two at_last);
        bounded = subst (λ g. IsBounded join room within leaf_at room_at g (inner_on side n (tree_of_plan near) (tree_of_plan far))) (sym (refreshed-append after room_at rooms (rows near ++ rows far) (row ∷ []) ∙ ap (λ g. values_refreshed after room_at g (row ∷ [])) split_rooms)) own.4;
        long = omega (arith, ap length all, length-append (inside.0 ++ inside.1) (own.0 ∷ []), long_two, length-append (rows near ++ rows far) (row ∷ []));
        few = spent_sum (steps_of_rows join cost leaf_at nodes (rows near)) (steps_of_rows join cost leaf_at nodes1 (rows far)) (composing_steps join cost (part leaf_at nodes2 row.left) (part leaf_at nodes2 row.right)) (length (rows near)) (length (rows far)) first.few second.few own.3 (all_spent nodes (rows near) (rows far) row nodes2 split_nodes) (length-append (rows near ++ rows far) (row ∷ []) ∙ ap (λ n. n + 1) (length-append (rows near) (rows far)));
      }
