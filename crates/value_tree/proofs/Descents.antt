-- Walking down to a position, and counting what the leaves before it count.
use Rattle.std.proofs.Common.{◌≡◌, ℕ, zero, suc, ◌+◌, ◌*◌, ◌-◌, ◌<◌, ◌≤◌, List, [], ◌∷◌, ◌++◌, length, take, Option, Some, None, ◌∙◌, ap, subst, arith}
use Rattle.std.specs.Option.{option_map}
use Rattle.std.proofs.lemmas.List.{take-append-le}
use Rattle.tree_shape.specs.declared.node.Child.{Child}
use Rattle.tree_shape.specs.declared.node.Child.TheVariants.{Inner}
use Rattle.tree_shape.specs.Tree.{Tree, leaf, inner, name, leaves, count}
use Rattle.tree_shape.specs.Changes.{IsSubtreeOf}
use Rattle.tree_shape.specs.Values.{part, values_of_numbers, AreThere, KeepsAll, leaf_values}
use Rattle.tree_shape.specs.Composing.{StandLaws, Costs}
use Rattle.tree_shape.specs.View.{leaf_count_of, leaves_of_tree, height_of_tree}
use Rattle.tree_shape.proofs.NodeValues.{value_of_child}
use Rattle.tree_shape.proofs.PlanSteps.{standing, gathered-append, there_front, there_back}
use Rattle.tree_shape.proofs.ArenaTrees.{length_leaves}
use Rattle.value_tree.specs.Found.{total_count}
use Rattle.value_tree.specs.Walk.{IsDescentAt, IsDescent}
use Rattle.value_tree.specs.declared.before.Descent.{Descent}
use Rattle.value_tree.proofs.LeafLists.{length_gathered}
use Rattle.value_tree.proofs.Offsets.{total_is}
use Rattle.value_tree.proofs.TreeParts.{part_self, left_of, right_of, opened}

module _ {V : Type 0} (counts : V → ℕ) where
  -- the first values, past some of them
  total_taken : (xs ys : List V) (n : ℕ) → length xs ≤ n → total_count counts (take n (xs ++ ys)) ≡ total_count counts xs + total_count counts (take (n - length xs) ys)
  total_taken [] ys n h = let same : n ≡ n - 0 = omega arith in omega (arith, ap (λ k. total_count counts (take k ys)) same)
  total_taken (x ∷ xs) ys zero h = absurd (omega arith)
  total_taken (x ∷ xs) ys (suc n) h =
      let same : n - length xs ≡ suc n - length (x ∷ xs) = omega arith in
      omega (arith, total_taken xs ys n (omega arith), ap (λ k. total_count counts (take k ys)) same)

  -- some of the values count no more than all
  pub total_some : (xs : List V) (n : ℕ) → total_count counts (take n xs) ≤ total_count counts xs
  total_some [] zero = omega arith
  total_some [] (suc n) = omega arith
  total_some (x ∷ xs) zero = omega arith
  total_some (x ∷ xs) (suc n) = omega (arith, total_some xs n)

module _ {V : Type 0} (join : V → V → V) (fits : V → V → Type 0) (cost : V → ℕ) (counts : V → ℕ) (leaf_at node_at : ℕ → Option V) (law : (a b : V) → fits a b → counts (join a b) ≡ counts a + counts b) where
  -- a walk that has come to an inner node
  pub at_inner : (tree : Option Tree) (whole done high : ℕ) (descent : Descent) (n : ℕ) → IsDescent join fits cost counts leaf_at node_at tree whole done high descent → descent.child ≡ Inner n
      → (each : ℕ) × (l : Tree) × (r : Tree) × IsDescentAt join fits cost counts leaf_at node_at tree whole done high descent each (inner n l r)
  at_inner tree whole done high descent n w e =
      let o = opened n descent.child w.1 w.2.named e in
      (w.0, o.0, o.1, subst (IsDescentAt join fits cost counts leaf_at node_at tree whole done high descent w.0) o.2 w.2)

  module _ (tree : Option Tree) (whole done high : ℕ) (descent : Descent) (each n : ℕ) (l r : Tree) (w : IsDescentAt join fits cost counts leaf_at node_at tree whole done high descent each (inner n l r)) where
    pub near_value : part leaf_at node_at (name l) ≡ Some w.fit.0
    near_value = value_of_child join leaf_at node_at l w.keeps.1 ∙ w.fit.2

    near_counts : counts w.fit.0 ≡ total_count counts (values_of_numbers leaf_at (leaves l))
    near_counts = total_is join fits cost counts leaf_at node_at law each l w.fit.0 w.fit.6 w.fit.2

    pub near_is_part : IsSubtreeOf l tree
    near_is_part = left_of n l r tree w.part

    many : length (values_of_numbers leaf_at (leaves l)) ≡ count l
    many = length_gathered leaf_at (leaves l) (there_front leaf_at (leaves l) (leaves r) w.there) ∙ length_leaves l

    split : values_of_numbers leaf_at (leaves (inner n l r)) ≡ values_of_numbers leaf_at (leaves l) ++ values_of_numbers leaf_at (leaves r)
    split = gathered-append leaf_at (leaves l) (leaves r)

    pub go_near : (child : Child) → child ≡ name l → descent.at < count l → done < high
        → IsDescentAt join fits cost counts leaf_at node_at tree whole (done + 1) high (record { child = child; at = descent.at; before = descent.before }) each l
    go_near child e h more =
        let xs = values_of_numbers leaf_at (leaves l) in
        let ys = values_of_numbers leaf_at (leaves r) in
        let front : take descent.at (values_of_numbers leaf_at (leaves (inner n l r))) ≡ take descent.at xs = ap (take descent.at) split ∙ take-append-le descent.at xs ys (omega (arith, h, many)) in
        record {
          named = e;
          part = near_is_part;
          there = there_front leaf_at (leaves l) (leaves r) w.there;
          keeps = w.keeps.1;
          fit = w.fit.6;
          inside = h;
          counted = w.counted ∙ ap (λ vs. descent.before + total_count counts vs) front;
          low = omega (arith, w.low);
        }

    far_counted : count l ≤ descent.at → total_count counts (take descent.at (values_of_numbers leaf_at (leaves (inner n l r)))) ≡ counts w.fit.0 + total_count counts (take (descent.at - count l) (values_of_numbers leaf_at (leaves r)))
    far_counted h =
        let xs = values_of_numbers leaf_at (leaves l) in
        let ys = values_of_numbers leaf_at (leaves r) in
        ap (λ vs. total_count counts (take descent.at vs)) split
        ∙ (total_taken counts xs ys descent.at (omega (arith, h, many))
        ∙ omega (arith, near_counts, ap (λ k. total_count counts (take (descent.at - k) ys)) many))

    pub go_far : (child : Child) (below here : ℕ) → child ≡ name r → below ≡ count l → here ≡ counts w.fit.0 → below ≤ descent.at → done < high
        → IsDescentAt join fits cost counts leaf_at node_at tree whole (done + 1) high (record { child = child; at = descent.at - below; before = descent.before + here }) each r
    go_far child below here e below_is here_is h more =
        let ys = values_of_numbers leaf_at (leaves r) in
        record {
          named = e;
          part = right_of n l r tree w.part;
          there = there_back leaf_at (leaves l) (leaves r) w.there;
          keeps = w.keeps.2;
          fit = w.fit.7;
          inside = omega (arith, w.inside, below_is, h);
          counted = w.counted ∙ omega (arith, far_counted (omega (arith, below_is, h)), here_is, ap (λ k. total_count counts (take (descent.at - k) ys)) below_is);
          low = omega (arith, w.low);
        }

    -- what is counted so far is no more than the whole
    pub low_far : (here : ℕ) → here ≡ counts w.fit.0 → count l ≤ descent.at → descent.before + here ≤ whole
    low_far here here_is h = omega (arith, w.counted, far_counted h, here_is)

  -- a walk that has come to its end
  pub at_end : (tree : Option Tree) (whole done high : ℕ) (descent : Descent) (each : ℕ) (t : Tree) → IsDescentAt join fits cost counts leaf_at node_at tree whole done high descent each t → high ≤ done → descent.before ≡ whole
  at_end tree whole done high descent each (leaf n) w h =
      let first : descent.at ≡ 0 = omega (arith, w.inside) in
      omega (arith, w.counted, ap (λ k. total_count counts (take k (values_of_numbers leaf_at (n ∷ [])))) first)
  at_end tree whole done high descent each (inner n l r) w h = absurd (omega (arith, w.low))

  -- the walk's beginning
  pub begins : (sound : List V → Type 0) (stands : List V → V → Type 0) → StandLaws sound stands join fits → ((xs : List V) → sound xs → (each : ℕ) × Costs stands cost each xs)
      → (o : Option Tree) (root : Child) (at : ℕ) → Some root ≡ option_map name o → AreThere leaf_at (leaves_of_tree o) → sound (leaf_values leaf_at o) → KeepsAll join leaf_at node_at o → at < leaf_count_of o
      → IsDescent join fits cost counts leaf_at node_at o (total_count counts (take at (leaf_values leaf_at o))) 0 (height_of_tree o) (record { child = root; at = at; before = 0 })
  begins sound stands stand_laws cost_law None root at e there s keeps place = cc (e)
  begins sound stands stand_laws cost_law (Some t) root at e there s keeps place =
      let xs = values_of_numbers leaf_at (leaves t) in
      let some_cost = cost_law xs s in
      let st = standing sound stands join fits cost leaf_at stand_laws some_cost.0 t there s some_cost.1 in
      let is : root ≡ name t = cc (e) in
      (3 * some_cost.0, t, record { named = is; part = part_self t; there = there; keeps = keeps; fit = st.fit; inside = place; counted = omega arith; low = omega arith })
