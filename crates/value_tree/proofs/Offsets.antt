-- Walking down to the leaf that has an offset.
use Rattle.std.proofs.Common.{◌≡◌, ℕ, ◌+◌, ◌*◌, ◌-◌, ◌<◌, ◌≤◌, List, [], ◌∷◌, ◌++◌, length, Option, Some, None, true, false, refl, sym, ◌∙◌, ap, subst, arith, inl, inr}
use Rattle.std.specs.Prelude.{nat_lt, cond}
use Rattle.std.specs.Option.{option_map}
use Rattle.std.proofs.lemmas.Bool.{cases_lt}
use Rattle.std.proofs.lemmas.Bool.Decides.{nat_tests}
use Rattle.tree_shape.specs.declared.node.Child.{Child}
use Rattle.tree_shape.specs.declared.node.Child.TheVariants.{Inner}
use Rattle.tree_shape.specs.Tree.{Tree, leaf, inner, name, leaves, height, count}
use Rattle.tree_shape.specs.Changes.{IsSubtreeOf}
use Rattle.tree_shape.specs.Values.{part, joined_on, values_of_numbers, AreThere, KeepsNodeValues, KeepsAll, leaf_values, value}
use Rattle.tree_shape.specs.Composing.{ValuesFit, StandLaws, Costs}
use Rattle.tree_shape.specs.View.{leaf_count_of, leaves_of_tree, height_of_tree}
use Rattle.tree_shape.proofs.NodeValues.{value_of_child}
use Rattle.tree_shape.proofs.PlanSteps.{standing, gathered-append, there_front, there_back}
use Rattle.tree_shape.proofs.ArenaTrees.{length_leaves}
use Rattle.value_tree.proofs.LeafLists.{length_gathered}
use Rattle.value_tree.proofs.TreeParts.{part_self, left_of, right_of, opened}
use Rattle.value_tree.specs.Found.{place_further, total_count, found_in}
use Rattle.value_tree.specs.Walk.{IsWalkAt, IsWalk}
use Rattle.value_tree.specs.declared.find.LeafWalk.{LeafWalk}

further_twice : (m n : ℕ) (o : Option (ℕ × ℕ)) → place_further m (place_further n o) ≡ place_further (m + n) o
further_twice m n None = refl
further_twice m n (Some p) = ap (λ k. Some (k, p.1)) (omega arith)

further_none : (o : Option (ℕ × ℕ)) → place_further 0 o ≡ o
further_none None = refl
further_none (Some p) = ap (λ k. Some (k, p.1)) (omega arith)

module _ {V : Type 0} (counts : V → ℕ) where
  pub total-append : (xs ys : List V) → total_count counts (xs ++ ys) ≡ total_count counts xs + total_count counts ys
  total-append [] ys = omega arith
  total-append (x ∷ xs) ys = omega (arith, total-append xs ys)

  test_yes : (a b : ℕ) → a < b → nat_lt a b ≡ true
  test_yes a b h = grind (arith, nat_tests)

  test_no : (a b : ℕ) → b ≤ a → nat_lt a b ≡ false
  test_no a b h = grind (arith, nat_tests)

  found_yes : (v : V) (vs : List V) (n : ℕ) → n < counts v → found_in counts (v ∷ vs) n ≡ Some (0, n)
  found_yes v vs n h = ap (λ b. cond b (Some (0, n)) (place_further 1 (found_in counts vs (n - counts v)))) (test_yes n (counts v) h)

  found_no : (v : V) (vs : List V) (n : ℕ) → counts v ≤ n → found_in counts (v ∷ vs) n ≡ place_further 1 (found_in counts vs (n - counts v))
  found_no v vs n h = ap (λ b. cond b (Some (0, n)) (place_further 1 (found_in counts vs (n - counts v)))) (test_no n (counts v) h)

  found_front : (xs ys : List V) (n : ℕ) → n < total_count counts xs → found_in counts (xs ++ ys) n ≡ found_in counts xs n
  found_front [] ys n h = absurd (omega arith)
  found_front (x ∷ xs) ys n h = elim (cases_lt n (counts x)) [
    | inl w ↦ found_yes x (xs ++ ys) n w ∙ sym (found_yes x xs n w)
    | inr w ↦ found_no x (xs ++ ys) n w ∙ (ap (place_further 1) (found_front xs ys (n - counts x) (omega arith)) ∙ sym (found_no x xs n w))
  ]

  found_back : (xs ys : List V) (n : ℕ) → total_count counts xs ≤ n → found_in counts (xs ++ ys) n ≡ place_further (length xs) (found_in counts ys (n - total_count counts xs))
  found_back [] ys n h = ap (found_in counts ys) (omega arith) ∙ sym (further_none (found_in counts ys (n - 0)))
  found_back (x ∷ xs) ys n h =
      let less : (n - counts x) - total_count counts xs ≡ n - (counts x + total_count counts xs) = omega arith in
      found_no x (xs ++ ys) n (omega arith)
      ∙ (ap (place_further 1) (found_back xs ys (n - counts x) (omega arith))
      ∙ (further_twice 1 (length xs) (found_in counts ys ((n - counts x) - total_count counts xs))
      ∙ ap (λ k. place_further k (found_in counts ys ((n - counts x) - total_count counts xs))) (omega arith)
      ∙ ap (λ k. place_further (length (x ∷ xs)) (found_in counts ys k)) less))

  -- an offset behind all that the values count is at none of them
  pub found_past : (xs : List V) (n : ℕ) → total_count counts xs ≤ n → found_in counts xs n ≡ None
  found_past [] n h = refl
  found_past (x ∷ xs) n h = found_no x xs n (omega arith) ∙ ap (place_further 1) (found_past xs (n - counts x) (omega arith))

  -- the offset within a value is no greater than that among all
  pub found_within : (xs : List V) (n : ℕ) (p : ℕ × ℕ) → found_in counts xs n ≡ Some p → p.1 ≤ n
  found_within [] n p e = cc (e)
  found_within (x ∷ xs) n p e = elim (cases_lt n (counts x)) [
    | inl w ↦ let is : (0, n) ≡ p = let both : Some (0, n) ≡ Some p = sym (found_yes x xs n w) ∙ e in cc (both) in omega (arith, ap (λ (q : ℕ × ℕ). q.1) is)
    | inr w ↦ later (found_in counts xs (n - counts x)) (found_within xs (n - counts x)) (sym (found_no x xs n w) ∙ e)
  ]
    where
      later : (o : Option (ℕ × ℕ)) → ((q : ℕ × ℕ) → o ≡ Some q → q.1 ≤ n - counts x) → place_further 1 o ≡ Some p → p.1 ≤ n
      later None h f = cc (f)
      later (Some q) h f = let is : (1 + q.0, q.1) ≡ p = cc (f) in omega (arith, h q refl, ap (λ (r : ℕ × ℕ). r.1) is)

module _ {V : Type 0} (join : V → V → V) (fits : V → V → Type 0) (cost : V → ℕ) (counts : V → ℕ) (leaf_at node_at : ℕ → Option V) (law : (a b : V) → fits a b → counts (join a b) ≡ counts a + counts b) where
  -- a value counts what its leaves count
  pub total_is : (each : ℕ) (t : Tree) (v : V) → ValuesFit join fits cost each leaf_at t → value join leaf_at t ≡ Some v → counts v ≡ total_count counts (values_of_numbers leaf_at (leaves t))
  total_is each (leaf n) v f e =
      let only : values_of_numbers leaf_at (n ∷ []) ≡ v ∷ [] = ap (λ o. joined_on o []) e in
      omega (arith, ap (total_count counts) only)
  total_is each (inner n l r) v f e =
      let one : Some (join f.0 f.1) ≡ Some v = sym (cc (f.2, f.3)) ∙ e in
      let is : join f.0 f.1 ≡ v = cc (one) in
      omega (arith, ap counts is, law f.0 f.1 f.4, total_is each l f.0 f.6 f.2, total_is each r f.1 f.7 f.3, ap (total_count counts) (gathered-append leaf_at (leaves l) (leaves r)), total-append counts (values_of_numbers leaf_at (leaves l)) (values_of_numbers leaf_at (leaves r)))

  -- a walk that has come to an inner node
  pub at_inner : (tree : Option Tree) (whole : Option (ℕ × ℕ)) (done high : ℕ) (walk : LeafWalk) (n : ℕ) → IsWalk join fits cost counts leaf_at node_at tree whole done high walk → walk.child ≡ Inner n
      → (each : ℕ) × (l : Tree) × (r : Tree) × IsWalkAt join fits cost counts leaf_at node_at tree whole done high walk each (inner n l r)
  at_inner tree whole done high walk n w e =
      let o = opened n walk.child w.1 w.2.named e in
      (w.0, o.0, o.1, subst (IsWalkAt join fits cost counts leaf_at node_at tree whole done high walk w.0) o.2 w.2)

  module _ (tree : Option Tree) (whole : Option (ℕ × ℕ)) (done high : ℕ) (walk : LeafWalk) (each n : ℕ) (l r : Tree) (w : IsWalkAt join fits cost counts leaf_at node_at tree whole done high walk each (inner n l r)) where
    pub near_value : part leaf_at node_at (name l) ≡ Some w.fit.0
    near_value = value_of_child join leaf_at node_at l w.keeps.1 ∙ w.fit.2

    pub near_counts : counts w.fit.0 ≡ total_count counts (values_of_numbers leaf_at (leaves l))
    near_counts = total_is each l w.fit.0 w.fit.6 w.fit.2

    pub near_is_part : IsSubtreeOf l tree
    near_is_part = left_of n l r tree w.part

    pub go_near : (child : Child) (here : ℕ) → child ≡ name l → here ≡ counts w.fit.0 → walk.left < here → done < high
        → IsWalkAt join fits cost counts leaf_at node_at tree whole (done + 1) high (record { child = child; at = walk.at; left = walk.left }) each l
    go_near child here e is h more =
        let xs = values_of_numbers leaf_at (leaves l) in
        let ys = values_of_numbers leaf_at (leaves r) in
        let inside : walk.left < total_count counts xs = omega (arith, near_counts, h, is) in
        record {
          named = e;
          part = near_is_part;
          there = there_front leaf_at (leaves l) (leaves r) w.there;
          keeps = w.keeps.1;
          fit = w.fit.6;
          inside = inside;
          found = w.found ∙ ap (place_further walk.at) (ap (λ vs. found_in counts vs walk.left) (gathered-append leaf_at (leaves l) (leaves r)) ∙ found_front counts xs ys walk.left inside);
          few = omega (arith, w.few);
          low = omega (arith, w.low);
        }

    pub go_far : (child : Child) (below here : ℕ) → child ≡ name r → below ≡ count l → here ≡ counts w.fit.0 → here ≤ walk.left → done < high
        → IsWalkAt join fits cost counts leaf_at node_at tree whole (done + 1) high (record { child = child; at = walk.at + below; left = walk.left - here }) each r
    go_far child below here e below_is here_is h more =
        let xs = values_of_numbers leaf_at (leaves l) in
        let ys = values_of_numbers leaf_at (leaves r) in
        let split = gathered-append leaf_at (leaves l) (leaves r) in
        let past : total_count counts xs ≤ walk.left = omega (arith, near_counts, h, here_is) in
        let before : length xs ≡ below = length_gathered leaf_at (leaves l) (there_front leaf_at (leaves l) (leaves r) w.there) ∙ (length_leaves l ∙ sym below_is) in
        let left : walk.left - total_count counts xs ≡ walk.left - here = ap (λ k. walk.left - k) (sym (here_is ∙ near_counts)) in
        record {
          named = e;
          part = right_of n l r tree w.part;
          there = there_back leaf_at (leaves l) (leaves r) w.there;
          keeps = w.keeps.2;
          fit = w.fit.7;
          inside = omega (arith, w.inside, ap (total_count counts) split, total-append counts xs ys, near_counts, here_is, h);
          found = w.found
              ∙ (ap (place_further walk.at) (ap (λ vs. found_in counts vs walk.left) split ∙ found_back counts xs ys walk.left past)
              ∙ (further_twice walk.at (length xs) (found_in counts ys (walk.left - total_count counts xs))
              ∙ (ap (λ k. place_further (walk.at + k) (found_in counts ys (walk.left - total_count counts xs))) before
              ∙ ap (λ k. place_further (walk.at + below) (found_in counts ys k)) left)));
          few = omega (arith, w.few, below_is);
          low = omega (arith, w.low);
        }

  -- a walk that has come to its end
  pub at_end : (tree : Option Tree) (whole : Option (ℕ × ℕ)) (done high : ℕ) (walk : LeafWalk) (each : ℕ) (t : Tree) → IsWalkAt join fits cost counts leaf_at node_at tree whole done high walk each t → high ≤ done → Some (walk.at, walk.left) ≡ whole
  at_end tree whole done high walk each (leaf n) w h =
      let v = w.there.0.0 in
      let only : values_of_numbers leaf_at (n ∷ []) ≡ v ∷ [] = ap (λ o. joined_on o []) w.there.0.1 in
      let inside : walk.left < counts v = omega (arith, w.inside, ap (total_count counts) only) in
      let here : Some (walk.at, walk.left) ≡ place_further walk.at (Some (0, walk.left)) = ap (λ k. Some (k, walk.left)) (omega arith) in
      here ∙ sym (w.found ∙ ap (place_further walk.at) (ap (λ vs. found_in counts vs walk.left) only ∙ found_yes counts v [] walk.left inside))
  at_end tree whole done high walk each (inner n l r) w h = absurd (omega (arith, w.low))

  -- the walk's beginning
  pub at_start : (t : Tree) (offset : ℕ) (root : Child) (each : ℕ) → root ≡ name t → AreThere leaf_at (leaves t) → KeepsNodeValues join leaf_at node_at t → ValuesFit join fits cost each leaf_at t → offset < total_count counts (values_of_numbers leaf_at (leaves t)) → count t ≤ 65536
      → IsWalkAt join fits cost counts leaf_at node_at (Some t) (found_in counts (values_of_numbers leaf_at (leaves t)) offset) 0 (height t) (record { child = root; at = 0; left = offset }) each t
  at_start t offset root each e there keeps fit inside few = record {
    named = e;
    part = part_self t;
    there = there;
    keeps = keeps;
    fit = fit;
    inside = inside;
    found = sym (further_none (found_in counts (values_of_numbers leaf_at (leaves t)) offset));
    few = omega arith;
    low = omega arith;
  }

  -- what is known of the root
  pub record Begun (o : Option Tree) (root : Child) : Type 0 where
    pub v : V
    pub value_is : part leaf_at node_at root ≡ Some v
    pub counts_is : counts v ≡ total_count counts (leaf_values leaf_at o)
    pub start : (offset : ℕ) → offset < counts v → IsWalk join fits cost counts leaf_at node_at o (found_in counts (leaf_values leaf_at o) offset) 0 (height_of_tree o) (record { child = root; at = 0; left = offset })

  -- the root's value counts what all leaves count
  pub begun : (sound : List V → Type 0) (stands : List V → V → Type 0) → StandLaws sound stands join fits → ((xs : List V) → sound xs → (each : ℕ) × Costs stands cost each xs)
      → (o : Option Tree) (root : Child) → Some root ≡ option_map name o → AreThere leaf_at (leaves_of_tree o) → sound (leaf_values leaf_at o) → KeepsAll join leaf_at node_at o → leaf_count_of o ≤ 65536 → Begun o root
  begun sound stands stand_laws cost_law None root e there s keeps few = cc (e)
  begun sound stands stand_laws cost_law (Some t) root e there s keeps few =
      let xs = values_of_numbers leaf_at (leaves t) in
      let some_cost = cost_law xs s in
      let st = standing sound stands join fits cost leaf_at stand_laws some_cost.0 t there s some_cost.1 in
      let is : root ≡ name t = cc (e) in
      let counted : counts st.v ≡ total_count counts xs = total_is (3 * some_cost.0) t st.v st.fit st.value_is in
      record {
        v = st.v;
        value_is = ap (part leaf_at node_at) is ∙ (value_of_child join leaf_at node_at t keeps ∙ st.value_is);
        counts_is = counted;
        start = λ offset h. (3 * some_cost.0, t, at_start t offset root (3 * some_cost.0) is there keeps st.fit (omega (arith, h, counted)) few);
      }
