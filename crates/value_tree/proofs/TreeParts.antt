-- The parts of a tree, and those that lie whole before a position.
use Rattle.std.proofs.Common.{◌≡◌, ℕ, zero, suc, ◌+◌, ◌-◌, ◌<◌, ◌≤◌, List, [], ◌∷◌, ◌++◌, length, take, drop, Option, Some, None, refl, sym, ◌∙◌, ap, subst, arith, length-append, inl, inr}
use Rattle.std.specs.Option.{option_map}
use Rattle.std.proofs.lemmas.List.{append_assoc, append-nil, take-append-le, take-append-drop}
use Rattle.tree_shape.specs.declared.node.Child.{Child}
use Rattle.tree_shape.specs.declared.node.Child.TheVariants.{Leaf, Inner}
use Rattle.tree_shape.specs.Tree.{Tree, leaf, inner, name, leaves, count}
use Rattle.tree_shape.specs.Changes.{IsSubtree, IsSubtreeOf}
use Rattle.tree_shape.specs.Composing.{StandLaws, Costs}
use Rattle.tree_shape.specs.Values.{part, values_of_numbers, AreThere, KeepsNodeValues, KeepsAll, leaf_values}
use Rattle.tree_shape.specs.Fewest.{highest}
use Rattle.tree_shape.specs.View.{IsBalancedTree, leaf_count_of, leaves_of_tree, height_of_tree}
use Rattle.tree_shape.proofs.ArenaTrees.{length_leaves}
use Rattle.tree_shape.proofs.HeightBounds.{highest_bounds}
use Rattle.tree_shape.proofs.NodeValues.{value_of_child}
use Rattle.tree_shape.proofs.PlanSteps.{standing, gathered-append, gathered_take, there_front, there_back}
use Rattle.value_tree.specs.Parts.{AreParts, StandFor, IsPartingAt, IsParting}
use Rattle.value_tree.specs.declared.parts.Parting.{Parting}

pub part_self : (t : Tree) → IsSubtree t t
part_self (leaf n) = refl
part_self (inner n l r) = inl refl

part_left : (n : ℕ) (l r t : Tree) → IsSubtree (inner n l r) t → IsSubtree l t
part_left n l r (leaf m) p = cc (p)
part_left n l r (inner m a b) (inl p) = let is : a ≡ l = cc (p) in inr (inl (subst (λ u. IsSubtree u a) is (part_self a)))
part_left n l r (inner m a b) (inr (inl p)) = inr (inl (part_left n l r a p))
part_left n l r (inner m a b) (inr (inr p)) = inr (inr (part_left n l r b p))

part_right : (n : ℕ) (l r t : Tree) → IsSubtree (inner n l r) t → IsSubtree r t
part_right n l r (leaf m) p = cc (p)
part_right n l r (inner m a b) (inl p) = let is : b ≡ r = cc (p) in inr (inr (subst (λ u. IsSubtree u b) is (part_self b)))
part_right n l r (inner m a b) (inr (inl p)) = inr (inl (part_right n l r a p))
part_right n l r (inner m a b) (inr (inr p)) = inr (inr (part_right n l r b p))

pub left_of : (n : ℕ) (l r : Tree) (o : Option Tree) → IsSubtreeOf (inner n l r) o → IsSubtreeOf l o
left_of n l r None p = p
left_of n l r (Some t) p = part_left n l r t p

pub right_of : (n : ℕ) (l r : Tree) (o : Option Tree) → IsSubtreeOf (inner n l r) o → IsSubtreeOf r o
right_of n l r None p = p
right_of n l r (Some t) p = part_right n l r t p

pub opened : (n : ℕ) (child : Child) (t : Tree) → child ≡ name t → child ≡ Inner n → (l : Tree) × (r : Tree) × (t ≡ inner n l r)
opened n child (leaf m) e f = let no : Leaf m ≡ Inner n = sym e ∙ f in cc (no)
opened n child (inner m l r) e f = let same : Inner m ≡ Inner n = sym e ∙ f in let is : m ≡ n = cc (same) in (l, r, ap (λ k. inner k l r) is)

take_past : {X : Type 0} (xs ys : List X) (n : ℕ) → length xs ≤ n → take n (xs ++ ys) ≡ xs ++ take (n - length xs) ys
take_past [] ys n h = let same : n ≡ n - 0 = omega arith in ap (λ k. take k ys) same
take_past (x ∷ xs) ys zero h = absurd (omega arith)
take_past (x ∷ xs) ys (suc n) h =
    let same : n - length xs ≡ suc n - length (x ∷ xs) = omega arith in
    ap (λ v. x ∷ v) (take_past xs ys n (omega arith)) ∙ ap (λ k. (x ∷ xs) ++ take k ys) same

-- one part more, behind the others
one_more : (tree : Option Tree) (children : List Child) (numbers : List ℕ) (t : Tree) → AreParts tree children numbers → IsSubtreeOf t tree → AreParts tree (children ++ name t ∷ []) (numbers ++ leaves t)
one_more tree [] numbers t e p = (t, [], refl, p, ap (λ v. v ++ leaves t) e ∙ sym (append-nil (leaves t)), refl)
one_more tree (child ∷ children) numbers t h p = (h.0, h.1 ++ leaves t, h.2, h.3, ap (λ v. v ++ leaves t) h.4 ∙ append_assoc (leaves h.0) h.1 (leaves t), one_more tree children h.1 t h.5 p)

-- a walk that has come to an inner node
pub at_inner : (tree : Option Tree) (before : List ℕ) (done high : ℕ) (parting : Parting) (parts : List Child) (n : ℕ) → IsParting tree before done high parting parts → parting.child ≡ Inner n
    → (l : Tree) × (r : Tree) × IsPartingAt tree before done high parting parts (inner n l r)
at_inner tree before done high parting parts n w e =
    let o = opened n parting.child w.0 w.1.named e in
    (o.0, o.1, subst (IsPartingAt tree before done high parting parts) o.2 w.1)

module _ (tree : Option Tree) (before : List ℕ) (done high : ℕ) (parting : Parting) (parts : List Child) (n : ℕ) (l r : Tree) (w : IsPartingAt tree before done high parting parts (inner n l r)) where
  pub go_near : (child : Child) → child ≡ name l → parting.at < count l → done < high → IsPartingAt tree before (done + 1) high (record { child = child; at = parting.at }) parts l
  go_near child e h more = record {
    named = e;
    part = left_of n l r tree w.part;
    inside = h;
    numbers = w.numbers;
    parts_are = w.parts_are;
    whole = w.whole ∙ ap (λ v. w.numbers ++ v) (take-append-le parting.at (leaves l) (leaves r) (omega (arith, h, length_leaves l)));
    low = omega (arith, w.low);
    few = omega (arith, w.few);
  }

  pub go_far : (near child : Child) (below : ℕ) → near ≡ name l → child ≡ name r → below ≡ count l → below ≤ parting.at → done < high → IsPartingAt tree before (done + 1) high (record { child = child; at = parting.at - below }) (parts ++ near ∷ []) r
  go_far near child below near_is e below_is h more =
      let many : length (leaves l) ≡ below = length_leaves l ∙ sym below_is in
      record {
        named = e;
        part = right_of n l r tree w.part;
        inside = omega (arith, w.inside, below_is, h);
        numbers = w.numbers ++ leaves l;
        parts_are = subst (λ c. AreParts tree (parts ++ c ∷ []) (w.numbers ++ leaves l)) (sym near_is) (one_more tree parts w.numbers l w.parts_are (left_of n l r tree w.part));
        whole = w.whole
            ∙ (ap (λ v. w.numbers ++ v) (take_past (leaves l) (leaves r) parting.at (omega (arith, h, many)) ∙ ap (λ k. leaves l ++ take (parting.at - k) (leaves r)) many)
            ∙ sym (append_assoc w.numbers (leaves l) (take (parting.at - below) (leaves r))));
        low = omega (arith, w.low);
        few = omega (arith, w.few, length-append parts (near ∷ []));
      }

-- a walk that has come to its end
pub at_end : (tree : Option Tree) (before : List ℕ) (done high : ℕ) (parting : Parting) (parts : List Child) → IsParting tree before done high parting parts → high ≤ done → AreParts tree parts before
at_end tree before done high parting parts w h = ending w.0 w.1
  where
    ending : (t : Tree) → IsPartingAt tree before done high parting parts t → AreParts tree parts before
    ending (leaf n) v =
        let first : parting.at ≡ 0 = omega (arith, v.inside) in
        let none : before ≡ v.numbers = v.whole ∙ (ap (λ k. v.numbers ++ take k (n ∷ [])) first ∙ append-nil v.numbers) in
        subst (AreParts tree parts) (sym none) v.parts_are
    ending (inner n l r) v = absurd (omega (arith, v.low))

-- the walk's beginning
pub begins : (o : Option Tree) (root : Child) (at : ℕ) → Some root ≡ option_map name o → at < leaf_count_of o → IsParting o (take at (leaves_of_tree o)) 0 (height_of_tree o) (record { child = root; at = at }) []
begins None root at e place = cc (e)
begins (Some t) root at e place =
    let is : root ≡ name t = cc (e) in
    (t, record { named = is; part = part_self t; inside = place; numbers = []; parts_are = refl; whole = refl; low = omega arith; few = omega arith })

-- the last of some children has a value that stands for the last leaves, and the others stand for those before
pub last_stands : {V : Type 0} (stands : List V → V → Type 0) (value_of : Child → Option V) (children : List Child) (child : Child) (all : List V) → StandFor stands value_of (children ++ child ∷ []) all
    → (front : List V) × (back : List V) × (v : V) × (all ≡ front ++ back) × StandFor stands value_of children front × (value_of child ≡ Some v) × stands back v
last_stands stands value_of [] child all h = ([], h.0, h.2, h.3 ∙ (ap (λ v. h.0 ++ v) h.6 ∙ append-nil h.0), refl, h.4, h.5)
last_stands stands value_of (c ∷ children) child all h =
    let w = last_stands stands value_of children child h.1 h.6 in
    (h.0 ++ w.0, w.1, w.2, h.3 ∙ (ap (λ v. h.0 ++ v) w.3 ∙ sym (append_assoc h.0 w.0 w.1)), (h.0, w.0, h.2, refl, h.4, h.5, w.4), w.5, w.6)

-- The values of the parts stand for their leaves.
module _ {V : Type 0} (join : V → V → V) (fits : V → V → Type 0) (cost : V → ℕ) (sound : List V → Type 0) (stands : List V → V → Type 0) (stand_laws : StandLaws sound stands join fits) (cost_law : (xs : List V) → sound xs → (each : ℕ) × Costs stands cost each xs) (leaf_at node_at : ℕ → Option V) where
  keeps_part : (t whole : Tree) → IsSubtree t whole → KeepsNodeValues join leaf_at node_at whole → KeepsNodeValues join leaf_at node_at t
  keeps_part t (leaf n) p k = subst (KeepsNodeValues join leaf_at node_at) (sym p) k
  keeps_part t (inner n l r) (inl p) k = subst (KeepsNodeValues join leaf_at node_at) (sym p) k
  keeps_part t (inner n l r) (inr (inl p)) k = keeps_part t l p k.1
  keeps_part t (inner n l r) (inr (inr p)) k = keeps_part t r p k.2

  keeps_of : (t : Tree) (o : Option Tree) → IsSubtreeOf t o → KeepsAll join leaf_at node_at o → KeepsNodeValues join leaf_at node_at t
  keeps_of t None p k = absurd p
  keeps_of t (Some whole) p k = keeps_part t whole p k

  pub parts_stand : (o : Option Tree) (children : List Child) (numbers rest : List ℕ) → KeepsAll join leaf_at node_at o → AreParts o children numbers → AreThere leaf_at (numbers ++ rest) → sound (values_of_numbers leaf_at (numbers ++ rest))
      → StandFor stands (part leaf_at node_at) children (values_of_numbers leaf_at numbers)
  parts_stand o [] numbers rest k e there s = ap (values_of_numbers leaf_at) e
  parts_stand o (child ∷ children) numbers rest k h there s =
      let t = h.0 in
      let more = h.1 in
      let split : numbers ++ rest ≡ leaves t ++ (more ++ rest) = ap (λ v. v ++ rest) h.4 ∙ append_assoc (leaves t) more rest in
      let there_all : AreThere leaf_at (leaves t ++ (more ++ rest)) = subst (AreThere leaf_at) split there in
      let s_all : sound (values_of_numbers leaf_at (leaves t) ++ values_of_numbers leaf_at (more ++ rest)) = subst sound (ap (values_of_numbers leaf_at) split ∙ gathered-append leaf_at (leaves t) (more ++ rest)) s in
      let s_front = stand_laws.front (values_of_numbers leaf_at (leaves t)) (values_of_numbers leaf_at (more ++ rest)) s_all in
      let s_back = stand_laws.back (values_of_numbers leaf_at (leaves t)) (values_of_numbers leaf_at (more ++ rest)) s_all in
      let some_cost = cost_law (values_of_numbers leaf_at (leaves t)) s_front in
      let st = standing sound stands join fits cost leaf_at stand_laws some_cost.0 t (there_front leaf_at (leaves t) (more ++ rest) there_all) s_front some_cost.1 in (
        values_of_numbers leaf_at (leaves t),
        values_of_numbers leaf_at more,
        st.v,
        ap (values_of_numbers leaf_at) h.4 ∙ gathered-append leaf_at (leaves t) more,
        ap (part leaf_at node_at) h.2 ∙ (value_of_child join leaf_at node_at t (keeps_of t o h.3 k) ∙ st.value_is),
        st.stands_for,
        parts_stand o children more rest k h.5 (there_back leaf_at (leaves t) (more ++ rest) there_all) s_back,
      )

  -- those before a position
  pub parts_before_stand : (o : Option Tree) (children : List Child) (at : ℕ) → KeepsAll join leaf_at node_at o → AreThere leaf_at (leaves_of_tree o) → sound (leaf_values leaf_at o) → AreParts o children (take at (leaves_of_tree o))
      → StandFor stands (part leaf_at node_at) children (take at (leaf_values leaf_at o))
  parts_before_stand o children at k there s h =
      let all : leaves_of_tree o ≡ take at (leaves_of_tree o) ++ drop at (leaves_of_tree o) = sym (take-append-drop at (leaves_of_tree o)) in
      subst (StandFor stands (part leaf_at node_at) children) (gathered_take leaf_at at (leaves_of_tree o) there ∙ ap (take at) (values o))
      (parts_stand o children (take at (leaves_of_tree o)) (drop at (leaves_of_tree o)) k h (subst (AreThere leaf_at) all there) (subst sound (sym (values o) ∙ ap (values_of_numbers leaf_at) all) s))
    where
      values : (o : Option Tree) → values_of_numbers leaf_at (leaves_of_tree o) ≡ leaf_values leaf_at o
      values None = refl
      values (Some t) = refl

-- no more parts than the tree is high
pub few_parts : (o : Option Tree) (before : List ℕ) (done : ℕ) (parting : Parting) (parts : List Child) → IsBalancedTree o → IsParting o before done (height_of_tree o) parting parts → done ≤ height_of_tree o
    → length parts ≤ highest (leaf_count_of o)
few_parts None before done parting parts b w h = omega (arith, w.1.few, h)
few_parts (Some t) before done parting parts b w h = omega (arith, w.1.few, h, highest_bounds (count t) t b refl)
