-- The parts of a tree from one leaf to another: their leaves are the stretch, and there are few of them.
use Rattle.std.proofs.Common.{◌≡◌, ℕ, zero, suc, ◌+◌, ◌-◌, ◌*◌, ◌<◌, ◌≤◌, ◌⊎◌, min, cond, List, [], ◌∷◌, ◌++◌, length, take, drop, Option, Some, None, refl, sym, ◌∙◌, ap, subst, arith, inl, inr, length-append}
use Rattle.std.specs.List.{slice_range}
use Rattle.std.specs.Option.{option_map}
use Rattle.std.proofs.lemmas.Bool.{le-leb, lt-leb}
use Rattle.std.proofs.lemmas.Bool.Decides.{leb_tells}
use Rattle.std.proofs.lemmas.List.{append_assoc, append-nil, take_all, length-drop, take-append-drop}
use Rattle.tree_shape.specs.declared.node.Child.{Child}
use Rattle.tree_shape.specs.declared.node.Child.TheVariants.{Leaf, Inner}
use Rattle.tree_shape.specs.Tree.{Tree, leaf, inner, name, leaves, count, height}
use Rattle.tree_shape.specs.Changes.{IsSubtreeOf}
use Rattle.tree_shape.specs.Composing.{StandLaws, Costs}
use Rattle.tree_shape.specs.Fewest.{highest}
use Rattle.tree_shape.specs.Values.{part, values_of_numbers, AreThere, KeepsAll, leaf_values}
use Rattle.tree_shape.specs.View.{leaf_count_of, leaves_of_tree, IsBalancedTree}
use Rattle.tree_shape.proofs.ArenaTrees.{length_leaves}
use Rattle.tree_shape.proofs.HeightBounds.{highest_bounds}
use Rattle.tree_shape.proofs.PlanSteps.{gathered-append, gathered_take, gathered_drop, there_back}
use Rattle.value_tree.specs.Parts.{AreParts, StandFor}
use Rattle.value_tree.specs.Between.{tree_parts_between, IsStretch}
use Rattle.value_tree.specs.declared.between.Counted.{Counted}
use Rattle.value_tree.proofs.TreeParts.{opened, part_self, left_of, right_of, parts_stand}

-- Lists cut from one place to another.

take_both : {X : Type 0} (n : ℕ) (xs ys : List X) → take n (xs ++ ys) ≡ take n xs ++ take (n - length xs) ys
take_both n [] ys = let same : n ≡ n - 0 = omega arith in nothing n ∙ ap (λ k. take n [] ++ take k ys) same
  where
    nothing : (n : ℕ) → take n ys ≡ take n [] ++ take n ys
    nothing zero = refl
    nothing (suc n) = refl
take_both zero (x ∷ xs) ys = let none : 0 - length (x ∷ xs) ≡ 0 = omega arith in rw none refl
take_both (suc n) (x ∷ xs) ys =
    let same : n - length xs ≡ suc n - length (x ∷ xs) = omega arith in
    ap (λ v. x ∷ v) (take_both n xs ys) ∙ ap (λ k. x ∷ (take n xs ++ take k ys)) same

drop_both : {X : Type 0} (n : ℕ) (xs ys : List X) → drop n (xs ++ ys) ≡ drop n xs ++ drop (n - length xs) ys
drop_both n [] ys = let same : n ≡ n - 0 = omega arith in nothing n ∙ ap (λ k. drop n [] ++ drop k ys) same
  where
    nothing : (n : ℕ) → drop n ys ≡ drop n [] ++ drop n ys
    nothing zero = refl
    nothing (suc n) = refl
drop_both zero (x ∷ xs) ys = let none : 0 - length (x ∷ xs) ≡ 0 = omega arith in rw none refl
drop_both (suc n) (x ∷ xs) ys =
    let same : n - length xs ≡ suc n - length (x ∷ xs) = omega arith in
    drop_both n xs ys ∙ ap (λ k. drop n xs ++ drop k ys) same

-- what stands behind the list's end can't be taken
take_inside : {X : Type 0} (xs : List X) (from to : ℕ) → take (to - from) (drop from xs) ≡ take (min to (length xs) - from) (drop from xs)
take_inside xs from to =
    elim (leb_tells to (length xs)) [
      | inl w ↦ let same : to - from ≡ min to (length xs) - from = omega (arith, w.1) in ap (λ k. take k (drop from xs)) same
      | inr w ↦
          let long = length-drop from xs in
          take_all (to - from) (drop from xs) (omega (arith, w.1, long)) ∙ sym (take_all (min to (length xs) - from) (drop from xs) (omega (arith, w.1, long)))
    ]

-- a stretch of two lists is one of each
stretch_both : {X : Type 0} (xs ys : List X) (from to : ℕ) → slice_range (xs ++ ys) from to ≡ slice_range xs from (min to (length xs)) ++ slice_range ys (from - length xs) (to - length xs)
stretch_both xs ys from to =
    let n = length xs in
    let same : (to - from) - length (drop from xs) ≡ (to - n) - (from - n) = omega (arith, length-drop from xs) in
    ap (take (to - from)) (drop_both from xs ys)
    ∙ (take_both (to - from) (drop from xs) (drop (from - n) ys)
    ∙ (ap (λ k. take (to - from) (drop from xs) ++ take k (drop (from - n) ys)) same
    ∙ ap (λ v. v ++ slice_range ys (from - n) (to - n)) (take_inside xs from to)))

-- The parts, by cases.

count_some : (t : Tree) → 1 ≤ count t
count_some (leaf n) = omega arith
count_some (inner n l r) = omega (arith, count_some l)

pub between_none : (t : Tree) (from to : ℕ) → to ≤ from → tree_parts_between from to t ≡ []
between_none (leaf n) from to h = ap (λ b. cond b (Leaf n ∷ []) []) (lt-leb 1 (to - from) (omega (arith, h)))
between_none (inner n l r) from to h =
    let c = count l in
    let both = tree_parts_between from (min to c) l ++ tree_parts_between (from - c) (to - c) r in
    let no = lt-leb (c + count r) (to - from) (omega (arith, h, count_some l)) in
    let first = between_none l from (min to c) (omega (arith, h)) in
    let second = between_none r (from - c) (to - c) (omega (arith, h)) in
    ap (λ b. cond b (Inner n ∷ []) both) no ∙ (ap (λ v. v ++ tree_parts_between (from - c) (to - c) r) first ∙ second)

pub between_whole : (t : Tree) (from to : ℕ) → count t ≤ to - from → tree_parts_between from to t ≡ name t ∷ []
between_whole (leaf n) from to h = ap (λ b. cond b (Leaf n ∷ []) []) (le-leb 1 (to - from) (omega (arith, h)))
between_whole (inner n l r) from to h =
    let c = count l in
    let both = tree_parts_between from (min to c) l ++ tree_parts_between (from - c) (to - c) r in
    ap (λ b. cond b (Inner n ∷ []) both) (le-leb (c + count r) (to - from) (omega (arith, h)))

pub between_halves : (n : ℕ) (l r : Tree) (from to : ℕ) → to - from < count l + count r → tree_parts_between from to (inner n l r) ≡ tree_parts_between from (min to (count l)) l ++ tree_parts_between (from - count l) (to - count l) r
between_halves n l r from to h =
    let c = count l in
    let both = tree_parts_between from (min to c) l ++ tree_parts_between (from - c) (to - c) r in
    ap (λ b. cond b (Inner n ∷ []) both) (lt-leb (c + count r) (to - from) h)

-- Their leaves.

parts_both : (tree : Option Tree) (xs ys : List Child) (ns ms : List ℕ) → AreParts tree xs ns → AreParts tree ys ms → AreParts tree (xs ++ ys) (ns ++ ms)
parts_both tree [] ys ns ms h k = subst (λ v. AreParts tree ys (v ++ ms)) (sym h) k
parts_both tree (x ∷ xs) ys ns ms h k = (h.0, h.1 ++ ms, h.2, h.3, ap (λ v. v ++ ms) h.4 ∙ append_assoc (leaves h.0) h.1 ms, parts_both tree xs ys h.1 ms h.5 k)

whole_parts : (tree : Option Tree) (t : Tree) (from to : ℕ) → IsSubtreeOf t tree → to ≤ count t → count t ≤ to - from → AreParts tree (tree_parts_between from to t) (slice_range (leaves t) from to)
whole_parts tree t from to p inside h =
    let first : from ≡ 0 = omega (arith, inside, h, count_some t) in
    let all : slice_range (leaves t) from to ≡ leaves t = ap (λ k. slice_range (leaves t) k to) first ∙ take_all (to - 0) (leaves t) (omega (arith, h, length_leaves t)) in
    subst (λ v. AreParts tree v (slice_range (leaves t) from to)) (sym (between_whole t from to h)) (t, [], refl, p, all ∙ sym (append-nil (leaves t)), refl)

pub between_parts : (tree : Option Tree) (t : Tree) (from to : ℕ) → IsSubtreeOf t tree → to ≤ count t → AreParts tree (tree_parts_between from to t) (slice_range (leaves t) from to)
between_parts tree (leaf n) from to p inside =
    elim (leb_tells 1 (to - from)) [
      | inl w ↦ whole_parts tree (leaf n) from to p inside w.1
      | inr w ↦
          let none : to - from ≡ 0 = omega (arith, w.1) in
          let nothing : slice_range (n ∷ []) from to ≡ [] = ap (λ k. take k (drop from (n ∷ []))) none in
          subst (λ v. AreParts tree v (slice_range (n ∷ []) from to)) (sym (between_none (leaf n) from to (omega (arith, w.1)))) nothing
    ]
between_parts tree (inner n l r) from to p inside =
    elim (leb_tells (count l + count r) (to - from)) [
      | inl w ↦ whole_parts tree (inner n l r) from to p inside w.1
      | inr w ↦
          let c = count l in
          let first = between_parts tree l from (min to c) (left_of n l r tree p) (omega arith) in
          let second = between_parts tree r (from - c) (to - c) (right_of n l r tree p) (omega (arith, inside)) in
          let numbers = stretch_both (leaves l) (leaves r) from to ∙ ap (λ k. slice_range (leaves l) from (min to k) ++ slice_range (leaves r) (from - k) (to - k)) (length_leaves l) in
          subst (λ v. AreParts tree v (slice_range (leaves l ++ leaves r) from to)) (sym (between_halves n l r from to w.1))
          (subst (AreParts tree (tree_parts_between from (min to c) l ++ tree_parts_between (from - c) (to - c) r)) (sym numbers)
          (parts_both tree (tree_parts_between from (min to c) l) (tree_parts_between (from - c) (to - c) r) (slice_range (leaves l) from (min to c)) (slice_range (leaves r) (from - c) (to - c)) first second))
    ]

-- How many they are.

-- from the first leaf on, or to the last one, no more than one a level
edge_few : (t : Tree) (from to : ℕ) → (from ≡ 0) ⊎ (count t ≤ to) → length (tree_parts_between from to t) ≤ height t + 1
edge_few (leaf n) from to h =
    elim (leb_tells 1 (to - from)) [
      | inl w ↦ omega (arith, ap length (between_whole (leaf n) from to w.1))
      | inr w ↦ omega (arith, ap length (between_none (leaf n) from to (omega (arith, w.1))))
    ]
edge_few (inner n l r) from to h =
    elim (leb_tells (count l + count r) (to - from)) [
      | inl w ↦ omega (arith, ap length (between_whole (inner n l r) from to w.1))
      | inr w ↦
          let c = count l in
          let long = ap length (between_halves n l r from to w.1) ∙ length-append (tree_parts_between from (min to c) l) (tree_parts_between (from - c) (to - c) r) in
          elim h [
            | inl first ↦
                let rest = edge_few r (from - c) (to - c) (inl (omega (arith, first))) in
                elim (leb_tells c to) [
                  | inl v ↦ omega (arith, long, rest, ap length (between_whole l from (min to c) (omega (arith, first, v.1))))
                  | inr v ↦ omega (arith, long, edge_few l from (min to c) (inl first), ap length (between_none r (from - c) (to - c) (omega (arith, v.1))))
                ]
            | inr last ↦
                let front = edge_few l from (min to c) (inr (omega (arith, last))) in
                elim (leb_tells from c) [
                  | inl v ↦ omega (arith, long, front, ap length (between_whole r (from - c) (to - c) (omega (arith, last, v.1))))
                  | inr v ↦ omega (arith, long, edge_few r (from - c) (to - c) (inr (omega (arith, last))), ap length (between_none l from (min to c) (omega (arith, v.1))))
                ]
          ]
    ]

-- no more than two a level
pub between_few : (t : Tree) (from to : ℕ) → length (tree_parts_between from to t) ≤ 2 * height t + 1
between_few (leaf n) from to =
    elim (leb_tells 1 (to - from)) [
      | inl w ↦ omega (arith, ap length (between_whole (leaf n) from to w.1))
      | inr w ↦ omega (arith, ap length (between_none (leaf n) from to (omega (arith, w.1))))
    ]
between_few (inner n l r) from to =
    elim (leb_tells (count l + count r) (to - from)) [
      | inl w ↦ omega (arith, ap length (between_whole (inner n l r) from to w.1))
      | inr w ↦
          let c = count l in
          let long = ap length (between_halves n l r from to w.1) ∙ length-append (tree_parts_between from (min to c) l) (tree_parts_between (from - c) (to - c) r) in
          elim (leb_tells to c) [
            | inl v ↦ omega (arith, long, between_few l from (min to c), ap length (between_none r (from - c) (to - c) (omega (arith, v.1))))
            | inr v ↦
                elim (leb_tells from c) [
                  | inl u ↦ omega (arith, long, edge_few l from (min to c) (inr (omega (arith, v.1))), edge_few r (from - c) (to - c) (inl (omega (arith, u.1))))
                  | inr u ↦ omega (arith, long, between_few r (from - c) (to - c), ap length (between_none l from (min to c) (omega (arith, u.1))))
                ]
          ]
    ]

-- The walk that gathers them.

-- a stretch of an inner node
pub at_node : (tree : Option Tree) (counted : Counted) (to n : ℕ) (t : Tree) → IsStretch tree counted to t → counted.child ≡ Inner n → (l : Tree) × (r : Tree) × (t ≡ inner n l r) × IsStretch tree counted to (inner n l r)
at_node tree counted to n t s e =
    let o = opened n counted.child t s.named e in
    (o.0, o.1, o.2, subst (IsStretch tree counted to) o.2 s)

module _ (tree : Option Tree) (counted : Counted) (to n : ℕ) (l r : Tree) (s : IsStretch tree counted to (inner n l r)) (middle : ℕ) (middle_is : middle ≡ count l) where
  pub lower_left : middle < counted.leaves
  lower_left = omega (arith, s.leaves, middle_is, count_some r)

  pub lower_right : counted.leaves - middle < counted.leaves
  lower_right = omega (arith, s.leaves, middle_is, count_some l)

  pub left_stretch : (child : Child) (end : ℕ) → child ≡ name l → end ≡ min to middle → IsStretch tree (record { child = child; leaves = middle }) end l
  left_stretch child end e is = record { part = left_of n l r tree s.part; named = e; leaves = middle_is; inside = omega (arith, is, middle_is) }

  pub right_stretch : (child : Child) (end : ℕ) → child ≡ name r → end ≡ to - middle → IsStretch tree (record { child = child; leaves = counted.leaves - middle }) end r
  right_stretch child end e is = record { part = right_of n l r tree s.part; named = e; leaves = omega (arith, s.leaves, middle_is); inside = omega (arith, is, middle_is, s.inside) }

  -- what both parts add
  pub both_added : (from left_end right_start right_end : ℕ) (old mid new : List Child) → to - from < counted.leaves → left_end ≡ min to middle → right_start ≡ from - middle → right_end ≡ to - middle
      → mid ≡ old ++ tree_parts_between from left_end l → new ≡ mid ++ tree_parts_between right_start right_end r → new ≡ old ++ tree_parts_between from to (inner n l r)
  both_added from left_end right_start right_end old mid new few left_is start_is end_is first second =
      let c = count l in
      let left : tree_parts_between from left_end l ≡ tree_parts_between from (min to c) l = ap (λ k. tree_parts_between from k l) (left_is ∙ ap (λ k. min to k) middle_is) in
      let start : right_start ≡ from - c = start_is ∙ ap (λ k. from - k) middle_is in
      let end : right_end ≡ to - c = end_is ∙ ap (λ k. to - k) middle_is in
      let right : tree_parts_between right_start right_end r ≡ tree_parts_between (from - c) (to - c) r = ap (λ k. tree_parts_between k right_end r) start ∙ ap (λ k. tree_parts_between (from - c) k r) end in
      second
      ∙ (ap (λ v. v ++ tree_parts_between right_start right_end r) first
      ∙ (append_assoc old (tree_parts_between from left_end l) (tree_parts_between right_start right_end r)
      ∙ (ap (λ v. old ++ (v ++ tree_parts_between right_start right_end r)) left
      ∙ (ap (λ v. old ++ (tree_parts_between from (min to c) l ++ v)) right
      ∙ ap (λ v. old ++ v) (sym (between_halves n l r from to (omega (arith, few, s.leaves))))))))

-- The whole tree.

-- the walk's beginning
pub at_root : (o : Option Tree) (root : Child) (many to : ℕ) → Some root ≡ option_map name o → many ≡ leaf_count_of o → to ≤ leaf_count_of o → (t : Tree) × (o ≡ Some t) × IsStretch o (record { child = root; leaves = many }) to t
at_root None root many to e is inside = cc (e)
at_root (Some t) root many to e is inside = let named : root ≡ name t = cc (e) in (t, refl, record { part = part_self t; named = named; leaves = is; inside = inside })

-- what it has gathered at its end
pub tree_between : (o : Option Tree) (t : Tree) (from to : ℕ) (children : List Child) → o ≡ Some t → to ≤ leaf_count_of o → children ≡ tree_parts_between from to t → AreParts o children (slice_range (leaves_of_tree o) from to)
tree_between None t from to children e inside is = cc (e)
tree_between (Some u) t from to children e inside is =
    let same : t ≡ u = cc (e) in
    subst (λ v. AreParts (Some u) v (slice_range (leaves u) from to)) (sym (is ∙ ap (tree_parts_between from to) same)) (between_parts (Some u) u from to (part_self u) inside)

pub tree_few : (o : Option Tree) (t : Tree) (from to : ℕ) (children : List Child) → o ≡ Some t → IsBalancedTree o → children ≡ tree_parts_between from to t → length children ≤ 2 * highest (leaf_count_of o) + 1
tree_few None t from to children e balanced is = cc (e)
tree_few (Some u) t from to children e balanced is =
    let same : t ≡ u = cc (e) in
    let low = highest_bounds (count u) u balanced refl in
    omega (arith, ap length (is ∙ ap (tree_parts_between from to) same), between_few u from to, low)

-- the values of the parts stand for those of the stretch
module _ {V : Type 0} (join : V → V → V) (fits : V → V → Type 0) (cost : V → ℕ) (sound : List V → Type 0) (stands : List V → V → Type 0) (stand_laws : StandLaws sound stands join fits) (cost_law : (xs : List V) → sound xs → (each : ℕ) × Costs stands cost each xs) (leaf_at node_at : ℕ → Option V) where
  pub parts_between_stand : (o : Option Tree) (children : List Child) (from to : ℕ) → KeepsAll join leaf_at node_at o → AreThere leaf_at (leaves_of_tree o) → sound (leaf_values leaf_at o) → AreParts o children (slice_range (leaves_of_tree o) from to)
      → StandFor stands (part leaf_at node_at) children (slice_range (leaf_values leaf_at o) from to)
  parts_between_stand o children from to k there s h =
      let all = leaves_of_tree o in
      let front = take from all in
      let back = drop from all in
      let many = to - from in
      let split : all ≡ front ++ back = sym (take-append-drop from all) in
      let halves : back ≡ take many back ++ drop many back = sym (take-append-drop many back) in
      let there_behind : AreThere leaf_at back = there_back leaf_at front back (subst (AreThere leaf_at) split there) in
      let sound_all : sound (values_of_numbers leaf_at front ++ values_of_numbers leaf_at back) = subst sound (sym (values o) ∙ (ap (values_of_numbers leaf_at) split ∙ gathered-append leaf_at front back)) s in
      let sound_behind : sound (values_of_numbers leaf_at back) = stand_laws.back (values_of_numbers leaf_at front) (values_of_numbers leaf_at back) sound_all in
      let told : values_of_numbers leaf_at (take many back) ≡ slice_range (leaf_values leaf_at o) from to = gathered_take leaf_at many back there_behind ∙ ap (take many) (gathered_drop leaf_at from all there ∙ ap (drop from) (values o)) in
      subst (StandFor stands (part leaf_at node_at) children) told
      (parts_stand join fits cost sound stands stand_laws cost_law leaf_at node_at o children (take many back) (drop many back) k h (subst (AreThere leaf_at) halves there_behind) (subst sound (ap (values_of_numbers leaf_at) halves) sound_behind))
    where
      values : (o : Option Tree) → values_of_numbers leaf_at (leaves_of_tree o) ≡ leaf_values leaf_at o
      values None = refl
      values (Some t) = refl
