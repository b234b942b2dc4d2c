-- What the rows of a plan say of the tree before the change and of the tree after it.
use Rattle.std.proofs.Common.{◌≡◌, ℕ, zero, suc, ◌+◌, ◌-◌, ◌*◌, ◌<◌, nat_lt, ◌≤◌, List, [], ◌∷◌, ◌++◌, length, Option, Some, refl, sym, ◌∙◌, ap, subst, arith, inl, inr}
use Rattle.std.specs.List.{All, slice_get}
use Rattle.std.proofs.lemmas.List.Elements.{All-nil, All-tail, All-head, All-append, All-push, All-weaker}
use Rattle.tree_shape.specs.declared.node.Child.{Child}
use Rattle.tree_shape.specs.declared.node.Child.TheVariants.{Leaf, Inner}
use Rattle.tree_shape.specs.declared.node.Side.{Side}
use Rattle.tree_shape.specs.declared.node.Side.TheVariants.{Left, Right}
use Rattle.tree_shape.specs.declared.dirty.DirtyRow.{DirtyRow}
use Rattle.tree_shape.specs.Tree.{Tree, leaf, inner, name, height, count, IsBalanced}
use Rattle.tree_shape.proofs.InsertionBounds.{both_ways, both_ways_by, rows_most, grown_listed}
use Rattle.tree_shape.specs.View.{leaf_count_of}
use Rattle.std.proofs.lemmas.Bool.{ltb-true, ltb-false}
use Rattle.tree_shape.specs.Plan.{Plan, kept, made, inner_on, tree_of_plan, dirty_row, rows, plan_grown}
use Rattle.tree_shape.specs.Removal.{plan_shrunk, plan_touched}
use Rattle.tree_shape.specs.Apply.{mark, times, times_made, KeptBy}
use Rattle.tree_shape.specs.Changes.{HasInner, IsSubtree, times_listed, HasChildren, IsNotListed, IsOrdered, IsSubtreeAt, IsNodeOverPosition, BoundsHeight, ListsChanges}
use Rattle.tree_shape.proofs.Insertions.{GoesDown, kept_by_grown, well_grown, same_height, one_higher}
use Rattle.tree_shape.proofs.Removals.{kept_by_shrunk, listed_shrunk}
use Rattle.tree_shape.proofs.NodesAbove.{erase_touched, rows_most as touched_most}
use Rattle.tree_shape.proofs.ArenaChanges.{mark_is_one_or_none, one_same, node_of_row, made_within, times_inner_on}

-- How often a node is listed.

times_listed-append : (k : ℕ) (xs ys : List DirtyRow) → times_listed k (xs ++ ys) ≡ times_listed k xs + times_listed k ys
times_listed-append k [] ys = omega arith
times_listed-append k (x ∷ xs) ys = omega (arith, times_listed-append k xs ys)

pub times_rows : (k : ℕ) (p : Plan) → times_listed k (rows p) ≡ times_made k p
times_rows k (kept t) = refl
times_rows k (made side n near far) =
    let row = dirty_row side n (name (tree_of_plan near)) (name (tree_of_plan far)) in
    omega (arith, times_listed-append k (rows near ++ rows far) (row ∷ []), times_listed-append k (rows near) (rows far), times_rows k near, times_rows k far, ap (mark k) (node_of_row side n (name (tree_of_plan near)) (name (tree_of_plan far))))

-- The inner nodes that are not listed.

-- every inner node of the second tree is one of the first, with the same tree below it
abbrev pub HasInners : Tree → Tree → Type 0
HasInners t part = (k : ℕ) (l r : Tree) → IsSubtree (inner k l r) part → IsSubtree (inner k l r) t

no_part_of_leaf : (k : ℕ) (l r : Tree) (n : ℕ) → inner k l r ≡ leaf n → ⊥
no_part_of_leaf k l r n e = cc

pub inners_go_down : (t : Tree) → GoesDown (HasInners t)
inners_go_down t = record {
  leaf_has = λ n k l r e. absurd (no_part_of_leaf k l r n e);
  parts_have = λ n a b h. (λ k l r p. h k l r (inr (inl p)), λ k l r p. h k l r (inr (inr p)));
}

part_on : (side : Side) (n k : ℕ) (a b l r : Tree) → IsSubtree (inner k l r) (inner_on side n a b) → mark k n ≡ 0 → (P : Type 0) → (IsSubtree (inner k l r) a → P) → (IsSubtree (inner k l r) b → P) → P
part_on Left n k a b l r (inl e) apart P f g = let same : k ≡ n = cc (e) in absurd (omega (arith, one_same k, ap (λ v. mark k v) same))
part_on Left n k a b l r (inr (inl p)) apart P f g = f p
part_on Left n k a b l r (inr (inr p)) apart P f g = g p
part_on Right n k a b l r (inl e) apart P f g = let same : k ≡ n = cc (e) in absurd (omega (arith, one_same k, ap (λ v. mark k v) same))
part_on Right n k a b l r (inr (inl p)) apart P f g = g p
part_on Right n k a b l r (inr (inr p)) apart P f g = f p

others_stay : (t : Tree) (p : Plan) → KeptBy (HasInners t) p → (k : ℕ) (l r : Tree) → IsSubtree (inner k l r) (tree_of_plan p) → times_made k p ≡ 0 → IsSubtree (inner k l r) t
others_stay t (kept s) h k l r part none = h k l r part
others_stay t (made side n near far) h k l r part none =
    part_on side n k (tree_of_plan near) (tree_of_plan far) l r part (omega arith) (IsSubtree (inner k l r) t)
    (λ p. others_stay t near h.0 k l r p (omega arith))
    (λ p. others_stay t far h.1 k l r p (omega arith))

-- The children that are listed.

near_part : (side : Side) (n : ℕ) (a b part : Tree) → IsSubtree part a → IsSubtree part (inner_on side n a b)
near_part Left n a b part p = inr (inl p)
near_part Right n a b part p = inr (inr p)

far_part : (side : Side) (n : ℕ) (a b part : Tree) → IsSubtree part b → IsSubtree part (inner_on side n a b)
far_part Left n a b part p = inr (inr p)
far_part Right n a b part p = inr (inl p)

own_row : (side : Side) (n : ℕ) (a b : Tree) → HasChildren (Some (inner_on side n a b)) (dirty_row side n (name a) (name b))
own_row Left n a b = (a, b, inl refl, refl, refl)
own_row Right n a b = (b, a, inl refl, refl, refl)

in_larger : (t larger : Tree) (xs : List DirtyRow) → ((part : Tree) → IsSubtree part t → IsSubtree part larger) → All (HasChildren (Some t)) xs → All (HasChildren (Some larger)) xs
in_larger t larger xs up all = All-weaker (HasChildren (Some t)) (HasChildren (Some larger)) (λ row h. (h.0, h.1, up (inner row.node h.0 h.1) h.2, h.3, h.4)) xs all

pub children_listed : (p : Plan) → All (HasChildren (Some (tree_of_plan p))) (rows p)
children_listed (kept t) = All-nil (HasChildren (Some t))
children_listed (made side n near far) =
    let whole = inner_on side n (tree_of_plan near) (tree_of_plan far) in
    let P : DirtyRow → Type 0 = HasChildren (Some whole) in
    All-push P (rows near ++ rows far) (dirty_row side n (name (tree_of_plan near)) (name (tree_of_plan far)))
    (All-append P (rows near) (rows far)
    (in_larger (tree_of_plan near) whole (rows near) (near_part side n (tree_of_plan near) (tree_of_plan far)) (children_listed near))
    (in_larger (tree_of_plan far) whole (rows far) (far_part side n (tree_of_plan near) (tree_of_plan far)) (children_listed far)))
    (own_row side n (tree_of_plan near) (tree_of_plan far))

-- Children before parents.

-- the row's children are not among the rows
abbrev IsApart : List DirtyRow → DirtyRow → Type 0
IsApart xs row = IsNotListed row.left xs × IsNotListed row.right xs

not_listed-append : (child : Child) (xs ys : List DirtyRow) → IsNotListed child xs → IsNotListed child ys → IsNotListed child (xs ++ ys)
not_listed-append (Leaf n) xs ys h k = tt
not_listed-append (Inner n) xs ys h k = omega (arith, times_listed-append n xs ys)

ordered-append : (xs ys : List DirtyRow) → IsOrdered xs → IsOrdered ys → All (IsApart ys) xs → IsOrdered (xs ++ ys)
ordered-append [] ys h k a = k
ordered-append (x ∷ xs) ys h k a =
    let here = All-head (IsApart ys) x xs a in (
      not_listed-append x.left (x ∷ xs) ys h.0 here.0,
      not_listed-append x.right (x ∷ xs) ys h.1 here.1,
      ordered-append xs ys h.2 k (All-tail (IsApart ys) x xs a),
    )

-- no inner node of the tree is among the rows
abbrev AreOutside : Tree → List DirtyRow → Type 0
AreOutside t xs = (k : ℕ) → 1 ≤ times k t → times_listed k xs ≡ 0

root_outside : (t : Tree) (xs : List DirtyRow) → AreOutside t xs → IsNotListed (name t) xs
root_outside (leaf n) xs h = tt
root_outside (inner n l r) xs h = h n (omega (arith, one_same n))

part_times : (k : ℕ) (part t : Tree) → IsSubtree part t → times k part ≤ times k t
part_times k part (leaf n) e = omega (arith, ap (times k) e)
part_times k part (inner n l r) (inl e) = omega (arith, ap (times k) e)
part_times k part (inner n l r) (inr (inl p)) = omega (arith, part_times k part l p)
part_times k part (inner n l r) (inr (inr p)) = omega (arith, part_times k part r p)

children_outside : (t : Tree) (xs : List DirtyRow) → AreOutside t xs → (row : DirtyRow) → HasChildren (Some t) row → IsApart xs row
children_outside t xs h row c = (
  subst (λ v. IsNotListed v xs) (sym c.3) (root_outside c.0 xs (λ k w. h k (omega (arith, part_times k (inner row.node c.0 c.1) t c.2)))),
  subst (λ v. IsNotListed v xs) (sym c.4) (root_outside c.1 xs (λ k w. h k (omega (arith, part_times k (inner row.node c.0 c.1) t c.2)))),
)

rows_apart : (p : Plan) (ys : List DirtyRow) → AreOutside (tree_of_plan p) ys → All (IsApart ys) (rows p)
rows_apart p ys h = All-weaker (HasChildren (Some (tree_of_plan p))) (IsApart ys) (children_outside (tree_of_plan p) ys h) (rows p) (children_listed p)

apart_on : (side : Side) (n : ℕ) (a b : Tree) (xs : List DirtyRow) → AreOutside a xs → AreOutside b xs → IsApart xs (dirty_row side n (name a) (name b))
apart_on Left n a b xs h k = (root_outside a xs h, root_outside b xs k)
apart_on Right n a b xs h k = (root_outside b xs k, root_outside a xs h)

pub ordered_rows : (p : Plan) → ((k : ℕ) → times k (tree_of_plan p) ≤ 1) → IsOrdered (rows p)
ordered_rows (kept t) once = tt
ordered_rows (made side n near far) once =
    let a = tree_of_plan near in
    let b = tree_of_plan far in
    let row = dirty_row side n (name a) (name b) in
    let tells : (k : ℕ) → mark k n + (times k a + times k b) ≤ 1 = λ k. omega (arith, once k, times_inner_on side k n a b) in
    let own : (k : ℕ) → times_listed k (row ∷ []) ≡ mark k n = λ k. omega (arith, ap (mark k) (node_of_row side n (name a) (name b))) in
    let near_outside : AreOutside a (row ∷ []) = λ k h. omega (arith, tells k, own k) in
    let far_outside : AreOutside b (row ∷ []) = λ k h. omega (arith, tells k, own k) in
    let last = apart_on side n a b (row ∷ []) near_outside far_outside in
    ordered-append (rows near ++ rows far) (row ∷ [])
    (ordered-append (rows near) (rows far) (ordered_rows near (λ k. omega (arith, tells k))) (ordered_rows far (λ k. omega (arith, tells k)))
    (rows_apart near (rows far) (λ k h. omega (arith, tells k, times_rows k far, made_within k far))))
    (last.0, last.1, tt)
    (All-append (IsApart (row ∷ [])) (rows near) (rows far) (rows_apart near (row ∷ []) near_outside) (rows_apart far (row ∷ []) far_outside))

-- All that the rows of a plan say.

pub listing_of : (t : Tree) (p : Plan) → KeptBy (HasInners t) p → ((k : ℕ) → times k (tree_of_plan p) ≤ 1) → ListsChanges (Some t) (Some (tree_of_plan p)) (rows p)
listing_of t p stays once = record {
  children = children_listed p;
  others = λ k l r part none. others_stay t p stays k l r part (sym (times_rows k p) ∙ none);
  ordered = ordered_rows p once;
  once = λ k. omega (arith, times_rows k p, made_within k p, once k);
}

pub listing_grown : (t : Tree) (at new number : ℕ) → ((k : ℕ) → times k (tree_of_plan (plan_grown at new number t)) ≤ 1) → ListsChanges (Some t) (Some (tree_of_plan (plan_grown at new number t))) (rows (plan_grown at new number t))
listing_grown t at new number once = listing_of t (plan_grown at new number t) (kept_by_grown (HasInners t) (inners_go_down t) at new number t (λ k l r p. p)) once

pub listing_shrunk : (t : Tree) (at : ℕ) → ((k : ℕ) → times k (tree_of_plan (plan_shrunk at t)) ≤ 1) → ListsChanges (Some t) (Some (tree_of_plan (plan_shrunk at t))) (rows (plan_shrunk at t))
listing_shrunk t at once = listing_of t (plan_shrunk at t) (kept_by_shrunk (HasInners t) (inners_go_down t) at t (λ k l r p. p)) once

kept_touched : (whole : Tree) (at : ℕ) (t : Tree) → HasInners whole t → KeptBy (HasInners whole) (plan_touched at t)
kept_touched whole at (leaf n) h = h
kept_touched whole at (inner n l r) h =
    let w = (inners_go_down whole).parts_have n l r h in
    both_ways (KeptBy (HasInners whole)) (nat_lt at (count l)) _ _ (kept_touched whole at l w.0, w.1) (kept_touched whole (at - count l) r w.1, w.0)

pub listing_touched : (t : Tree) (at : ℕ) → ((k : ℕ) → times k t ≤ 1) → ListsChanges (Some t) (Some t) (rows (plan_touched at t))
listing_touched t at once =
    let same = erase_touched at t in
    subst (λ v. ListsChanges (Some t) (Some v) (rows (plan_touched at t))) same
    (listing_of t (plan_touched at t) (kept_touched t at t (λ k l r p. p)) (λ k. omega (arith, once k, ap (times k) same)))

-- How many rows there are.

pub few_grown : (t : Tree) (at new number high : ℕ) → IsBalanced t → BoundsHeight (count (tree_of_plan (plan_grown at new number t))) high → length (rows (plan_grown at new number t)) ≤ 3 * (high + 2)
few_grown t at new number high b bounds =
    let w = well_grown at new number t b in
    let low = bounds (tree_of_plan (plan_grown at new number t)) w.balanced refl in
    let rises : height t ≤ height (tree_of_plan (plan_grown at new number t)) = elim w.height [ same_height e ↦ omega arith | one_higher e g ↦ omega arith ] in
    omega (arith, rows_most (plan_grown at new number t), grown_listed at new number t)

pub few_shrunk : (t : Tree) (at high : ℕ) → IsBalanced t → BoundsHeight (count t) high → length (rows (plan_shrunk at t)) ≤ 3 * (high + 2)
few_shrunk t at high b bounds = omega (arith, listed_shrunk at t, bounds t b refl)

pub few_touched : (t : Tree) (at high : ℕ) → IsBalanced t → BoundsHeight (count t) high → length (rows (plan_touched at t)) ≤ high
few_touched t at high b bounds = omega (arith, touched_most at t, bounds t b refl)

-- The inner nodes above a leaf.

part_within : (part : Tree) (before : ℕ) (t : Tree) → IsSubtreeAt part before t → before + count part ≤ count t
part_within part before (leaf n) p = omega (arith, ap count p.0, p.1)
part_within part before (inner n l r) (inl p) = omega (arith, ap count p.0, p.1)
part_within part before (inner n l r) (inr (inl p)) = omega (arith, part_within part before l p)
part_within part before (inner n l r) (inr (inr p)) = omega (arith, p.1, part_within part p.0 r p.2)

above_listed : (at n : ℕ) (l r : Tree) (before : ℕ) (t : Tree) → IsSubtreeAt (inner n l r) before t → before ≤ at → at < before + count (inner n l r) → 1 ≤ times_made n (plan_touched at t)
above_listed at n l r before (leaf m) p low high = absurd (no_part_of_leaf n l r m p.0)
above_listed at n l r before (inner m a b) (inl p) low high =
    let same : n ≡ m = cc (p.0) in
    both_ways (λ v. 1 ≤ times_made n v) (nat_lt at (count a)) _ _ (omega (arith, one_same n, ap (mark n) same)) (omega (arith, one_same n, ap (mark n) same))
above_listed at n l r before (inner m a b) (inr (inl p)) low high =
    both_ways_by (λ v. 1 ≤ times_made n v) (nat_lt at (count a)) _ _
    (λ e. omega (arith, above_listed at n l r before a p low high))
    (λ e. absurd (omega (arith, ltb-false _ _ e, part_within (inner n l r) before a p)))
above_listed at n l r before (inner m a b) (inr (inr p)) low high =
    both_ways_by (λ v. 1 ≤ times_made n v) (nat_lt at (count a)) _ _
    (λ e. absurd (omega (arith, ltb-true _ _ e, p.1)))
    (λ e. omega (arith, above_listed (at - count a) n l r p.0 b p.2 (omega (arith, p.1)) (omega (arith, p.1, ltb-false _ _ e))))

listed_above : (at n : ℕ) (t : Tree) → at < count t → 1 ≤ times_made n (plan_touched at t) → IsNodeOverPosition (Some t) at n
listed_above at n (leaf m) place = λ h. absurd (omega arith)
listed_above at n (inner m a b) place =
    both_ways_by (λ v. 1 ≤ times_made n v → IsNodeOverPosition (Some (inner m a b)) at n) (nat_lt at (count a)) _ _
    (λ e h. elim (mark_is_one_or_none n m) [
      | inl w ↦ (a, b, 0, inl (ap (λ v. inner v a b) w.0, refl), omega arith, omega arith)
      | inr w ↦ let o = listed_above at n a (ltb-true _ _ e) (omega (arith, w.1)) in (o.0, o.1, o.2, inr (inl o.3), o.4, o.5)
    ])
    (λ e h. elim (mark_is_one_or_none n m) [
      | inl w ↦ (a, b, 0, inl (ap (λ v. inner v a b) w.0, refl), omega arith, omega arith)
      | inr w ↦
          let within = ltb-false _ _ e in
          let o = listed_above (at - count a) n b (omega arith) (omega (arith, w.1)) in
          (o.0, o.1, count a + o.2, inr (inr (o.2, refl, o.3)), omega (arith, o.4), omega (arith, o.5))
    ])

-- what a list says of the nodes above a leaf
pub record IsTouching (t : Option Tree) (at : ℕ) (xs : List DirtyRow) : Type 0 where
  pub listing : ListsChanges t t xs
  pub above : (n : ℕ) → IsNodeOverPosition t at n → times_listed n xs ≡ 1
  pub no_other : (n : ℕ) → 1 ≤ times_listed n xs → IsNodeOverPosition t at n
  pub few : (high : ℕ) → BoundsHeight (leaf_count_of t) high → length xs ≤ high

pub touching : (t : Tree) (at : ℕ) (old : Option Tree) (xs : List DirtyRow) → ((k : ℕ) → times k t ≤ 1) → IsBalanced t → at < count t → old ≡ Some t → xs ≡ rows (plan_touched at t) → IsTouching old at xs
touching t at old xs once balanced place seen list =
    let told = listing_touched t at once in
    rw (seen, list) (record {
      listing = told;
      above = λ n o. omega (arith, told.once n, times_rows n (plan_touched at t), above_listed at n o.0 o.1 o.2 t o.3 o.4 o.5);
      no_other = λ n h. listed_above at n t place (omega (arith, times_rows n (plan_touched at t)));
      few = λ high bounds. few_touched t at high balanced bounds;
    })

-- a listed node is one of the tree's
pub listed_inner : (tree : Option Tree) (xs : List DirtyRow) (i : ℕ) (row : DirtyRow) → All (HasChildren tree) xs → slice_get xs i ≡ Some row → HasInner tree row.node
listed_inner tree [] i row all e = cc
listed_inner tree (x ∷ xs) zero row all e =
    let same : x ≡ row = cc in
    let here = All-head (HasChildren tree) x xs all in
    subst (λ (v : DirtyRow). HasInner tree v.node) same (here.0, here.1, here.2)
listed_inner tree (x ∷ xs) (suc i) row all e = listed_inner tree xs i row (All-tail (HasChildren tree) x xs all) e
