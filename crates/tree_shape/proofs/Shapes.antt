-- A shape after one change: its root, and the numbers of its leaves and inner nodes.
use Rattle.std.proofs.Common.{◌≡◌, ℕ, zero, suc, ◌+◌, ◌*◌, ◌<◌, ◌≤◌, List, [], ◌∷◌, ◌++◌, length, take, drop, Option, Some, None, refl, sym, ◌∙◌, ap, subst, arith, length-append, inl, inr, add-one}
use Rattle.std.specs.Prelude.{slice_index}
use Rattle.std.specs.Option.{option_map}
use Rattle.std.proofs.Common.{Bool, true, false, ◌&&◌, nat_lt}
use Rattle.std.proofs.lemmas.Bool.{ltb-true}
use Rattle.tree_shape.specs.declared.node.Child.{Child}
use Rattle.tree_shape.specs.declared.node.Child.TheVariants.{Leaf, Inner}
use Rattle.tree_shape.specs.declared.node.Node.{Node}
use Rattle.tree_shape.specs.Tree.{Tree, leaf, inner, name, count, leaves, inner_node_numbers, IsBalanced, NodesStand}
use Rattle.tree_shape.specs.Changes.{IsSubtree, IsSubtreeOf, ListsChanges, BoundsHeight}
use Rattle.tree_shape.specs.declared.dirty.DirtyRow.{DirtyRow}
use Rattle.tree_shape.specs.Plan.{plan_grown, tree_of_plan, rows}
use Rattle.tree_shape.specs.Apply.{mark, times}
use Rattle.tree_shape.specs.Removal.{plan_shrunk, node_removed}
use Rattle.tree_shape.specs.Fewest.{list_inserted, list_removed}
use Rattle.tree_shape.specs.Numbers.{NumbersView, times_in, next_number, numbers_without_next, given_back, AreNumbersAccounted}
use Rattle.tree_shape.specs.View.{ShapeView, tree_at, leaf_count_of, leaves_of_tree, inners_of_tree, IsBalancedTree, IsSoundTree, IsRoot, IsShape, IsLawfulShape, tree_without, inners_without}
use Rattle.tree_shape.proofs.ArenaTrees.{length_leaves}
use Rattle.tree_shape.proofs.Insertions.{times_grown, leaves_grown}
use Rattle.tree_shape.proofs.Removals.{leaves_shrunk, IsInner}
use Rattle.tree_shape.proofs.Listings.{listing_grown, listing_shrunk, few_grown, few_shrunk}
use Rattle.tree_shape.proofs.Roots.{rooted, sound_read, count_grown, count_shrunk, shrunk_times, sound_leaf}
use Rattle.tree_shape.proofs.NumberCounts.{times_in-append, counted_taken, counted_back, counted_none, fresh, comes, drawn_new, free_again}

pub times_inners : (k : ℕ) (t : Tree) → times_in k (inner_node_numbers t) ≡ times k t
times_inners k (leaf n) = refl
times_inners k (inner n l r) = omega (arith, times_in-append k (inner_node_numbers l) (inner_node_numbers r), times_inners k l, times_inners k r)

pub length_inners : (t : Tree) → length (inner_node_numbers t) + 1 ≡ count t
length_inners (leaf n) = refl
length_inners (inner n l r) = omega (arith, length-append (inner_node_numbers l) (inner_node_numbers r), length_inners l, length_inners r)

split_times : (k at : ℕ) (xs : List ℕ) → times_in k (take at xs) + times_in k (drop at xs) ≡ times_in k xs
split_times k zero xs = omega arith
split_times k (suc at) [] = refl
split_times k (suc at) (x ∷ xs) = omega (arith, split_times k at xs)

pub times_inserted : (k at x : ℕ) (xs : List ℕ) → times_in k (list_inserted at x xs) ≡ mark k x + times_in k xs
times_inserted k at x xs = omega (arith, times_in-append k (take at xs) (x ∷ drop at xs), split_times k at xs)

pub times_removed : (k at : ℕ) (xs : List ℕ) → at < length xs → times_in k (list_removed at xs) + mark k (slice_index xs at) ≡ times_in k xs
times_removed k at [] h = absurd (omega arith)
times_removed k zero (x ∷ xs) h = omega arith
times_removed k (suc at) (x ∷ xs) h =
    let w = times_removed k at xs (omega arith) in
    let rest : drop (suc at + 1) (x ∷ xs) ≡ drop (at + 1) xs = ap (λ n. drop n (x ∷ xs)) (add-one (suc at)) ∙ sym (ap (λ n. drop n xs) (add-one at)) in
    let e : list_removed (suc at) (x ∷ xs) ≡ x ∷ list_removed at xs = ap (λ v. (x ∷ take at xs) ++ v) rest in
    let f : slice_index (x ∷ xs) (suc at) ≡ slice_index xs at = refl in
    omega (arith, w, ap (times_in k) e, ap (mark k) f)

-- what the invariant says, by the tree
pub counted_leaves : (nodes : List Node) (child : Child) (t : Tree) (l i : NumbersView) → IsShape nodes (Some child) l i → IsSoundTree nodes child t → AreNumbersAccounted l (leaves t)
counted_leaves nodes child t l i c s = subst (λ v. AreNumbersAccounted l (leaves v)) (sound_read nodes child t s) c.leaves

pub counted_inners : (nodes : List Node) (child : Child) (t : Tree) (l i : NumbersView) → IsShape nodes (Some child) l i → IsSoundTree nodes child t → AreNumbersAccounted i (inner_node_numbers t)
counted_inners nodes child t l i c s = subst (λ v. AreNumbersAccounted i (inner_node_numbers v)) (sound_read nodes child t s) c.inners

-- the next inner number is not in the tree
pub next_free : (nodes : List Node) (child : Child) (t : Tree) (l i : NumbersView) → IsShape nodes (Some child) l i → IsSoundTree nodes child t → times (next_number i) t ≡ 0
next_free nodes child t l i c s = sym (times_inners (next_number i) t) ∙ fresh i (inner_node_numbers t) (counted_inners nodes child t l i c s)

pub shape_of : (nodes : List Node) (child : Child) (t : Tree) (l i : NumbersView) → IsSoundTree nodes child t → AreNumbersAccounted l (leaves t) → AreNumbersAccounted i (inner_node_numbers t) → IsShape nodes (Some child) l i
shape_of nodes child t l i s leaf_count inner_count =
    let seen = sym (sound_read nodes child t s) in
    record { sound = (t, s); leaves = subst (λ v. AreNumbersAccounted l (leaves v)) seen leaf_count; inners = subst (λ v. AreNumbersAccounted i (inner_node_numbers v)) seen inner_count }

pub shape_first : (nodes : List Node) (l i : NumbersView) → IsShape nodes None l i → IsShape nodes (Some (Leaf (next_number l))) (numbers_without_next l) i
shape_first nodes l i c =
    shape_of nodes (Leaf (next_number l)) (leaf (next_number l)) (numbers_without_next l) i (sound_leaf nodes (next_number l))
    (counted_taken l [] (next_number l ∷ []) c.leaves (omega arith) refl (λ k. refl)) c.inners

pub shape_grown : (nodes other : List Node) (child top : Child) (t : Tree) (at : ℕ) (l i : NumbersView) → IsShape nodes (Some child) l i → IsSoundTree nodes child t → at ≤ count t → count t < 65536
    → IsSoundTree other top (tree_of_plan (plan_grown at (next_number l) (next_number i) t)) → IsShape other (Some top) (numbers_without_next l) (numbers_without_next i)
shape_grown nodes other child top t at l i c s h few after =
    let g = tree_of_plan (plan_grown at (next_number l) (next_number i) t) in
    let list = leaves_grown at (next_number l) (next_number i) t h in
    let many = count_grown at (next_number l) (next_number i) t h in
    shape_of other top g (numbers_without_next l) (numbers_without_next i) after
    (counted_taken l (leaves t) (leaves g) (counted_leaves nodes child t l i c s) (omega (arith, length_leaves t)) (omega (arith, length_leaves t, length_leaves g))
    (λ k. ap (times_in k) list ∙ times_inserted k at (next_number l) (leaves t)))
    (counted_taken i (inner_node_numbers t) (inner_node_numbers g) (counted_inners nodes child t l i c s) (omega (arith, length_inners t)) (omega (arith, length_inners t, length_inners g))
    (λ k. omega (arith, times_inners k g, times_inners k t, times_grown k at (next_number l) (next_number i) t)))

pub shape_shrunk : (nodes other : List Node) (child top : Child) (t : Tree) (at : ℕ) (l i : NumbersView) → IsShape nodes (Some child) l i → IsSoundTree nodes child t → at < count t → IsInner t
    → IsSoundTree other top (tree_of_plan (plan_shrunk at t)) → IsShape other (Some top) (given_back (slice_index (leaves t) at) l) (given_back (node_removed at t) i)
shape_shrunk nodes other child top t at l i c s h inside after =
    let g = tree_of_plan (plan_shrunk at t) in
    let list = leaves_shrunk at t h inside in
    let many = count_shrunk at t h inside in
    shape_of other top g (given_back (slice_index (leaves t) at) l) (given_back (node_removed at t) i) after
    (counted_back l (leaves t) (leaves g) (slice_index (leaves t) at) (counted_leaves nodes child t l i c s) (omega (arith, length_leaves t, length_leaves g))
    (λ k. omega (arith, ap (times_in k) list, times_removed k at (leaves t) (omega (arith, length_leaves t)))))
    (counted_back i (inner_node_numbers t) (inner_node_numbers g) (node_removed at t) (counted_inners nodes child t l i c s) (omega (arith, length_inners t, length_inners g))
    (λ k. omega (arith, times_inners k g, times_inners k t, shrunk_times k at t inside)))

pub shape_emptied : (nodes : List Node) (n : ℕ) (l i : NumbersView) → IsShape nodes (Some (Leaf n)) l i → IsShape nodes None (given_back n l) i
shape_emptied nodes n l i c = record { sound = tt; leaves = counted_back l (n ∷ []) [] n c.leaves refl (λ k. omega arith); inners = c.inners }

pub shape_none : (nodes : List Node) → IsShape nodes None (record { free = []; drawn = 0 }) (record { free = []; drawn = 0 })
shape_none nodes = record { sound = tt; leaves = counted_none; inners = counted_none }

-- what the invariant says of the value
lawful_root : (nodes : List Node) (top : Option Child) → IsRoot nodes top → IsBalancedTree (option_map (tree_at nodes) top) × (leaf_count_of (option_map (tree_at nodes) top) ≤ 65536)
lawful_root nodes None r = (tt, omega arith)
lawful_root nodes (Some child) r =
    let seen = sym (sound_read nodes child r.0 r.1) in
    (subst IsBalanced seen r.1.balanced, subst (λ v. count v ≤ 65536) seen r.1.few)

pub lawful : (nodes : List Node) (top : Option Child) (v : ShapeView) → IsShape nodes top v.leaf_numbers v.inner_numbers → v.tree ≡ option_map (tree_at nodes) top → IsLawfulShape v
lawful nodes top v c e =
    let back = sym e in
    let w = lawful_root nodes top c.sound in
    record {
      balanced = subst IsBalancedTree back w.0;
      few = subst (λ t. leaf_count_of t ≤ 65536) back w.1;
      leaves = subst (λ t. AreNumbersAccounted v.leaf_numbers (leaves_of_tree t)) back c.leaves;
      inners = subst (λ t. AreNumbersAccounted v.inner_numbers (inners_of_tree t)) back c.inners;
    }

pub root_name : (nodes : List Node) (top : Option Child) → IsRoot nodes top → top ≡ option_map name (option_map (tree_at nodes) top)
root_name nodes None r = refl
root_name nodes (Some child) r = ap (λ v. Some v) (r.1.named ∙ ap name (sym (sound_read nodes child r.0 r.1)))

pub part_stands_in : (nodes : List Node) (part t : Tree) → NodesStand nodes t → IsSubtree part t → NodesStand nodes part
part_stands_in nodes part (leaf n) s p = subst (NodesStand nodes) (sym p) s
part_stands_in nodes part (inner n l r) s (inl p) = subst (NodesStand nodes) (sym p) s
part_stands_in nodes part (inner n l r) s (inr (inl p)) = part_stands_in nodes part l s.1 p
part_stands_in nodes part (inner n l r) s (inr (inr p)) = part_stands_in nodes part r s.2 p

-- a part of the tree that is read off an arena stands in it
pub part_stands : (nodes : List Node) (top : Option Child) (part : Tree) → IsRoot nodes top → IsSubtreeOf part (option_map (tree_at nodes) top) → NodesStand nodes part
part_stands nodes None part r p = absurd p
part_stands nodes (Some child) part r p = part_stands_in nodes part r.0 r.1.stands (subst (IsSubtree part) (sound_read nodes child r.0 r.1) p)

both : (b c : Bool) → (b && c) ≡ true → (b ≡ true) × (c ≡ true)
both true c e = (refl, e)
both false c e = cc

pub rooms : (a b c d e f p q : ℕ) → (((nat_lt a b && nat_lt c d) && nat_lt e f) && (nat_lt a p && nat_lt c q)) ≡ true → (a < b) × (c < d) × (e < f) × (a < p) × (c < q)
rooms a b c d e f p q h =
    let u = both ((nat_lt a b && nat_lt c d) && nat_lt e f) (nat_lt a p && nat_lt c q) h in
    let w = both (nat_lt a b && nat_lt c d) (nat_lt e f) u.0 in
    let v = both (nat_lt a b) (nat_lt c d) w.0 in
    let x = both (nat_lt a p) (nat_lt c q) u.1 in
    (ltb-true a b v.0, ltb-true c d v.1, ltb-true e f w.1, ltb-true a p x.0, ltb-true c q x.1)

pub taken_drawn : (v : NumbersView) → (numbers_without_next v).drawn ≤ v.drawn + 1
taken_drawn v = elim (comes v) [ drawn_new e n f d ↦ omega (arith, d) | free_again e d ↦ omega (arith, d) ]

pub shape_at : (nodes : List Node) (top : Option Child) (child : Child) (l i : NumbersView) → top ≡ Some child → IsShape nodes top l i → IsShape nodes (Some child) l i
shape_at nodes top child l i e c = subst (λ v. IsShape nodes v l i) e c

-- the tree below a root that is there, and what is known of it
pub record TreeBelow (nodes : List Node) (child : Child) (l i : NumbersView) (tree : Option Tree) : Type 0 where
  pub t : Tree
  pub sound : IsSoundTree nodes child t
  pub seen : tree ≡ Some t
  pub shape : IsShape nodes (Some child) l i

pub tree_below : (nodes : List Node) (root : Option Child) (child : Child) (l i : NumbersView) (tree : Option Tree) → root ≡ Some child → option_map (tree_at nodes) root ≡ tree → IsShape nodes root l i → TreeBelow nodes child l i tree
tree_below nodes root child l i tree is view shape =
    let r = rooted nodes root child is shape.sound in
    record { t = r.t; sound = r.sound; seen = sym view ∙ r.seen; shape = shape_at nodes root child l i is shape }

pub inside : (n : ℕ) (t : Tree) → Inner n ≡ name t → IsInner t
inside n (leaf m) e = cc
inside n (inner m l r) e = tt

count_positive : (t : Tree) → 1 ≤ count t
count_positive (leaf n) = omega arith
count_positive (inner n l r) = omega (arith, count_positive l)

two_leaves : (t : Tree) → IsInner t → 2 ≤ count t
two_leaves (leaf n) i = absurd i
two_leaves (inner n l r) i = omega (arith, count_positive l, count_positive r)

-- a number in use can be given back
pub leaf_room : (nodes : List Node) (child : Child) (t : Tree) (l i : NumbersView) → IsShape nodes (Some child) l i → IsSoundTree nodes child t → length l.free < l.drawn
leaf_room nodes child t l i c s = let counted = counted_leaves nodes child t l i c s in omega (arith, counted.all, length_leaves t, count_positive t)

pub inner_room : (nodes : List Node) (child : Child) (t : Tree) (l i : NumbersView) → IsShape nodes (Some child) l i → IsSoundTree nodes child t → IsInner t → length i.free < i.drawn
inner_room nodes child t l i c s within = let counted = counted_inners nodes child t l i c s in omega (arith, counted.all, length_inners t, two_leaves t within)

pub tree_without_inner : (at : ℕ) (t : Tree) → IsInner t → tree_without at (Some t) ≡ Some (tree_of_plan (plan_shrunk at t))
tree_without_inner at (leaf n) i = absurd i
tree_without_inner at (inner n l r) i = refl

pub inners_without_inner : (at : ℕ) (t : Tree) (v : NumbersView) → IsInner t → inners_without at (Some t) v ≡ given_back (node_removed at t) v
inners_without_inner at (leaf n) v i = absurd i
inners_without_inner at (inner n l r) v i = refl

pub length_tree : (t : Option Tree) → length (leaves_of_tree t) ≡ leaf_count_of t
length_tree None = refl
length_tree (Some t) = length_leaves t

-- What is listed, of the trees that are read off the arena.

pub listing_put : (nodes : List Node) (child : Child) (t : Tree) (at new number : ℕ) (old : Option Tree) (xs : List DirtyRow) → IsSoundTree nodes child (tree_of_plan (plan_grown at new number t)) → old ≡ Some t → xs ≡ rows (plan_grown at new number t) → ListsChanges old (Some (tree_at nodes child)) xs
listing_put nodes child t at new number old xs s e l = rw (e, l, sound_read nodes child (tree_of_plan (plan_grown at new number t)) s) (listing_grown t at new number s.once)

pub few_put : (nodes : List Node) (child : Child) (t : Tree) (at new number : ℕ) (xs : List DirtyRow) → IsSoundTree nodes child (tree_of_plan (plan_grown at new number t)) → IsBalanced t → xs ≡ rows (plan_grown at new number t)
    → (high : ℕ) → BoundsHeight (count (tree_at nodes child)) high → length xs ≤ 3 * (high + 2)
few_put nodes child t at new number xs s b l high bounds =
    rw l (few_grown t at new number high b (subst (λ v. BoundsHeight (count v) high) (sound_read nodes child (tree_of_plan (plan_grown at new number t)) s) bounds))

pub listing_taken : (nodes : List Node) (child : Child) (t : Tree) (at : ℕ) (old : Option Tree) (xs : List DirtyRow) → IsSoundTree nodes child (tree_of_plan (plan_shrunk at t)) → old ≡ Some t → xs ≡ rows (plan_shrunk at t) → ListsChanges old (Some (tree_at nodes child)) xs
listing_taken nodes child t at old xs s e l = rw (e, l, sound_read nodes child (tree_of_plan (plan_shrunk at t)) s) (listing_shrunk t at s.once)

pub few_taken : (t : Tree) (at : ℕ) (old : Option Tree) (xs : List DirtyRow) → IsBalanced t → old ≡ Some t → xs ≡ rows (plan_shrunk at t) → (high : ℕ) → BoundsHeight (leaf_count_of old) high → length xs ≤ 3 * (high + 2)
few_taken t at old xs b e l high bounds = rw l (few_shrunk t at high b (subst (λ v. BoundsHeight (leaf_count_of v) high) e bounds))
