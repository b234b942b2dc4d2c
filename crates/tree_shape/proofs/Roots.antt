-- The tree that is read off an arena, and a sound root after an insertion.
use Rattle.std.proofs.Common.{◌≡◌, ℕ, zero, suc, ◌+◌, ◌<◌, ◌≤◌, List, [], ◌∷◌, ◌++◌, length, Option, Some, None, refl, sym, ◌∙◌, ap, subst, arith, ◌⊎◌, inl, inr}
use Rattle.std.specs.Option.{option_map}
use Rattle.std.specs.List.{slice_get}
use Rattle.std.proofs.lemmas.Option.{slice_get_within}
use Rattle.std.proofs.lemmas.Grind.{common_steps}
use Rattle.tree_shape.specs.declared.node.Child.{Child}
use Rattle.tree_shape.specs.declared.node.Child.TheVariants.{Leaf}
use Rattle.tree_shape.specs.declared.node.Node.{Node}
use Rattle.tree_shape.specs.Tree.{Tree, leaf, inner, name, height, count, leaves, node_of_parts, NodesStand, stored_height, IsBalanced}
use Rattle.tree_shape.specs.Plan.{Plan, plan_grown, tree_of_plan, rows}
use Rattle.tree_shape.specs.Apply.{mark, times, times_made, nodes_with_rows, FitRows}
use Rattle.tree_shape.specs.View.{tree_unfolded, tree_at, IsSoundTree, IsRoot, leaf_count_of, leaves_of_tree, tree_with}
use Rattle.tree_shape.specs.Fewest.{list_inserted, list_removed}
use Rattle.tree_shape.specs.Removal.{plan_shrunk, node_removed}
use Rattle.tree_shape.proofs.Removals.{told_shrunk, kept_shrunk, leaves_shrunk, low_shrunk, Lower, as_high, one_lower, IsInner}
use Rattle.tree_shape.proofs.ArenaTrees.{stored_height_is_height, length_leaves}
use Rattle.tree_shape.proofs.ArenaChanges.{IsApplicable, stands_applied, mark_is_one_or_none, fit_rows, made_within}
use Rattle.tree_shape.proofs.Insertions.{times_grown, kept_grown, leaves_grown, well_grown}
use Rattle.tree_shape.proofs.InsertionBounds.{grown_high}
use Rattle.tree_shape.proofs.Heights.{at_most_22}

pub unfolded_is : (f : ℕ) (nodes : List Node) (t : Tree) → NodesStand nodes t → height t ≤ f → tree_unfolded f nodes (name t) ≡ t
unfolded_is f nodes (leaf n) s h = refl
unfolded_is zero nodes (inner n l r) s h = absurd (omega arith)
unfolded_is (suc f) nodes (inner n l r) s h =
    let F : Option Node → Tree = λ o. elim o as (λ v. Tree) [ None ↦ leaf n | Some node ↦ inner n (tree_unfolded f nodes node.left) (tree_unfolded f nodes node.right) ] in
    let el = unfolded_is f nodes l s.1 (omega arith) in
    let er = unfolded_is f nodes r s.2 (omega arith) in
    ap F s.0 ∙ (ap (λ v. inner n v (tree_unfolded f nodes (name r))) el ∙ ap (λ v. inner n l v) er)

pub tree_at_is : (nodes : List Node) (child : Child) (t : Tree) → child ≡ name t → NodesStand nodes t → tree_at nodes child ≡ t
tree_at_is nodes child t e s =
    ap (tree_at nodes) e ∙ unfolded_is (stored_height nodes (name t)) nodes t s (omega (arith, stored_height_is_height nodes (name t) t refl s))

pub record Rooted (nodes : List Node) (root : Option Child) (child : Child) : Type 0 where
  pub t : Tree
  pub sound : IsSoundTree nodes child t
  pub seen : option_map (tree_at nodes) root ≡ Some t

pub rooted : (nodes : List Node) (root : Option Child) (child : Child) → root ≡ Some child → IsRoot nodes root → Rooted nodes root child
rooted nodes None child e r = cc
rooted nodes (Some c) child e r =
    let same : c ≡ child = cc in
    record { t = r.0; sound = subst (λ v. IsSoundTree nodes v r.0) same r.1; seen = ap (λ v. Some v) (tree_at_is nodes c r.0 r.1.named r.1.stands) }

-- every number of a tree that stands is within the arena
either_part : (a b : ℕ) → 1 ≤ a + b → (1 ≤ a) ⊎ (1 ≤ b)
either_part zero b h = inr (omega arith)
either_part (suc a) b h = inl (omega arith)

pub within : (nodes : List Node) (t : Tree) (k : ℕ) → NodesStand nodes t → 1 ≤ times k t → k < length nodes
within nodes (leaf n) k s h = absurd (omega arith)
within nodes (inner n l r) k s h =
    elim (mark_is_one_or_none k n) [
      | inl w ↦ omega (arith, w.0, slice_get_within nodes n (node_of_parts l r) s.0)
      | inr w ↦ elim (either_part (times k l) (times k r) (omega (arith, w.1))) [
        | inl u ↦ within nodes l k s.1 u
        | inr u ↦ within nodes r k s.2 u
      ]
    ]

get_before : {X : Type 0} (xs ys : List X) (k : ℕ) (x : X) → slice_get xs k ≡ Some x → slice_get (xs ++ ys) k ≡ Some x
get_before [] ys k x e = cc
get_before (y ∷ xs) ys zero x e = e
get_before (y ∷ xs) ys (suc k) x e = get_before xs ys k x e

pub stands_longer : (nodes : List Node) (x : Node) (t : Tree) → NodesStand nodes t → NodesStand (nodes ++ x ∷ []) t
stands_longer nodes x (leaf n) s = tt
stands_longer nodes x (inner n l r) s = (get_before nodes _ n _ s.0, stands_longer nodes x l s.1, stands_longer nodes x r s.2)

zero_or : (a : ℕ) → (1 ≤ a → ⊥) → a ≡ 0
zero_or zero h = refl
zero_or (suc a) h = absurd (h (omega arith))

once_grown : (t : Tree) (at new number k : ℕ) → times number t ≡ 0 → times k t ≤ 1 → times k (tree_of_plan (plan_grown at new number t)) ≤ 1
once_grown t at new number k free o =
    elim (mark_is_one_or_none k number) [
      | inl w ↦ omega (arith, times_grown k at new number t, w.1, ap (λ v. times v t) w.0)
      | inr w ↦ omega (arith, times_grown k at new number t, w.1)
    ]

place_grown : (nodes : List Node) (t : Tree) (at new number k : ℕ) → NodesStand nodes t → number < length nodes → 1 ≤ times_made k (plan_grown at new number t) → k < length nodes
place_grown nodes t at new number k s place h =
    let some = made_within k (plan_grown at new number t) in
    let tells = times_grown k at new number t in
    elim (mark_is_one_or_none k number) [
      | inl w ↦ omega (arith, w.0)
      | inr w ↦ within nodes t k s (omega (arith, w.1))
    ]

pub applicable_grown : (nodes : List Node) (t : Tree) (at new number : ℕ) → NodesStand nodes t → ((k : ℕ) → times k t ≤ 1) → times number t ≡ 0 → number < length nodes → IsApplicable nodes (plan_grown at new number t)
applicable_grown nodes t at new number s o free place = record {
  stands = kept_grown nodes at new number t s;
  once = λ k. once_grown t at new number k free (o k);
  places = λ k h. place_grown nodes t at new number k s place h;
}

pub length_inserted : (at x : ℕ) (xs : List ℕ) → at ≤ length xs → length (list_inserted at x xs) ≡ length xs + 1
length_inserted at x xs h = grind (arith, common_steps)

pub count_grown : (at new number : ℕ) (t : Tree) → at ≤ count t → count (tree_of_plan (plan_grown at new number t)) ≡ count t + 1
count_grown at new number t h =
    sym (length_leaves (tree_of_plan (plan_grown at new number t))) ∙ (ap length (leaves_grown at new number t h) ∙ (length_inserted at new (leaves t) (omega (arith, length_leaves t)) ∙ omega (arith, length_leaves t)))

pub fits_grown : (nodes : List Node) (child : Child) (t : Tree) (at new number : ℕ) → IsSoundTree nodes child t → at ≤ count t → times number t ≡ 0 → number < length nodes → FitRows nodes (rows (plan_grown at new number t))
fits_grown nodes child t at new number s h free place =
    fit_rows _ _ (applicable_grown nodes t at new number s.stands s.once free place)
    (omega (arith, grown_high at new number t, at_most_22 t s.balanced s.few))
    (omega (arith, count_grown at new number t h, s.few))

pub sound_grown : (nodes : List Node) (child : Child) (t : Tree) (at new number : ℕ) → IsSoundTree nodes child t → at ≤ count t → count t < 65536 → times number t ≡ 0 → number < length nodes → IsSoundTree (nodes_with_rows nodes (rows (plan_grown at new number t))) (name (tree_of_plan (plan_grown at new number t))) (tree_of_plan (plan_grown at new number t))
sound_grown nodes child t at new number s h few free place = record {
  named = refl;
  stands = stands_applied _ _ (applicable_grown nodes t at new number s.stands s.once free place);
  balanced = (well_grown at new number t s.balanced).balanced;
  once = λ k. once_grown t at new number k free (s.once k);
  few = omega (arith, count_grown at new number t h);
}

-- the same root in another arena
pub sound_in : (nodes other : List Node) (child : Child) (t : Tree) → IsSoundTree nodes child t → NodesStand other t → IsSoundTree other child t
sound_in nodes other child t s stands = record { named = s.named; stands = stands; balanced = s.balanced; once = s.once; few = s.few }

-- A removal.

pub shrunk_times : (k at : ℕ) (t : Tree) → IsInner t → times k (tree_of_plan (plan_shrunk at t)) + mark k (node_removed at t) ≡ times k t
shrunk_times k at (leaf n) i = absurd i
shrunk_times k at (inner m l r) i = told_shrunk k at (inner m l r)

pub applicable_shrunk : (nodes : List Node) (t : Tree) (at : ℕ) → NodesStand nodes t → ((k : ℕ) → times k t ≤ 1) → IsInner t → IsApplicable nodes (plan_shrunk at t)
applicable_shrunk nodes t at s o i = record {
  stands = kept_shrunk nodes at t s;
  once = λ k. omega (arith, shrunk_times k at t i, o k);
  places = λ k h. within nodes t k s (omega (arith, shrunk_times k at t i, made_within k (plan_shrunk at t)));
}

pub length_removed : (at : ℕ) (xs : List ℕ) → at < length xs → length (list_removed at xs) + 1 ≡ length xs
length_removed at xs h = grind (arith, common_steps)

pub count_shrunk : (at : ℕ) (t : Tree) → at < count t → IsInner t → count (tree_of_plan (plan_shrunk at t)) + 1 ≡ count t
count_shrunk at t h i =
    omega (arith, length_leaves (tree_of_plan (plan_shrunk at t)), ap length (leaves_shrunk at t h i), length_removed at (leaves t) (omega (arith, length_leaves t)), length_leaves t)

lower_than : (before : ℕ) (p : Plan) → Lower before p → height (tree_of_plan p) ≤ before
lower_than before p h = elim h [ as_high e ↦ omega arith | one_lower e ↦ omega arith ]

pub not_higher : (at : ℕ) (t : Tree) → IsBalanced t → height (tree_of_plan (plan_shrunk at t)) ≤ height t
not_higher at t b = lower_than (height t) (plan_shrunk at t) (low_shrunk at t b).height

pub fits_shrunk : (nodes : List Node) (child : Child) (t : Tree) (at : ℕ) → IsSoundTree nodes child t → at < count t → IsInner t → FitRows nodes (rows (plan_shrunk at t))
fits_shrunk nodes child t at s h i =
    fit_rows _ _ (applicable_shrunk nodes t at s.stands s.once i)
    (omega (arith, not_higher at t s.balanced, at_most_22 t s.balanced s.few))
    (omega (arith, count_shrunk at t h i, s.few))

pub sound_shrunk : (nodes : List Node) (child : Child) (t : Tree) (at : ℕ) → IsSoundTree nodes child t → at < count t → IsInner t → IsSoundTree (nodes_with_rows nodes (rows (plan_shrunk at t))) (name (tree_of_plan (plan_shrunk at t))) (tree_of_plan (plan_shrunk at t))
sound_shrunk nodes child t at s h i = record {
  named = refl;
  stands = stands_applied _ _ (applicable_shrunk nodes t at s.stands s.once i);
  balanced = (low_shrunk at t s.balanced).balanced;
  once = λ k. omega (arith, shrunk_times k at t i, s.once k);
  few = omega (arith, count_shrunk at t h i, s.few);
}

pub rootless : (nodes : List Node) (root : Option Child) → root ≡ None → option_map (tree_at nodes) root ≡ None
rootless nodes root e = ap (option_map (tree_at nodes)) e

pub sound_leaf : (nodes : List Node) (n : ℕ) → IsSoundTree nodes (Leaf n) (leaf n)
sound_leaf nodes n = record { named = refl; stands = tt; balanced = tt; once = λ k. omega arith; few = omega arith }

pub sound_read : (nodes : List Node) (child : Child) (t : Tree) → IsSoundTree nodes child t → tree_at nodes child ≡ t
sound_read nodes child t s = tree_at_is nodes child t s.named s.stands

none_before : (at new : ℕ) → at ≤ 0 → new ∷ [] ≡ list_inserted at new []
none_before zero new h = refl
none_before (suc at) new h = absurd (omega arith)

pub leaves_with : (at new number : ℕ) (t : Option Tree) → at ≤ leaf_count_of t → leaves (tree_with at new number t) ≡ list_inserted at new (leaves_of_tree t)
leaves_with at new number None h = none_before at new h
leaves_with at new number (Some t) h = leaves_grown at new number t h
