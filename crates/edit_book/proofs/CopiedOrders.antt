-- An order made anew: its leaves are numbered from the first on, and its tables tell the ids by their places and the places by the ids.
use Rattle.std.proofs.Common.{◌≡◌, ℕ, suc, ◌+◌, ◌<◌, ◌≤◌, List, [], ◌∷◌, length, Option, Some, None, sym, ap, ◌∙◌, refl, arith, inl, inr}
use Rattle.std.specs.Prelude.{get_or, slice_index}
use Rattle.std.specs.List.{position, slice_get}
use Rattle.std.proofs.lemmas.Bool.{eqb-true}
use Rattle.std.proofs.lemmas.Bool.Decides.{leb_tells}
use Rattle.std.proofs.lemmas.List.{get_or_past}
use Rattle.std.proofs.lemmas.List.Quantifiers.{position-Some}
use Rattle.std.proofs.lemmas.Option.{slice_get_within, slice_get-get_or}
use Rattle.tree_shape.specs.Building.{numbers_from}
use Rattle.tree_shape.specs.Changes.{numbers_below}
use Rattle.tree_shape.specs.Numbers.{times_in}
use Rattle.tree_shape.specs.Tree.{Tree}
use Rattle.tree_shape.specs.Values.{values_of_numbers, joined_on}
use Rattle.tree_shape.specs.View.{leaf_count_of, leaves_of_tree}
use Rattle.tree_shape.proofs.Halves.{below_from}
use Rattle.tree_shape.proofs.PlanSteps.{index_times}
use Rattle.tree_shape.proofs.Shapes.{length_tree}
use Rattle.edit_book.specs.Orders.{LeavesHaveIds, is_id, number_at}
use Rattle.edit_book.proofs.Orders.{below_times, id_at_leaf_place, kept_count, leaf_of_id, leaf_place_of_id, times_below}

-- a table that tells what it is to tell of each place that it has, and lacks no place
pub told_all : (table : List (Option ℕ)) (told : ℕ → Option ℕ) → ((k : ℕ) → k < length table → number_at table k ≡ told k) → ((k : ℕ) → length table ≤ k → told k ≡ None) → (k : ℕ) → number_at table k ≡ told k
told_all table told within past k = elim (leb_tells (length table) k) [
  | inl w ↦ get_or_past table k None w.1 ∙ sym (past k w.1)
  | inr w ↦ within k w.1
]

-- the id at a place has that place, since no id stands twice
pub own_place : (t : Option Tree) (f g : ℕ → Option ℕ) → LeavesHaveIds (leaves_of_tree t) f g → ((k : ℕ) → times_in k (leaves_of_tree t) ≤ 1) → (at id : ℕ)
    → slice_get (values_of_numbers f (leaves_of_tree t)) at ≡ Some id → position (is_id id) (values_of_numbers f (leaves_of_tree t)) ≡ Some at
own_place t f g k once at id there =
    let ns : List ℕ = leaves_of_tree t in
    let within : at < leaf_count_of t = omega (arith, slice_get_within (values_of_numbers f ns) at id there, kept_count t f g k) in
    let inside : at < length ns = omega (arith, within, length_tree t) in
    let own : f (slice_index ns at) ≡ Some id = sym (id_at_leaf_place t f g at k within) ∙ there in
    let leaf = leaf_of_id ns f g (slice_index ns at) id k (index_times at (slice_index ns at) ns inside refl) own in
    leaf_place_of_id ns f g id (slice_index ns at) at k once leaf (slice_get-get_or ns at 0 inside)

gathered_from : (f : ℕ → Option ℕ) (n : ℕ) (ids : List ℕ) → ((k : ℕ) → f (n + k) ≡ slice_get ids k) → values_of_numbers f (numbers_from n (length ids)) ≡ ids
gathered_from f n [] told = refl
gathered_from f n (id ∷ ids) told =
    let first : f n ≡ Some id = ap f (let e : n ≡ n + 0 = omega arith in e) ∙ told 0 in
    let rest = gathered_from f (suc n) ids (λ k. ap f (let e : suc n + k ≡ n + suc k = omega arith in e) ∙ told (suc k)) in
    ap (λ o. joined_on o (values_of_numbers f (numbers_from (suc n) (length ids)))) first ∙ ap (λ (l : List ℕ). id ∷ l) rest

-- the ids are in their order
pub copied_ids : (ids : List ℕ) (f : ℕ → Option ℕ) → ((k : ℕ) → f k ≡ slice_get ids k) → values_of_numbers f (numbers_below (length ids)) ≡ ids
copied_ids ids f f_is = ap (values_of_numbers f) (sym (below_from (length ids))) ∙ gathered_from f 0 ids (λ k. ap f (let e : 0 + k ≡ k = omega arith in e) ∙ f_is k)

-- and the tables fit the leaves
pub copied_kept : (ids : List ℕ) (f g : ℕ → Option ℕ) → ((k : ℕ) → f k ≡ slice_get ids k) → ((id : ℕ) → g id ≡ position (is_id id) ids)
    → ((at id : ℕ) → slice_get ids at ≡ Some id → position (is_id id) ids ≡ Some at) → LeavesHaveIds (numbers_below (length ids)) f g
copied_kept ids f g f_is g_is own = record {
  given = λ n w.
      let there = slice_get-get_or ids n 0 (below_times n (length ids) w) in
      (get_or ids n 0, f_is n ∙ there, g_is (get_or ids n 0) ∙ own n (get_or ids n 0) there);
  back = λ id n e.
      let found = position-Some (is_id id) ids n 0 (sym (g_is id) ∙ e) in
      (times_below n (length ids) found.0, f_is n ∙ (slice_get-get_or ids n 0 found.0 ∙ ap (λ (x : ℕ). Some x) (eqb-true (get_or ids n 0) id found.1)));
}
