-- What a change of the list makes of a sum.
use Rattle.std.proofs.Common.{◌≡◌, ℕ, zero, suc, ◌+◌, ◌≤◌, List, [], ◌∷◌, ◌++◌, take, drop, Option, refl, ap, ◌∙◌, arith}
use Rattle.std.specs.Prelude.{slice_set}
use Rattle.std.proofs.lemmas.List.{drop_all}
use Rattle.tree_shape.specs.Fewest.{list_inserted, list_removed}
use Rattle.tree_shape.specs.Values.{leaf_values}
use Rattle.tree_shape.specs.View.{ShapeView}
use Rattle.value_tree.proofs.Changes.{values_same}
use Rattle.tree_examples.specs.Sums.{sum_of, sum_at, sum_in, sum-append}

sum-parts : (at : ℕ) (xs : List ℕ) → sum_of (take at xs) + sum_of (drop at xs) ≡ sum_of xs
sum-parts zero xs = omega arith
sum-parts (suc at) [] = refl
sum-parts (suc at) (x ∷ xs) = omega (arith, sum-parts at xs)

-- a count comes in
pub sum-inserted : (at count : ℕ) (xs : List ℕ) → sum_of (list_inserted at count xs) ≡ sum_of xs + count
sum-inserted at count xs = omega (arith, sum-append (take at xs) (count ∷ drop at xs), sum-parts at xs)

-- one count is gone
pub sum-removed : (at : ℕ) (xs : List ℕ) → sum_of (list_removed at xs) ≤ sum_of xs
sum-removed zero [] = omega arith
sum-removed zero (x ∷ xs) = omega arith
sum-removed (suc at) [] = omega (arith, ap sum_of (drop_all (suc at + 1) [] (omega arith)))
sum-removed (suc at) (x ∷ xs) =
    let further : suc at + 1 ≡ suc (at + 1) = omega arith in
    omega (arith, sum-removed at xs, ap (λ n. sum_of (take at xs ++ drop n (x ∷ xs))) further)

-- a count is another
pub sum-replaced : (at count : ℕ) (xs : List ℕ) → sum_of (slice_set xs at count) ≤ sum_of xs + count
sum-replaced at count [] = omega arith
sum-replaced zero count (x ∷ xs) = omega arith
sum-replaced (suc at) count (x ∷ xs) = omega (arith, sum-replaced at count xs)

-- the same sum, where each leaf has what it had
pub sum-reserved : (before then : List (Option ℕ)) (old shape : ShapeView) → ((k : ℕ) → sum_at then k ≡ sum_at before k) → shape.tree ≡ old.tree → sum_in then shape ≡ sum_in before old
sum-reserved before then old shape same tree =
    ap (λ o. sum_of (leaf_values (sum_at then) o)) tree ∙ ap sum_of (values_same (sum_at then) (sum_at before) old.tree (λ k there. same k))
