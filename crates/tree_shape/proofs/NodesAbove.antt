-- The nodes above a leaf.
use Rattle.std.proofs.Common.{◌≡◌, ℕ, ◌-◌, ◌≤◌, nat_lt, length, refl, ap, arith, length-append, append-nil}
use Rattle.tree_shape.specs.Tree.{Tree, leaf, inner, height, count}
use Rattle.tree_shape.specs.Plan.{tree_of_plan, rows}
use Rattle.tree_shape.specs.Removal.{plan_touched}
use Rattle.tree_shape.proofs.InsertionBounds.{both_ways}

pub erase_touched : (at : ℕ) (t : Tree) → tree_of_plan (plan_touched at t) ≡ t
erase_touched at (leaf n) = refl
erase_touched at (inner m l r) =
    both_ways (λ v. tree_of_plan v ≡ inner m l r) (nat_lt at (count l)) _ _
    (ap (λ v. inner m v r) (erase_touched at l)) (ap (λ v. inner m l v) (erase_touched (at - count l) r))

pub rows_most : (at : ℕ) (t : Tree) → length (rows (plan_touched at t)) ≤ height t
rows_most at (leaf n) = omega arith
rows_most at (inner m l r) =
    both_ways (λ v. length (rows v) ≤ height (inner m l r)) (nat_lt at (count l)) _ _
    (simp (append-nil, length-append) (omega (arith, rows_most at l)))
    (simp (append-nil, length-append) (omega (arith, rows_most (at - count l) r)))
