-- No balanced tree is higher than the height found for its leaves.
use Rattle.std.proofs.Common.{◌≡◌, ℕ, zero, suc, ◌+◌, ◌≤◌, Bool, true, false, nat_le, cond, refl, ap, arith, ◌⊎◌, inl, inr}
use Rattle.std.proofs.lemmas.Bool.Decides.{leb_tells}
use Rattle.tree_shape.specs.Tree.{height}
use Rattle.tree_shape.specs.Changes.{BoundsHeight}
use Rattle.tree_shape.specs.Fewest.{fewest_leaves, highest_within, highest}
use Rattle.tree_shape.proofs.Heights.{low}

either : (b : Bool) (x y : ℕ) → ((b ≡ true) × (cond b x y ≡ x)) ⊎ ((b ≡ false) × (cond b x y ≡ y))
either true x y = inl (refl, refl)
either false x y = inr (refl, refl)

fewest_above_height : (h : ℕ) → h + 1 ≤ fewest_leaves h
fewest_above_height zero = omega arith
fewest_above_height (suc zero) = omega arith
fewest_above_height (suc (suc h)) = omega (arith, fewest_above_height (suc h), fewest_above_height h)

-- each height within the limit at which the leaves are enough is at most the one found
pub highest_most : (limit leaves h : ℕ) → h ≤ limit → fewest_leaves h ≤ leaves → h ≤ highest_within limit leaves
highest_most zero leaves h le few = omega arith
highest_most (suc limit) leaves h le few =
    elim (leb_tells (fewest_leaves (suc limit)) leaves) [
      | inl w ↦ omega (arith, ap (λ (b : Bool). cond {A = ℕ} b (suc limit) (highest_within limit leaves)) w.0)
      | inr w ↦ elim (leb_tells h limit) [
        | inl v ↦ omega (arith, ap (λ (b : Bool). cond {A = ℕ} b (suc limit) (highest_within limit leaves)) w.0, highest_most limit leaves h v.1 few)
        | inr v ↦ let top : h ≡ suc limit = omega (arith, v.1) in absurd (omega (arith, w.1, ap fewest_leaves top))
      ]
    ]

-- the leaves are enough for the one found
pub highest_enough : (limit leaves : ℕ) → 1 ≤ leaves → fewest_leaves (highest_within limit leaves) ≤ leaves
highest_enough zero leaves some = omega arith
highest_enough (suc limit) leaves some =
    elim (leb_tells (fewest_leaves (suc limit)) leaves) [
      | inl w ↦ omega (arith, w.1, ap (λ (b : Bool). fewest_leaves (cond {A = ℕ} b (suc limit) (highest_within limit leaves))) w.0)
      | inr w ↦ omega (arith, highest_enough limit leaves some, ap (λ (b : Bool). fewest_leaves (cond {A = ℕ} b (suc limit) (highest_within limit leaves))) w.0)
    ]

pub highest_bounds : (leaves : ℕ) → BoundsHeight leaves (highest leaves)
highest_bounds leaves = λ t b e. highest_most leaves leaves (height t) (omega (arith, e, low t b, fewest_above_height (height t))) (omega (arith, e, low t b))

within_rises : (limit more leaves larger : ℕ) → limit ≤ more → 1 ≤ leaves → leaves ≤ larger → highest_within limit leaves ≤ highest_within more larger
within_rises limit more leaves larger le some few =
    let enough = highest_enough limit leaves some in
    highest_most more larger (highest_within limit leaves) (omega (arith, low_within limit leaves)) (omega (arith, enough))
  where
    low_within : (limit leaves : ℕ) → highest_within limit leaves ≤ limit
    low_within zero leaves = omega arith
    low_within (suc limit) leaves = elim (either (nat_le (fewest_leaves (suc limit)) leaves) (suc limit) (highest_within limit leaves)) [
      | inl w ↦ omega (arith, w.1)
      | inr w ↦ omega (arith, w.1, low_within limit leaves)
    ]

pub highest_rises : (leaves larger : ℕ) → 1 ≤ leaves → leaves ≤ larger → highest leaves ≤ highest larger
highest_rises leaves larger some few = within_rises leaves larger leaves larger few some few
