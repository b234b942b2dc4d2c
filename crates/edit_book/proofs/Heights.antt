-- The greatest height of a balanced tree of so many leaves, as a number.
use Rattle.std.proofs.Common.{◌≡◌, ℕ, zero, suc, ◌+◌, ◌-◌, ◌<◌, ◌≤◌, ap, arith, refl, inl, inr}
use Rattle.std.proofs.lemmas.Bool.Decides.{leb_tells}
use Rattle.tree_shape.specs.Fewest.{fewest_leaves, highest}
use Rattle.tree_shape.proofs.HeightBounds.{highest_enough, highest_most}

fewest-next : (h : ℕ) → fewest_leaves h ≤ fewest_leaves (suc h)
fewest-next zero = omega arith
fewest-next (suc h) = omega arith

fewest-rises : (h more : ℕ) → fewest_leaves h ≤ fewest_leaves (more + h)
fewest-rises h zero =
    let same : 0 + h ≡ h = omega arith in
    omega (arith, ap fewest_leaves same)
fewest-rises h (suc more) =
    let next : suc more + h ≡ suc (more + h) = omega arith in
    omega (arith, ap fewest_leaves next, fewest-rises h more, fewest-next (more + h))

-- it is the height for which the leaves are enough, and for the next they aren't
pub highest-is : (leaves h : ℕ) → h ≤ leaves → 1 ≤ leaves → fewest_leaves h ≤ leaves → leaves < fewest_leaves (suc h) → highest leaves ≡ h
highest-is leaves h within some few many =
    elim (leb_tells (suc h) (highest leaves)) [
      | inl w ↦ absurd (omega (arith, many, highest_enough leaves leaves some, higher w.1))
      | inr w ↦ omega (arith, w.1, highest_most leaves leaves h within few)
    ]
  where
    higher : suc h ≤ highest leaves → fewest_leaves (suc h) ≤ fewest_leaves (highest leaves)
    higher above =
        let more : (highest leaves - suc h) + suc h ≡ highest leaves = omega (arith, above) in
        omega (arith, fewest-rises (suc h) (highest leaves - suc h), ap fewest_leaves more)

pub highest-2813 : highest 2813 ≡ 16
highest-2813 =
    let few : fewest_leaves 16 ≡ 2584 = refl in
    let many : fewest_leaves 17 ≡ 4181 = refl in
    highest-is 2813 16 (omega arith) (omega arith) (omega (arith, few)) (omega (arith, many))
