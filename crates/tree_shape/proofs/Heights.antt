-- A balanced tree of few leaves is low.
use Rattle.std.proofs.Common.{◌≡◌, ℕ, zero, suc, ◌+◌, ◌-◌, ◌≤◌, max, ap, arith, zero-add, suc-add, inl, inr}
use Rattle.std.proofs.lemmas.Bool.Decides.{leb_tells}
use Rattle.tree_shape.specs.Tree.{Tree, leaf, inner, height, count, IsBalanced}
use Rattle.tree_shape.specs.Fewest.{fewest_leaves}

fewest_positive : (h : ℕ) → 1 ≤ fewest_leaves h
fewest_positive zero = omega arith
fewest_positive (suc zero) = omega arith
fewest_positive (suc (suc h)) = omega (arith, fewest_positive (suc h))

fewest_step : (h : ℕ) → fewest_leaves h ≤ fewest_leaves (suc h)
fewest_step zero = omega arith
fewest_step (suc h) = omega arith

fewest_more : (d h : ℕ) → fewest_leaves h ≤ fewest_leaves (d + h)
fewest_more zero h = rw (zero-add h) (omega arith)
fewest_more (suc d) h = rw (suc-add d h) (omega (arith, fewest_more d h, fewest_step (d + h)))

pub fewest_rises : (a b : ℕ) → a ≤ b → fewest_leaves a ≤ fewest_leaves b
fewest_rises a b h =
    let e : (b - a) + a ≡ b = omega arith in
    rw e at (fewest_more (b - a) a)

-- one step up from the two parts
above : (m a b : ℕ) → a ≡ m → m ≤ b + 1 → fewest_leaves (suc m) ≤ fewest_leaves a + fewest_leaves b
above zero a b e h = omega (arith, fewest_positive a, fewest_positive b)
above (suc m) a b e h = omega (arith, ap fewest_leaves e, fewest_rises m b (omega arith))

fewest_above : (a b : ℕ) → a ≤ b + 1 → b ≤ a + 1 → fewest_leaves (suc (max a b)) ≤ fewest_leaves a + fewest_leaves b
fewest_above a b h k =
    elim (leb_tells a b) [
      | inl w ↦ omega (arith, above (max a b) b a (omega arith) (omega arith))
      | inr w ↦ omega (arith, above (max a b) a b (omega arith) (omega arith))
    ]

pub low : (t : Tree) → IsBalanced t → fewest_leaves (height t) ≤ count t
low (leaf n) b = omega arith
low (inner n l r) b =
    let e : 1 + max (height l) (height r) ≡ suc (max (height l) (height r)) = omega arith in
    rw e (omega (arith, fewest_above (height l) (height r) b.0 b.1, low l b.2, low r b.3))

-- 65,536 leaves have height at most 22
pub at_most_22 : (t : Tree) → IsBalanced t → count t ≤ 65536 → height t ≤ 22
at_most_22 t b few = elim (leb_tells (height t) 22) [
  | inl w ↦ w.1
  | inr w ↦ absurd (omega (arith, low t b, fewest_rises 23 (height t) (omega arith)))
]
