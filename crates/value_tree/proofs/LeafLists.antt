-- The leaves of a tree as a list of values.
use Rattle.std.proofs.Common.{◌≡◌, ℕ, zero, suc, ◌<◌, List, [], ◌∷◌, length, Option, Some, None, refl, ◌∙◌, ap, arith}
use Rattle.std.specs.Prelude.{slice_index}
use Rattle.std.specs.List.{slice_get}
use Rattle.tree_shape.specs.Tree.{Tree, leaves}
use Rattle.tree_shape.specs.Values.{AreThere, values_of_numbers, joined_on, leaf_values}
use Rattle.tree_shape.specs.View.{leaf_count_of, leaves_of_tree}
use Rattle.tree_shape.proofs.ArenaTrees.{length_leaves}

module _ {V : Type 0} (leaf_at : ℕ → Option V) where
  pub length_gathered : (ns : List ℕ) → AreThere leaf_at ns → length (values_of_numbers leaf_at ns) ≡ length ns
  length_gathered [] h = refl
  length_gathered (n ∷ ns) h = omega (arith, ap (λ o. length (joined_on o (values_of_numbers leaf_at ns))) h.0.1, length_gathered ns h.1)

  -- there are as many values as leaves
  pub count_values : (o : Option Tree) → AreThere leaf_at (leaves_of_tree o) → length (leaf_values leaf_at o) ≡ leaf_count_of o
  count_values None h = refl
  count_values (Some t) h = length_gathered (leaves t) h ∙ length_leaves t

  -- the value of a leaf by its position
  pub value_at : (ns : List ℕ) (i : ℕ) → AreThere leaf_at ns → i < length ns → (v : V) × (leaf_at (slice_index ns i) ≡ Some v) × (slice_get (values_of_numbers leaf_at ns) i ≡ Some v)
  value_at [] i h place = absurd (omega arith)
  value_at (n ∷ ns) zero h place = (h.0.0, h.0.1, ap (λ o. slice_get (joined_on o (values_of_numbers leaf_at ns)) zero) h.0.1)
  value_at (n ∷ ns) (suc i) h place =
      let rest = value_at ns i h.1 (omega arith) in
      (rest.0, rest.1, ap (λ o. slice_get (joined_on o (values_of_numbers leaf_at ns)) (suc i)) h.0.1 ∙ rest.2)

  -- the same of a tree that may have no leaf
  pub value_of_leaf : (o : Option Tree) (i : ℕ) → AreThere leaf_at (leaves_of_tree o) → i < leaf_count_of o → (v : V) × (leaf_at (slice_index (leaves_of_tree o) i) ≡ Some v) × (slice_get (leaf_values leaf_at o) i ≡ Some v)
  value_of_leaf None i h place = absurd (omega arith)
  value_of_leaf (Some t) i h place = value_at (leaves t) i h (omega (arith, place, length_leaves t))
