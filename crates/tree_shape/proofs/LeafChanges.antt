-- What stays where one leaf's value changes, and where a leaf comes or goes.
use Rattle.std.proofs.Common.{◌≡◌, ◌≢◌, ℕ, ◌-◌, ◌<◌, ◌≤◌, nat_lt, List, ◌++◌, length, Option, sym, ◌∙◌, ap, arith}
use Rattle.std.specs.Prelude.{slice_index}
use Rattle.std.proofs.lemmas.Grind.{common_steps}
use Rattle.std.proofs.lemmas.Bool.{ltb-true, ltb-false}
use Rattle.tree_shape.specs.Tree.{Tree, leaf, inner, count, leaves}
use Rattle.tree_shape.specs.Plan.{plan_grown}
use Rattle.tree_shape.specs.Removal.{plan_touched, plan_shrunk}
use Rattle.tree_shape.specs.Apply.{KeptBy}
use Rattle.tree_shape.specs.Numbers.{times_in}
use Rattle.tree_shape.proofs.InsertionBounds.{both_ways_by}
use Rattle.tree_shape.proofs.ArenaTrees.{length_leaves}
use Rattle.tree_shape.proofs.NumberCounts.{times_in-append}
use Rattle.tree_shape.proofs.Insertions.{GoesDown, kept_by_grown}
use Rattle.tree_shape.proofs.Removals.{kept_by_shrunk}
use Rattle.tree_shape.specs.Values.{KeepsNodeValues}
use Rattle.tree_shape.proofs.NodeValues.{keeps_leaves}
use Rattle.tree_shape.proofs.PlanSteps.{index_times}

pub index_left : (xs ys : List ℕ) (at : ℕ) → at < length xs → slice_index (xs ++ ys) at ≡ slice_index xs at
index_left xs ys at h = grind (arith, common_steps)

pub index_right : (xs ys : List ℕ) (at : ℕ) → length xs ≤ at → slice_index (xs ++ ys) at ≡ slice_index ys (at - length xs)
index_right xs ys at h = grind (arith, common_steps)

module _ {V : Type 0} (join : V → V → V) where
  keeps_goes_down : (leaf_at nodes : ℕ → Option V) → GoesDown (KeepsNodeValues join leaf_at nodes)
  keeps_goes_down leaf_at nodes = record { leaf_has = λ n. tt; parts_have = λ n l r k. (k.1, k.2) }

  -- the parts beside the way to a leaf keep their values where that leaf gets another
  pub kept_touched : (before then nodes : ℕ → Option V) (number : ℕ) → ((k : ℕ) → k ≢ number → then k ≡ before k) → (at : ℕ) (t : Tree) → at < count t → slice_index (leaves t) at ≡ number → times_in number (leaves t) ≤ 1 → KeepsNodeValues join before nodes t → KeptBy (KeepsNodeValues join then nodes) (plan_touched at t)
  kept_touched before then nodes number others at (leaf n) h e once k = tt
  kept_touched before then nodes number others at (inner n l r) h e once k =
      both_ways_by (KeptBy (KeepsNodeValues join then nodes)) (nat_lt at (count l)) _ _
      (λ q.
      let low : at < count l = ltb-true _ _ q in
      let here : slice_index (leaves l) at ≡ number = sym (index_left (leaves l) (leaves r) at (omega (arith, length_leaves l))) ∙ e in
      let inside = index_times at number (leaves l) (omega (arith, length_leaves l)) here in
      let both = times_in-append number (leaves l) (leaves r) in (
        kept_touched before then nodes number others at l low here (omega arith) k.1,
        keeps_leaves join before then nodes r (λ m w. sym (others m (λ s. omega (arith, ap (λ v. times_in v (leaves r)) s)))) k.2,
      ))
      (λ q.
      let high : count l ≤ at = ltb-false _ _ q in
      let here : slice_index (leaves r) (at - count l) ≡ number = ap (λ v. slice_index (leaves r) (at - v)) (sym (length_leaves l)) ∙ (sym (index_right (leaves l) (leaves r) at (omega (arith, length_leaves l))) ∙ e) in
      let inside = index_times (at - count l) number (leaves r) (omega (arith, length_leaves r)) here in
      let both = times_in-append number (leaves l) (leaves r) in (
        kept_touched before then nodes number others (at - count l) r (omega arith) here (omega arith) k.2,
        keeps_leaves join before then nodes l (λ m w. sym (others m (λ s. omega (arith, ap (λ v. times_in v (leaves l)) s)))) k.1,
      ))

  -- all parts that an insertion keeps have their values, also where the new leaf's value is there
  pub kept_inserted : (before then nodes : ℕ → Option V) (new : ℕ) → ((k : ℕ) → k ≢ new → then k ≡ before k) → (at number : ℕ) (t : Tree) → times_in new (leaves t) ≡ 0 → KeepsNodeValues join before nodes t → KeptBy (KeepsNodeValues join then nodes) (plan_grown at new number t)
  kept_inserted before then nodes new others at number t fresh k =
      kept_by_grown (KeepsNodeValues join then nodes) (keeps_goes_down then nodes) at new number t
      (keeps_leaves join before then nodes t (λ m w. sym (others m (λ s. omega (arith, ap (λ v. times_in v (leaves t)) s)))) k)

  pub kept_removed : (leaf_at nodes : ℕ → Option V) (at : ℕ) (t : Tree) → KeepsNodeValues join leaf_at nodes t → KeptBy (KeepsNodeValues join leaf_at nodes) (plan_shrunk at t)
  kept_removed leaf_at nodes at t k = kept_by_shrunk (KeepsNodeValues join leaf_at nodes) (keeps_goes_down leaf_at nodes) at t k
