-- The values after a change are those of the tree after the change.
use Rattle.std.proofs.Common.{◌≡◌, ◌≢◌, ℕ, ◌≤◌, List, [], ◌∷◌, ◌++◌, map, Option, Some, refl, sym, ◌∙◌, ap, subst, arith, inl, inr}
use Rattle.tree_shape.specs.declared.node.Side.{Side}
use Rattle.tree_shape.specs.declared.node.Side.TheVariants.{Left, Right}
use Rattle.tree_shape.specs.declared.dirty.DirtyRow.{DirtyRow}
use Rattle.tree_shape.specs.Tree.{Tree, leaf, inner, name, leaves}
use Rattle.tree_shape.specs.Plan.{Plan, kept, made, inner_on, tree_of_plan, dirty_row, rows}
use Rattle.tree_shape.specs.Apply.{mark, times, times_made, KeptBy}
use Rattle.tree_shape.specs.Numbers.{times_in}
use Rattle.tree_shape.proofs.ArenaChanges.{one_same, node_of_row, made_within, times_inner_on}
use Rattle.tree_shape.proofs.NumberCounts.{times_in-append}
use Rattle.tree_shape.specs.Values.{joined_values, part, with_node, value, KeepsNodeValues, row_value, values_refreshed, composed_all}
use Rattle.tree_shape.proofs.RowWalks.{set_node}

-- Two lists of options, split.

pub split_some : {R : Type 0} (os bs : List (Option R)) (rs : List R) → map (λ r. Some r) rs ≡ os ++ bs → (xs : List R) × (ys : List R) × (rs ≡ xs ++ ys) × (map (λ r. Some r) xs ≡ os) × (map (λ r. Some r) ys ≡ bs)
split_some [] bs rs e = ([], rs, refl, refl, e)
split_some (a ∷ os) bs [] e = cc
split_some (a ∷ os) bs (r ∷ rs) e =
    let head : Some r ≡ a = cc in
    let tail : map (λ r. Some r) rs ≡ os ++ bs = cc in
    let w = split_some os bs rs tail in
    (r ∷ w.0, w.1, ap (λ v. r ∷ v) w.2, cc (head, w.3), w.4)

module _ {V : Type 0} (join : V → V → V) (leaf_at : ℕ → Option V) where
  pub frame_keeps : (nodes other : ℕ → Option V) (t : Tree) → ((k : ℕ) → 1 ≤ times k t → nodes k ≡ other k) → KeepsNodeValues join leaf_at nodes t → KeepsNodeValues join leaf_at other t
  frame_keeps nodes other (leaf n) same s = s
  frame_keeps nodes other (inner n l r) same s = (
    sym (same n (omega (arith, one_same n))) ∙ s.0,
    frame_keeps nodes other l (λ k h. same k (omega arith)) s.1,
    frame_keeps nodes other r (λ k h. same k (omega arith)) s.2,
  )

  frame_kept_keeps : (nodes other : ℕ → Option V) (p : Plan) → ((k : ℕ) → 1 ≤ times k (tree_of_plan p) → nodes k ≡ other k) → KeptBy (KeepsNodeValues join leaf_at nodes) p → KeptBy (KeepsNodeValues join leaf_at other) p
  frame_kept_keeps nodes other (kept t) same s = frame_keeps nodes other t same s
  frame_kept_keeps nodes other (made Left n near far) same s = (frame_kept_keeps nodes other near (λ k h. same k (omega arith)) s.0, frame_kept_keeps nodes other far (λ k h. same k (omega arith)) s.1)
  frame_kept_keeps nodes other (made Right n near far) same s = (frame_kept_keeps nodes other near (λ k h. same k (omega arith)) s.0, frame_kept_keeps nodes other far (λ k h. same k (omega arith)) s.1)

  pub refreshed-append : (nodes : ℕ → Option V) (xs ys : List DirtyRow) → values_refreshed join leaf_at nodes (xs ++ ys) ≡ values_refreshed join leaf_at (values_refreshed join leaf_at nodes xs) ys
  refreshed-append nodes [] ys = refl
  refreshed-append nodes (x ∷ xs) ys = refreshed-append (with_node nodes x.node (row_value join leaf_at nodes x)) xs ys

  pub composed_all-append : (nodes : ℕ → Option V) (xs ys : List DirtyRow) → composed_all join leaf_at nodes (xs ++ ys) ≡ composed_all join leaf_at nodes xs ++ composed_all join leaf_at (values_refreshed join leaf_at nodes xs) ys
  composed_all-append nodes [] ys = refl
  composed_all-append nodes (x ∷ xs) ys = ap (λ v. row_value join leaf_at nodes x ∷ v) (composed_all-append (with_node nodes x.node (row_value join leaf_at nodes x)) xs ys)

  set_there : (nodes : ℕ → Option V) (n k : ℕ) (v : Option V) → k ≡ n → with_node nodes n v k ≡ v
  set_there nodes n k v e = elim (set_node nodes n v k) [ inl w ↦ w.1 | inr w ↦ absurd (w.0 e) ]

  set_apart : (nodes : ℕ → Option V) (n k : ℕ) (v : Option V) → k ≢ n → with_node nodes n v k ≡ nodes k
  set_apart nodes n k v h = elim (set_node nodes n v k) [ inl w ↦ absurd (h w.0) | inr w ↦ w.1 ]

  pub refreshed_away : (nodes : ℕ → Option V) (p : Plan) (k : ℕ) → times_made k p ≡ 0 → values_refreshed join leaf_at nodes (rows p) k ≡ nodes k
  refreshed_away nodes (kept t) k h = refl
  refreshed_away nodes (made side n near far) k h =
      let row = dirty_row side n (name (tree_of_plan near)) (name (tree_of_plan far)) in
      let apart : k ≢ row.node = λ e. let same : k ≡ n = e ∙ node_of_row side n _ _ in omega (arith, one_same k, ap (λ v. mark k v) same) in
      let first = values_refreshed join leaf_at nodes (rows near) in
      let second = values_refreshed join leaf_at first (rows far) in
      ap (λ f. f k) (refreshed-append nodes (rows near ++ rows far) (row ∷ []) ∙ ap (λ f. values_refreshed join leaf_at f (row ∷ [])) (refreshed-append nodes (rows near) (rows far)))
      ∙ (set_apart second row.node k (row_value join leaf_at second row) apart ∙ (refreshed_away first far k (omega arith) ∙ refreshed_away nodes near k (omega arith)))

  pub value_of_child : (nodes : ℕ → Option V) (t : Tree) → KeepsNodeValues join leaf_at nodes t → part leaf_at nodes (name t) ≡ value join leaf_at t
  value_of_child nodes (leaf n) s = refl
  value_of_child nodes (inner n l r) s = s.0

  keeps_written : (side : Side) (nodes : ℕ → Option V) (n : ℕ) (a b : Tree) → KeepsNodeValues join leaf_at nodes a → KeepsNodeValues join leaf_at nodes b → times n a ≡ 0 → times n b ≡ 0
      → KeepsNodeValues join leaf_at (with_node nodes (dirty_row side n (name a) (name b)).node (row_value join leaf_at nodes (dirty_row side n (name a) (name b)))) (inner_on side n a b)
  keeps_written Left nodes n a b sa sb ha hb = (
    set_there nodes n n (joined_values join (part leaf_at nodes (name a)) (part leaf_at nodes (name b))) refl ∙ cc (value_of_child nodes a sa, value_of_child nodes b sb),
    frame_keeps nodes _ a (λ k w. sym (set_apart nodes n k _ (λ e. omega (arith, ap (λ v. times v a) e)))) sa,
    frame_keeps nodes _ b (λ k w. sym (set_apart nodes n k _ (λ e. omega (arith, ap (λ v. times v b) e)))) sb,
  )
  keeps_written Right nodes n a b sa sb ha hb = (
    set_there nodes n n (joined_values join (part leaf_at nodes (name b)) (part leaf_at nodes (name a))) refl ∙ cc (value_of_child nodes a sa, value_of_child nodes b sb),
    frame_keeps nodes _ b (λ k w. sym (set_apart nodes n k _ (λ e. omega (arith, ap (λ v. times v b) e)))) sb,
    frame_keeps nodes _ a (λ k w. sym (set_apart nodes n k _ (λ e. omega (arith, ap (λ v. times v a) e)))) sa,
  )

  -- what a change needs so that its rows tell all
  pub record IsRefreshable (nodes : ℕ → Option V) (p : Plan) : Type 0 where
    pub keeps : KeptBy (KeepsNodeValues join leaf_at nodes) p
    pub once : (k : ℕ) → times k (tree_of_plan p) ≤ 1

  pub near_refreshable : (nodes : ℕ → Option V) (side : Side) (n : ℕ) (near far : Plan) → IsRefreshable nodes (made side n near far) → IsRefreshable nodes near
  near_refreshable nodes side n near far a = record {
    keeps = a.keeps.0;
    once = λ k. omega (arith, a.once k, times_inner_on side k n (tree_of_plan near) (tree_of_plan far));
  }

  pub far_refreshable : (nodes : ℕ → Option V) (side : Side) (n : ℕ) (near far : Plan) → IsRefreshable nodes (made side n near far) → IsRefreshable (values_refreshed join leaf_at nodes (rows near)) far
  far_refreshable nodes side n near far a = record {
    keeps = frame_kept_keeps nodes _ far (λ k h. sym (refreshed_away nodes near k (omega (arith, made_within k near, a.once k, times_inner_on side k n (tree_of_plan near) (tree_of_plan far))))) a.keeps.1;
    once = λ k. omega (arith, a.once k, times_inner_on side k n (tree_of_plan near) (tree_of_plan far));
  }

  -- the values just before a node is composed: those of both parts are kept
  pub record BothKept (nodes : ℕ → Option V) (near far : Plan) : Type 0 where
    pub near_kept : KeepsNodeValues join leaf_at (values_refreshed join leaf_at (values_refreshed join leaf_at nodes (rows near)) (rows far)) (tree_of_plan near)
    pub far_kept : KeepsNodeValues join leaf_at (values_refreshed join leaf_at (values_refreshed join leaf_at nodes (rows near)) (rows far)) (tree_of_plan far)

  pub keeps_refreshed : (nodes : ℕ → Option V) (p : Plan) → IsRefreshable nodes p → KeepsNodeValues join leaf_at (values_refreshed join leaf_at nodes (rows p)) (tree_of_plan p)
  keeps_refreshed nodes (kept t) a = a.keeps
  keeps_refreshed nodes (made side n near far) a =
      let row = dirty_row side n (name (tree_of_plan near)) (name (tree_of_plan far)) in
      let first = values_refreshed join leaf_at nodes (rows near) in
      let second = values_refreshed join leaf_at first (rows far) in
      let once = a.once n in
      let here = times_inner_on side n n (tree_of_plan near) (tree_of_plan far) in
      let one_here = one_same n in
      let near_before : KeepsNodeValues join leaf_at first (tree_of_plan near) = keeps_refreshed nodes near (near_refreshable nodes side n near far a) in
      let near_kept : KeepsNodeValues join leaf_at second (tree_of_plan near) =
      frame_keeps first second (tree_of_plan near) (λ k h. sym (refreshed_away first far k (omega (arith, made_within k far, a.once k, times_inner_on side k n (tree_of_plan near) (tree_of_plan far))))) near_before in
      let far_kept : KeepsNodeValues join leaf_at second (tree_of_plan far) = keeps_refreshed first far (far_refreshable nodes side n near far a) in
      subst (λ f. KeepsNodeValues join leaf_at f (inner_on side n (tree_of_plan near) (tree_of_plan far)))
      (sym (refreshed-append nodes (rows near ++ rows far) (row ∷ []) ∙ ap (λ f. values_refreshed join leaf_at f (row ∷ [])) (refreshed-append nodes (rows near) (rows far))))
      (keeps_written side second n (tree_of_plan near) (tree_of_plan far) near_kept far_kept (omega arith) (omega arith))

  pub both_kept : (nodes : ℕ → Option V) (side : Side) (n : ℕ) (near far : Plan) → IsRefreshable nodes (made side n near far) → BothKept nodes near far
  both_kept nodes side n near far a =
      let first = values_refreshed join leaf_at nodes (rows near) in
      let second = values_refreshed join leaf_at first (rows far) in
      let near_before : KeepsNodeValues join leaf_at first (tree_of_plan near) = keeps_refreshed nodes near (near_refreshable nodes side n near far a) in
      record {
        near_kept = frame_keeps first second (tree_of_plan near) (λ k h. sym (refreshed_away first far k (omega (arith, made_within k far, a.once k, times_inner_on side k n (tree_of_plan near) (tree_of_plan far))))) near_before;
        far_kept = keeps_refreshed first far (far_refreshable nodes side n near far a);
      }

-- Another leaf's value.
module _ {V : Type 0} (join : V → V → V) where
  pub same_value : (leaf_at other : ℕ → Option V) (t : Tree) → ((k : ℕ) → 1 ≤ times_in k (leaves t) → leaf_at k ≡ other k) → value join leaf_at t ≡ value join other t
  same_value leaf_at other (leaf n) same = same n (omega (arith, one_same n))
  same_value leaf_at other (inner n l r) same =
      let a = same_value leaf_at other l (λ k h. same k (omega (arith, times_in-append k (leaves l) (leaves r)))) in
      let b = same_value leaf_at other r (λ k h. same k (omega (arith, times_in-append k (leaves l) (leaves r)))) in
      cc (a, b)

  pub keeps_leaves : (leaf_at other nodes : ℕ → Option V) (t : Tree) → ((k : ℕ) → 1 ≤ times_in k (leaves t) → leaf_at k ≡ other k) → KeepsNodeValues join leaf_at nodes t → KeepsNodeValues join other nodes t
  keeps_leaves leaf_at other nodes (leaf n) same s = tt
  keeps_leaves leaf_at other nodes (inner n l r) same s =
      let left : (k : ℕ) → 1 ≤ times_in k (leaves l) → leaf_at k ≡ other k = λ k h. same k (omega (arith, times_in-append k (leaves l) (leaves r))) in
      let right : (k : ℕ) → 1 ≤ times_in k (leaves r) → leaf_at k ≡ other k = λ k h. same k (omega (arith, times_in-append k (leaves l) (leaves r))) in
      (s.0 ∙ cc (same_value leaf_at other l left, same_value leaf_at other r right), keeps_leaves leaf_at other nodes l left s.1, keeps_leaves leaf_at other nodes r right s.2)

-- The parts that a plan keeps.

pub kept_weaker : (P Q : Tree → Type 0) → ((t : Tree) → P t → Q t) → (p : Plan) → KeptBy P p → KeptBy Q p
kept_weaker P Q f (kept t) h = f t h
kept_weaker P Q f (made side n near far) h = (kept_weaker P Q f near h.0, kept_weaker P Q f far h.1)

pub kept_both : (P Q : Tree → Type 0) (p : Plan) → KeptBy P p → KeptBy Q p → KeptBy (λ t. P t × Q t) p
kept_both P Q (kept t) h k = (h, k)
kept_both P Q (made side n near far) h k = (kept_both P Q near h.0 k.0, kept_both P Q far h.1 k.1)
