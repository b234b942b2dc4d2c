-- The arena after a change stands for the tree after the change.
use Rattle.std.proofs.Common.{◌≡◌, ◌≢◌, ℕ, zero, suc, ◌+◌, ◌^◌, ◌<◌, ◌≤◌, Bool, cond, List, [], ◌∷◌, ◌++◌, length, Some, refl, sym, ◌∙◌, ap, arith, ◌⊎◌, inl, inr}
use Rattle.std.specs.Prelude.{slice_set}
use Rattle.std.specs.List.{slice_get}
use Rattle.std.proofs.lemmas.Bool.Decides.{eqb_tells}
use Rattle.std.proofs.Math.ListN.{length-set}
use Rattle.std.proofs.lemmas.Option.{slice_get_within}
use Rattle.tree_shape.specs.declared.node.Child.{Child}
use Rattle.tree_shape.specs.declared.node.Side.{Side}
use Rattle.tree_shape.specs.declared.node.Side.TheVariants.{Left, Right}
use Rattle.tree_shape.specs.declared.dirty.DirtyRow.{DirtyRow}
use Rattle.tree_shape.specs.declared.node.Node.{Node}
use Rattle.tree_shape.specs.Tree.{Tree, leaf, inner, name, height, count, node_of_parts, NodesStand}
use Rattle.tree_shape.specs.Plan.{Plan, kept, made, inner_on, tree_of_plan, dirty_row, rows}
use Rattle.tree_shape.specs.Apply.{leaves_in, stored_leaves, node_from, nodes_with_row, nodes_with_rows, IsIn, FitsRow, FitRows, mark, times, times_made, KeptStands}
use Rattle.tree_shape.proofs.ArenaTrees.{stored_height_is_height}

pub set_here : {X : Type 0} (xs : List X) (n : ℕ) (v : X) → n < length xs → slice_get (slice_set xs n v) n ≡ Some v
set_here [] n v h = absurd (omega arith)
set_here (x ∷ xs) zero v h = refl
set_here (x ∷ xs) (suc n) v h = set_here xs n v (omega arith)

pub set_away : {X : Type 0} (xs : List X) (n k : ℕ) (v : X) → k ≢ n → slice_get (slice_set xs n v) k ≡ slice_get xs k
set_away [] n k v h = refl
set_away (x ∷ xs) zero zero v h = absurd (h refl)
set_away (x ∷ xs) zero (suc k) v h = refl
set_away (x ∷ xs) (suc n) zero v h = refl
set_away (x ∷ xs) (suc n) (suc k) v h = set_away xs n k v (λ e. h (ap (λ i. suc i) e))

-- one or none, by whether the numbers are the same
pub mark_is_one_or_none : (k n : ℕ) → ((k ≡ n) × (mark k n ≡ 1)) ⊎ ((k ≢ n) × (mark k n ≡ 0))
mark_is_one_or_none k n = elim (eqb_tells k n) [ inl h ↦ inl (h.1, ap (λ (b : Bool). cond {A = ℕ} b 1 0) h.0) | inr h ↦ inr (h.1, ap (λ (b : Bool). cond {A = ℕ} b 1 0) h.0) ]

pub one_same : (n : ℕ) → mark n n ≡ 1
one_same n = elim (mark_is_one_or_none n n) [ inl h ↦ h.1 | inr h ↦ absurd (h.0 refl) ]

pub frame : (rows other : List Node) (t : Tree) → ((k : ℕ) → 1 ≤ times k t → slice_get rows k ≡ slice_get other k) → NodesStand rows t → NodesStand other t
frame rows other (leaf n) same s = tt
frame rows other (inner n l r) same s = (
  sym (same n (omega (arith, one_same n))) ∙ s.0,
  frame rows other l (λ k h. same k (omega arith)) s.1,
  frame rows other r (λ k h. same k (omega arith)) s.2,
)

pub frame_kept : (rows other : List Node) (p : Plan) → ((k : ℕ) → 1 ≤ times k (tree_of_plan p) → slice_get rows k ≡ slice_get other k) → KeptStands rows p → KeptStands other p
frame_kept rows other (kept t) same s = frame rows other t same s
frame_kept rows other (made Left n near far) same s = (frame_kept rows other near (λ k h. same k (omega arith)) s.0, frame_kept rows other far (λ k h. same k (omega arith)) s.1)
frame_kept rows other (made Right n near far) same s = (frame_kept rows other near (λ k h. same k (omega arith)) s.0, frame_kept rows other far (λ k h. same k (omega arith)) s.1)

pub applied-append : (rows : List Node) (xs ys : List DirtyRow) → nodes_with_rows rows (xs ++ ys) ≡ nodes_with_rows (nodes_with_rows rows xs) ys
applied-append rows [] ys = refl
applied-append rows (x ∷ xs) ys = applied-append (nodes_with_row rows x) xs ys

pub length_applied : (rows : List Node) (xs : List DirtyRow) → length (nodes_with_rows rows xs) ≡ length rows
length_applied rows [] = refl
length_applied rows (x ∷ xs) = length_applied (nodes_with_row rows x) xs ∙ length-set rows x.node _

pub node_of_row : (side : Side) (n : ℕ) (a b : Child) → (dirty_row side n a b).node ≡ n
node_of_row Left n a b = refl
node_of_row Right n a b = refl

-- a node that the plan does not write keeps its row
pub applied_away : (rows0 : List Node) (p : Plan) (k : ℕ) → times_made k p ≡ 0 → slice_get (nodes_with_rows rows0 (rows p)) k ≡ slice_get rows0 k
applied_away rows0 (kept t) k h = refl
applied_away rows0 (made side n near far) k h =
    let row = dirty_row side n (name (tree_of_plan near)) (name (tree_of_plan far)) in
    let apart : k ≢ row.node = λ e. let same : k ≡ n = e ∙ node_of_row side n _ _ in omega (arith, one_same k, ap (λ v. mark k v) same) in
    rw (applied-append rows0 (rows near ++ rows far) (row ∷ []), applied-append rows0 (rows near) (rows far))
    (set_away (nodes_with_rows (nodes_with_rows rows0 (rows near)) (rows far)) row.node k _ apart
    ∙ (applied_away (nodes_with_rows rows0 (rows near)) far k (omega arith) ∙ applied_away rows0 near k (omega arith)))

pub made_within : (k : ℕ) (p : Plan) → times_made k p ≤ times k (tree_of_plan p)
made_within k (kept t) = omega arith
made_within k (made Left n near far) = omega (arith, made_within k near, made_within k far)
made_within k (made Right n near far) = omega (arith, made_within k near, made_within k far)

pub times_inner_on : (side : Side) (k n : ℕ) (a b : Tree) → times k (inner_on side n a b) ≡ mark k n + (times k a + times k b)
times_inner_on Left k n a b = refl
times_inner_on Right k n a b = omega arith

pub stored_count : (nodes : List Node) (t : Tree) → NodesStand nodes t → stored_leaves nodes (name t) ≡ count t
stored_count nodes (leaf n) s = refl
stored_count nodes (inner n l r) s = ap leaves_in s.0

-- the row written after its parts
pub stands_written : (side : Side) (nodes : List Node) (n : ℕ) (a b : Tree) → NodesStand nodes a → NodesStand nodes b → n < length nodes → times n a ≡ 0 → times n b ≡ 0
    → NodesStand (nodes_with_row nodes (dirty_row side n (name a) (name b))) (inner_on side n a b)
stands_written Left nodes n a b sa sb h ha hb =
    let ea = stored_height_is_height nodes (name a) a refl sa in
    let eb = stored_height_is_height nodes (name b) b refl sb in
    let row : node_from nodes (name a) (name b) ≡ node_of_parts a b = cc (ea, eb, stored_count nodes a sa, stored_count nodes b sb) in (
      set_here nodes n _ h ∙ ap (λ v. Some v) row,
      frame nodes _ a (λ k w. sym (set_away nodes n k _ (λ e. omega (arith, ap (λ v. times v a) e)))) sa,
      frame nodes _ b (λ k w. sym (set_away nodes n k _ (λ e. omega (arith, ap (λ v. times v b) e)))) sb,
    )
stands_written Right nodes n a b sa sb h ha hb =
    let ea = stored_height_is_height nodes (name a) a refl sa in
    let eb = stored_height_is_height nodes (name b) b refl sb in
    let row : node_from nodes (name b) (name a) ≡ node_of_parts b a = cc (ea, eb, stored_count nodes a sa, stored_count nodes b sb) in (
      set_here nodes n _ h ∙ ap (λ v. Some v) row,
      frame nodes _ b (λ k w. sym (set_away nodes n k _ (λ e. omega (arith, ap (λ v. times v b) e)))) sb,
      frame nodes _ a (λ k w. sym (set_away nodes n k _ (λ e. omega (arith, ap (λ v. times v a) e)))) sa,
    )

-- every number is in the tree once at most, and what the plan writes has its place
pub record IsApplicable (nodes : List Node) (p : Plan) : Type 0 where
  pub stands : KeptStands nodes p
  pub once : (k : ℕ) → times k (tree_of_plan p) ≤ 1
  pub places : (k : ℕ) → 1 ≤ times_made k p → k < length nodes

near_applicable : (nodes : List Node) (side : Side) (n : ℕ) (near far : Plan) → IsApplicable nodes (made side n near far) → IsApplicable nodes near
near_applicable nodes side n near far a = record {
  stands = a.stands.0;
  once = λ k. omega (arith, a.once k, times_inner_on side k n (tree_of_plan near) (tree_of_plan far));
  places = λ k h. a.places k (omega arith);
}

far_applicable : (nodes : List Node) (side : Side) (n : ℕ) (near far : Plan) → IsApplicable nodes (made side n near far) → IsApplicable (nodes_with_rows nodes (rows near)) far
far_applicable nodes side n near far a = record {
  stands = frame_kept nodes _ far (λ k h. sym (applied_away nodes near k (omega (arith, made_within k near, a.once k, times_inner_on side k n (tree_of_plan near) (tree_of_plan far))))) a.stands.1;
  once = λ k. omega (arith, a.once k, times_inner_on side k n (tree_of_plan near) (tree_of_plan far));
  places = λ k h. omega (arith, a.places k (omega arith), length_applied nodes (rows near));
}

pub stands_applied : (nodes : List Node) (p : Plan) → IsApplicable nodes p → NodesStand (nodes_with_rows nodes (rows p)) (tree_of_plan p)
stands_applied nodes (kept t) a = a.stands
stands_applied nodes (made side n near far) a =
    let first = stands_applied nodes near (near_applicable nodes side n near far a) in
    let after = nodes_with_rows nodes (rows near) in
    let second = stands_applied after far (far_applicable nodes side n near far a) in
    let here = times_inner_on side n n (tree_of_plan near) (tree_of_plan far) in
    let one_here = one_same n in
    let once = a.once n in
    let first_after : NodesStand (nodes_with_rows after (rows far)) (tree_of_plan near) =
    frame after _ (tree_of_plan near) (λ k h. sym (applied_away after far k (omega (arith, made_within k far, a.once k, times_inner_on side k n (tree_of_plan near) (tree_of_plan far))))) first in
    let place : n < length (nodes_with_rows after (rows far)) = omega (arith, a.places n (omega arith), length_applied nodes (rows near), length_applied after (rows far)) in
    rw (applied-append nodes (rows near ++ rows far) (dirty_row side n (name (tree_of_plan near)) (name (tree_of_plan far)) ∷ []), applied-append nodes (rows near) (rows far))
    (stands_written side (nodes_with_rows after (rows far)) n (tree_of_plan near) (tree_of_plan far) first_after second place (omega arith) (omega arith))

pub FitRows-append : (nodes : List Node) (xs ys : List DirtyRow) → FitRows nodes xs → FitRows (nodes_with_rows nodes xs) ys → FitRows nodes (xs ++ ys)
FitRows-append nodes [] ys f g = g
FitRows-append nodes (x ∷ xs) ys f g = (f.0, FitRows-append (nodes_with_row nodes x) xs ys f.1 g)

is_in : (nodes : List Node) (t : Tree) → NodesStand nodes t → IsIn nodes (name t)
is_in nodes (leaf n) s = tt
is_in nodes (inner n l r) s = slice_get_within nodes n (node_of_parts l r) s.0

fits_row : (side : Side) (nodes : List Node) (n : ℕ) (a b : Tree) → NodesStand nodes a → NodesStand nodes b → n < length nodes → height (inner_on side n a b) ≤ 255 → count (inner_on side n a b) < 2 ^ 32 → FitsRow nodes (dirty_row side n (name a) (name b))
fits_row Left nodes n a b sa sb h high many =
    let ea = stored_height_is_height nodes (name a) a refl sa in
    let eb = stored_height_is_height nodes (name b) b refl sb in
    record { place = h; left = is_in nodes a sa; right = is_in nodes b sb; low = (omega arith, omega arith); few = omega (arith, stored_count nodes a sa, stored_count nodes b sb) }
fits_row Right nodes n a b sa sb h high many =
    let ea = stored_height_is_height nodes (name a) a refl sa in
    let eb = stored_height_is_height nodes (name b) b refl sb in
    record { place = h; left = is_in nodes b sb; right = is_in nodes a sa; low = (omega arith, omega arith); few = omega (arith, stored_count nodes a sa, stored_count nodes b sb) }

smaller : (side : Side) (n : ℕ) (a b : Tree) → (height a ≤ height (inner_on side n a b)) × (height b ≤ height (inner_on side n a b)) × (count a ≤ count (inner_on side n a b)) × (count b ≤ count (inner_on side n a b))
smaller Left n a b = (omega arith, omega arith, omega arith, omega arith)
smaller Right n a b = (omega arith, omega arith, omega arith, omega arith)

pub fit_rows : (nodes : List Node) (p : Plan) → IsApplicable nodes p → height (tree_of_plan p) ≤ 255 → count (tree_of_plan p) < 2 ^ 32 → FitRows nodes (rows p)
fit_rows nodes (kept t) a high many = tt
fit_rows nodes (made side n near far) a high many =
    let small = smaller side n (tree_of_plan near) (tree_of_plan far) in
    let near_fits = near_applicable nodes side n near far a in
    let after = nodes_with_rows nodes (rows near) in
    let far_fits = far_applicable nodes side n near far a in
    let first = stands_applied nodes near near_fits in
    let second = stands_applied after far far_fits in
    let first_after : NodesStand (nodes_with_rows after (rows far)) (tree_of_plan near) =
    frame after _ (tree_of_plan near) (λ k h. sym (applied_away after far k (omega (arith, made_within k far, a.once k, times_inner_on side k n (tree_of_plan near) (tree_of_plan far))))) first in
    let place : n < length (nodes_with_rows after (rows far)) = omega (arith, one_same n, a.places n (omega (arith, one_same n)), length_applied nodes (rows near), length_applied after (rows far)) in
    FitRows-append nodes (rows near ++ rows far) _
    (FitRows-append nodes (rows near) (rows far) (fit_rows nodes near near_fits (omega arith) (omega arith)) (fit_rows after far far_fits (omega arith) (omega arith)))
    (rw (applied-append nodes (rows near) (rows far)) (fits_row side _ n (tree_of_plan near) (tree_of_plan far) first_after second place high many, tt))
