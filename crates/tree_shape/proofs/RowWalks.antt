-- A walk over the rows of a change, row by row.
use Rattle.std.proofs.Common.{◌≡◌, ◌≢◌, ℕ, zero, suc, ◌+◌, Bool, cond, List, [], ◌∷◌, drop, Option, Some, refl, sym, ◌∙◌, ap, subst, add-one, ◌⊎◌, inl, inr}
use Rattle.std.specs.List.{All, slice_get}
use Rattle.std.proofs.lemmas.List.Elements.{All-head, All-tail}
use Rattle.std.proofs.lemmas.Bool.Decides.{eqb_tells}
use Rattle.tree_shape.specs.declared.node.Child.{Child}
use Rattle.tree_shape.specs.declared.node.Child.TheVariants.{Leaf, Inner}
use Rattle.tree_shape.specs.declared.dirty.DirtyRow.{DirtyRow}
use Rattle.tree_shape.proofs.Rows.{next_row}
use Rattle.tree_shape.specs.Values.{part, with_node, row_value, values_refreshed}
use Rattle.tree_shape.specs.Composing.{FitSteps, steps_of_rows, IsUnderway}

-- two ways to keep the same values have the same parts
pub same_part : {V : Type 0} (leaves other_leaves nodes other_nodes : ℕ → Option V) (child : Child) → ((k : ℕ) → leaves k ≡ other_leaves k) → ((k : ℕ) → nodes k ≡ other_nodes k) → part leaves nodes child ≡ part other_leaves other_nodes child
same_part leaves other_leaves nodes other_nodes (Leaf n) a b = a n
same_part leaves other_leaves nodes other_nodes (Inner n) a b = b n

pub same_composed : {V : Type 0} (join : V → V → V) (leaves other_leaves nodes other_nodes : ℕ → Option V) (row : DirtyRow) → ((k : ℕ) → leaves k ≡ other_leaves k) → ((k : ℕ) → nodes k ≡ other_nodes k) → row_value join leaves nodes row ≡ row_value join other_leaves other_nodes row
same_composed join leaves other_leaves nodes other_nodes row a b =
    let l = same_part leaves other_leaves nodes other_nodes row.left a b in
    let r = same_part leaves other_leaves nodes other_nodes row.right a b in
    rw (l, r) refl

-- a value that a node has, or as before
pub set_node : {V : Type 0} (node_at : ℕ → Option V) (n : ℕ) (v : Option V) (k : ℕ) → ((k ≡ n) × (with_node node_at n v k ≡ v)) ⊎ ((k ≢ n) × (with_node node_at n v k ≡ node_at k))
set_node {V} node_at n v k = elim (eqb_tells k n) [ inl h ↦ inl (h.1, ap (λ (b : Bool). cond {A = Option V} b v (node_at k)) h.0) | inr h ↦ inr (h.1, ap (λ (b : Bool). cond {A = Option V} b v (node_at k)) h.0) ]

module _ {V R : Type 0} (join : V → V → V) (fits : V → V → Type 0) (cost : V → ℕ) (room : V → R) (after : R → R → R) (within : R → R → Type 0) (leaf_at : ℕ → Option V) where
  -- the next row of a walk: its two parts, the room for what is composed of them, and how the walk goes on
  pub record IsNext (meets : List R → Type 0) (nodes_before : ℕ → Option V) (steps_left : ℕ) (rows : List DirtyRow) (at : ℕ) (leaves_now nodes_now : ℕ → Option V) (row : DirtyRow) : Type 1 where
    pub a : V
    pub b : V
    pub r : R
    pub rooms : List R
    pub left : part leaves_now nodes_now row.left ≡ Some a
    pub right : part leaves_now nodes_now row.right ≡ Some b
    pub fit : fits a b
    pub enough : within (after (room a) (room b)) r
    pub meets_rest : meets (r ∷ rooms)
    pub left_then : ℕ
    pub steps : steps_left ≡ (cost a + (cost b + cost (join a b))) + left_then
    pub goes_on : (later : List R → Type 0) (leaves_then nodes_then : ℕ → Option V)
        → nodes_then row.node ≡ row_value join leaves_now nodes_now row → ((k : ℕ) → k ≢ row.node → nodes_then k ≡ nodes_now k) → ((k : ℕ) → leaves_then k ≡ leaves_now k)
        → later rooms → IsUnderway join fits cost room after within leaf_at later nodes_before left_then rows (at + 1) leaves_then nodes_then

  next_room : (meets : List R → Type 0) (nodes_before : ℕ → Option V) (steps_left : ℕ) (rows : List DirtyRow) (at : ℕ) (leaves_now nodes_now now : ℕ → Option V) (row : DirtyRow)
      → slice_get rows at ≡ Some row → (rooms : List R) → ((k : ℕ) → nodes_now k ≡ now k) → ((k : ℕ) → leaves_now k ≡ leaf_at k)
      → FitSteps join fits room after within leaf_at now (row ∷ drop (suc at) rows) rooms
      → values_refreshed join leaf_at now (row ∷ drop (suc at) rows) ≡ values_refreshed join leaf_at nodes_before rows
      → steps_of_rows join cost leaf_at now (row ∷ drop (suc at) rows) ≡ steps_left → meets rooms
      → IsNext meets nodes_before steps_left rows at leaves_now nodes_now row
  next_room meets nodes_before steps_left rows at leaves_now nodes_now now row e [] nodes leaves f rest steps m = absurd f
  next_room meets nodes_before steps_left rows at leaves_now nodes_now now row e (r ∷ rooms) nodes leaves f rest steps m =
      let here = f.0 in
      let new = row_value join leaf_at now row in
      let same : row_value join leaves_now nodes_now row ≡ new = same_composed join leaves_now leaf_at nodes_now now row leaves nodes in
      record {
        a = here.0;
        b = here.1;
        r = r;
        rooms = rooms;
        left = same_part leaves_now leaf_at nodes_now now row.left leaves nodes ∙ here.2;
        right = same_part leaves_now leaf_at nodes_now now row.right leaves nodes ∙ here.3;
        fit = here.4;
        enough = here.5;
        meets_rest = m;
        left_then = steps_of_rows join cost leaf_at (with_node now row.node new) (drop (suc at) rows);
        steps = sym steps ∙ ap (λ p. p + steps_of_rows join cost leaf_at (with_node now row.node new) (drop (suc at) rows)) (cc (here.2, here.3));
        goes_on = λ later leaves_then nodes_then own others leaves_same more. record {
          now = with_node now row.node new;
          rooms = rooms;
          nodes = λ k. elim (set_node now row.node new k) [
            | inl q ↦ ap nodes_then q.0 ∙ (own ∙ (same ∙ sym q.1))
            | inr q ↦ others k q.0 ∙ (nodes k ∙ sym q.1)
          ];
          leaves = λ k. leaves_same k ∙ leaves k;
          fit = subst (λ v. FitSteps join fits room after within leaf_at (with_node now row.node new) (drop v rows) rooms) (sym (add-one at)) f.1;
          rest = ap (λ v. values_refreshed join leaf_at (with_node now row.node new) (drop v rows)) (add-one at) ∙ rest;
          steps = ap (λ v. steps_of_rows join cost leaf_at (with_node now row.node new) (drop v rows)) (add-one at);
          meets_rest = more;
        };
      }

  pub next_of : (meets : List R → Type 0) (nodes_before : ℕ → Option V) (steps_left : ℕ) (rows : List DirtyRow) (at : ℕ) (leaves_now nodes_now : ℕ → Option V) (row : DirtyRow)
      → IsUnderway join fits cost room after within leaf_at meets nodes_before steps_left rows at leaves_now nodes_now → slice_get rows at ≡ Some row → IsNext meets nodes_before steps_left rows at leaves_now nodes_now row
  next_of meets nodes_before steps_left rows at leaves_now nodes_now row u e =
      let list = next_row rows at row e in
      next_room meets nodes_before steps_left rows at leaves_now nodes_now u.now row e u.rooms u.nodes u.leaves
      (subst (λ v. FitSteps join fits room after within leaf_at u.now v u.rooms) list u.fit)
      (ap (values_refreshed join leaf_at u.now) (sym list) ∙ u.rest)
      (ap (steps_of_rows join cost leaf_at u.now) (sym list) ∙ u.steps)
      u.meets_rest

pub all_get : {X : Type 0} (P : X → Type 0) (xs : List X) (i : ℕ) (x : X) → All P xs → slice_get xs i ≡ Some x → P x
all_get P [] i x all e = cc
all_get P (y ∷ ys) zero x all e = let same : y ≡ x = cc in subst P same (All-head P y ys all)
all_get P (y ∷ ys) (suc i) x all e = all_get P ys i x (All-tail P y ys all) e
