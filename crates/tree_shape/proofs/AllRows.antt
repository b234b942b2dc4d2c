-- The rows of all inner nodes of a tree.
use Rattle.std.proofs.Common.{◌≡◌, ℕ, zero, suc, ◌+◌, ◌<◌, [], ◌∷◌, ◌++◌, length, map, Option, Some, None, refl, sym, ◌∙◌, ap, subst, arith}
use Rattle.std.specs.List.{All, slice_get}
use Rattle.std.specs.Option.{option_map}
use Rattle.std.proofs.lemmas.List.{append_assoc, length-map, map-append}
use Rattle.std.proofs.lemmas.Option.{slice_get-map}
use Rattle.tree_shape.specs.declared.dirty.DirtyRow.{DirtyRow}
use Rattle.tree_shape.specs.declared.node.Child.{Child}
use Rattle.tree_shape.specs.declared.node.Side.TheVariants.{Left}
use Rattle.tree_shape.specs.Apply.{KeptBy}
use Rattle.tree_shape.specs.Building.{all_made, all_rows, inners_up, inners_upward, numbers_from}
use Rattle.tree_shape.specs.Changes.{HasBelow, HasChildren, numbers_below}
use Rattle.tree_shape.specs.Plan.{dirty_row, tree_of_plan, rows}
use Rattle.tree_shape.specs.Tree.{Tree, leaf, inner, name}
use Rattle.tree_shape.proofs.Halves.{below_from, length_from}
use Rattle.tree_shape.proofs.Listings.{children_listed}
use Rattle.tree_shape.proofs.RowWalks.{all_get}
use Rattle.tree_shape.proofs.Rows.{some_row}

pub erase_all : (t : Tree) → tree_of_plan (all_made t) ≡ t
erase_all (leaf n) = refl
erase_all (inner n l r) = λ i. inner n (erase_all l i) (erase_all r i)

abbrev node_of : DirtyRow → ℕ
node_of row = row.node

nodes_all : (t : Tree) → map node_of (rows (all_made t)) ≡ inners_up t
nodes_all (leaf n) = refl
nodes_all (inner n l r) =
    let near = rows (all_made l) in
    let far = rows (all_made r) in
    let own = dirty_row Left n (name (tree_of_plan (all_made l))) (name (tree_of_plan (all_made r))) in
    map-append node_of (near ++ far) (own ∷ [])
    ∙ (ap (λ ns. ns ++ n ∷ []) (map-append node_of near far ∙ (λ i. nodes_all l i ++ nodes_all r i))
    ∙ append_assoc (inners_up l) (inners_up r) (n ∷ []))

from_get : (first many i : ℕ) → i < many → slice_get (numbers_from first many) i ≡ Some (first + i)
from_get first zero i h = absurd (omega arith)
from_get first (suc many) zero h = let same : first ≡ first + 0 = omega arith in ap (λ n. Some n) same
from_get first (suc many) (suc i) h = let same : suc first + i ≡ first + suc i = omega arith in from_get (suc first) many i (omega arith) ∙ ap (λ n. Some n) same

-- the row of an inner node, where these are numbered from 0, each after those below it
pub record IsRowOf (o : Option Tree) (i : ℕ) (row : DirtyRow) : Type 0 where
  pub listed : slice_get (all_rows o) i ≡ Some row
  pub node : row.node ≡ i
  pub children : HasChildren o row

pub row_of : (o : Option Tree) (many i : ℕ) → inners_upward o ≡ numbers_below many → i < many → (row : DirtyRow) × IsRowOf o i row
row_of None many i e h =
    let counted : 0 ≡ many = ap length e ∙ (ap length (sym (below_from many)) ∙ length_from 0 many) in
    absurd (omega (arith, counted))
row_of (Some t) many i e h =
    let named : map node_of (rows (all_made t)) ≡ numbers_from 0 many = nodes_all t ∙ (e ∙ sym (below_from many)) in
    let long : length (rows (all_made t)) ≡ many = sym (length-map (rows (all_made t)) node_of) ∙ (ap length named ∙ length_from 0 many) in
    let there = some_row (rows (all_made t)) i (omega (arith, long)) in
    let number : Some there.0.node ≡ Some (0 + i) = ap (option_map node_of) (sym there.1) ∙ (sym (slice_get-map node_of (rows (all_made t)) i) ∙ (ap (λ ns. slice_get ns i) named ∙ from_get 0 many i h)) in
    let same : there.0.node ≡ 0 + i = cc (number) in
    let all : All (HasChildren (Some t)) (rows (all_made t)) = subst (λ u. All (HasChildren (Some u)) (rows (all_made t))) (erase_all t) (children_listed (all_made t)) in
    (there.0, record { listed = there.1; node = omega (arith, same); children = all_get (HasChildren (Some t)) (rows (all_made t)) i there.0 all there.1 })

-- there are as many rows as inner nodes
pub length_rows : (o : Option Tree) (many : ℕ) → inners_upward o ≡ numbers_below many → length (all_rows o) ≡ many
length_rows None many e = ap length e ∙ (ap length (sym (below_from many)) ∙ length_from 0 many)
length_rows (Some t) many e = sym (length-map (rows (all_made t)) node_of) ∙ (ap length (nodes_all t ∙ (e ∙ sym (below_from many))) ∙ length_from 0 many)

-- the row of a number, with the children that its node has
pub listed_row : (o : Option Tree) (many i : ℕ) (both : Child × Child) → inners_upward o ≡ numbers_below many → i < many → ((l r : Tree) → HasBelow o i l r → both ≡ (name l, name r))
    → slice_get (all_rows o) i ≡ Some (record { node = i; left = both.0; right = both.1 })
listed_row o many i both e h told =
    let w = row_of o many i e h in
    let c = w.1.children in
    let named = told c.0 c.1 (subst (λ n. HasBelow o n c.0 c.1) w.1.node c.2) in
    let left : w.0.left ≡ both.0 = c.3 ∙ sym (ap (λ (p : Child × Child). p.0) named) in
    let right : w.0.right ≡ both.1 = c.4 ∙ sym (ap (λ (p : Child × Child). p.1) named) in
    w.1.listed ∙ (λ j. Some (record { node = w.1.node j; left = left j; right = right j }))

-- each leaf of the plan stays
pub kept_all : (P : Tree → Type 0) → ((n : ℕ) → P (leaf n)) → (t : Tree) → KeptBy P (all_made t)
kept_all P each (leaf n) = each n
kept_all P each (inner n l r) = (kept_all P each l, kept_all P each r)
