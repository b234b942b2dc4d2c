-- Needs of one change.
use Rattle.std.proofs.Common.{◌≡◌, ℕ, zero, suc, cond, eqb, List, [], ◌∷◌, ◌++◌, map, take, Option, Some, refl, sym, ◌∙◌, ap}
use Rattle.std.specs.List.{slice_get}
use Rattle.tree_shape.specs.declared.dirty.DirtyRow.{DirtyRow}
use Rattle.tree_shape.specs.Composing.{latest_room}
use Rattle.tree_shape.proofs.Rooms.{latest-none}
use Rattle.value_tree.specs.Kept.{IsNeed}

all_some : {R : Type 0} (xs ys : List R) → map (λ r. Some r) xs ≡ map (λ r. Some r) ys → xs ≡ ys
all_some [] [] e = refl
all_some [] (y ∷ ys) e = cc (e)
all_some (x ∷ xs) [] e = cc (e)
all_some (x ∷ xs) (y ∷ ys) e =
    let first : x ≡ y = cc (e) in
    let rest : map (λ r. Some r) xs ≡ map (λ r. Some r) ys = cc (e) in
    ap (λ r. r ∷ xs) first ∙ ap (λ rs. y ∷ rs) (all_some xs ys rest)

-- two needs of one change are equal
pub one_need : {R : Type 0} (after : R → R → R) (leaf_room node_room : ℕ → Option R) (rows : List DirtyRow) (more needed other : List R) → IsNeed after leaf_room node_room rows more needed → IsNeed after leaf_room node_room rows more other → needed ≡ other
one_need after leaf_room node_room rows more needed other n o = n.1 ∙ (ap (λ rs. rs ++ more) (all_some n.0 o.0 (n.2 ∙ sym o.2)) ∙ sym o.1)

-- the last of some rows has the room that is found, or else it is found among the rows before
pub latest_last : {R : Type 0} (n at : ℕ) (rows : List DirtyRow) (rs : List R) (row : DirtyRow) (r : R) (other : Option R) → slice_get rows at ≡ Some row → slice_get rs at ≡ Some r
    → latest_room n rows (take (suc at) rs) other ≡ cond (eqb n row.node) (Some r) (latest_room n rows (take at rs) other)
latest_last n at [] rs row r other e f = cc
latest_last n zero (x ∷ rows) [] row r other e f = cc
latest_last n zero (x ∷ rows) (q ∷ rs) row r other e f =
    let same : x ≡ row = cc in
    let here : q ≡ r = cc in
    latest-none n rows (cond (eqb n x.node) (Some q) other)
    ∙ (ap (λ (v : DirtyRow). cond (eqb n v.node) (Some q) other) same ∙ ap (λ v. cond (eqb n row.node) (Some v) other) here)
latest_last n (suc at) (x ∷ rows) [] row r other e f = cc
latest_last n (suc at) (x ∷ rows) (q ∷ rs) row r other e f = latest_last n at rows rs row r (cond (eqb n x.node) (Some q) other) e f
