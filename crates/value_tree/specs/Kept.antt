-- What always holds of a tree with its values, and the rooms that a change needs.
use Rattle.std.specs.Prelude.{◌≡◌, ℕ, ◌<◌, ◌≤◌, true, List, [], ◌∷◌, ◌++◌, map, slice_index, Option, Some}
use Rattle.std.specs.Option.{option_map}
use Rattle.tree_shape.specs.Numbers.{next_number}
use Rattle.tree_shape.specs.declared.dirty.DirtyRow.{DirtyRow}
use Rattle.tree_shape.specs.View.{ShapeView, leaves_of_tree, rows_above, rows_with, rows_without}
use Rattle.tree_shape.specs.Values.{AreThere, KeepsAll, leaf_values, with_node, composed_all}

-- each leaf has a value, these may stand in one tree, each inner node has the value composed of its leaves', and there is a place for each number drawn
pub record KeepsLeafValues {V : Type 0} (join : V → V → V) (sound : List V → Type 0) (leaf_at node_at : ℕ → Option V) (slots : ℕ) (shape : ShapeView) : Type 0 where
  pub there : AreThere leaf_at (leaves_of_tree shape.tree)
  pub sound_leaves : sound (leaf_values leaf_at shape.tree)
  pub keeps : KeepsAll join leaf_at node_at shape.tree
  pub leaf_slots : shape.leaf_numbers.drawn ≤ slots
  pub inner_slots : shape.inner_numbers.drawn ≤ slots

-- there is a place for one more leaf and one more inner node
pub record HasLeafPlace (slots : ℕ) (shape : ShapeView) : Type 0 where
  pub room : shape.room ≡ true
  pub leaf : shape.leaf_numbers.drawn < slots
  pub inner : shape.inner_numbers.drawn < slots

-- the rooms of a change: for each row that of the node, found from those of its parts, and then some more
abbrev pub IsNeed : {R : Type 0} → (R → R → R) → (ℕ → Option R) → (ℕ → Option R) → List DirtyRow → List R → List R → Type 0
IsNeed {R} after leaf_room node_room rows more needed = (rest : List R) × (needed ≡ rest ++ more) × (map (λ r. Some r) rest ≡ composed_all after leaf_room node_room rows)

module _ {V R : Type 0} (room : V → R) (after : R → R → R) (leaf_at node_at : ℕ → Option V) (shape : ShapeView) where
  -- what another value of this room at a position needs
  abbrev pub IsReplaceNeed : ℕ → R → List R → Type 0
  IsReplaceNeed at r needed = IsNeed after (with_node (λ k. option_map room (leaf_at k)) (slice_index (leaves_of_tree shape.tree) at) (Some r)) (λ k. option_map room (node_at k)) (rows_above at shape.tree) (r ∷ []) needed

  -- what one more value of this room at a position needs
  abbrev pub IsInsertNeed : ℕ → R → List R → Type 0
  IsInsertNeed at r needed = IsNeed after (with_node (λ k. option_map room (leaf_at k)) (next_number shape.leaf_numbers) (Some r)) (λ k. option_map room (node_at k)) (rows_with at (next_number shape.leaf_numbers) (next_number shape.inner_numbers) shape.tree) (r ∷ []) needed

  -- what taking out the leaf of a position needs
  abbrev pub IsRemoveNeed : ℕ → List R → Type 0
  IsRemoveNeed at needed = IsNeed after (λ k. option_map room (leaf_at k)) (λ k. option_map room (node_at k)) (rows_without at shape.tree) [] needed

-- what a change needs before, it needs after
pub record KeepsNeeds {V R : Type 0} (room : V → R) (after : R → R → R) (old_leaf old_node : ℕ → Option V) (old : ShapeView) (new_leaf new_node : ℕ → Option V) (new : ShapeView) : Type 0 where
  pub replace : (at : ℕ) (r : R) (needed : List R) → IsReplaceNeed room after old_leaf old_node old at r needed → IsReplaceNeed room after new_leaf new_node new at r needed
  pub insert : (at : ℕ) (r : R) (needed : List R) → IsInsertNeed room after old_leaf old_node old at r needed → IsInsertNeed room after new_leaf new_node new at r needed
  pub remove : (at : ℕ) (needed : List R) → IsRemoveNeed room after old_leaf old_node old at needed → IsRemoveNeed room after new_leaf new_node new at needed
