-- The rooms that a change finds.
use Rattle.std.specs.Prelude.{ℕ, List, [], ◌∷◌, Option, Some, None}
use Rattle.std.specs.Option.{option_map}
use Rattle.tree_shape.specs.declared.node.Child.{Child}
use Rattle.tree_shape.specs.declared.node.Child.TheVariants.{Leaf, Inner}
use Rattle.tree_shape.specs.declared.dirty.DirtyRow.{DirtyRow}
use Rattle.tree_shape.specs.Values.{with_node}
use Rattle.tree_shape.specs.Composing.{latest_room}
use Rattle.value_tree.specs.declared.need.NewLeaf.{NewLeaf}

-- the rooms of the leaves, one of them new
abbrev pub leaf_rooms : {V R : Type 0} → (V → R) → (ℕ → Option V) → Option (NewLeaf R) → ℕ → Option R
leaf_rooms room leaf_at None k = option_map room (leaf_at k)
leaf_rooms room leaf_at (Some new) k = with_node (λ k. option_map room (leaf_at k)) new.number (Some new.room) k

-- the rooms of the inner nodes
abbrev pub node_rooms : {V R : Type 0} → (V → R) → (ℕ → Option V) → ℕ → Option R
node_rooms room node_at k = option_map room (node_at k)

-- the new leaf's room
abbrev pub more_rooms : {R : Type 0} → Option (NewLeaf R) → List R
more_rooms None = []
more_rooms (Some new) = new.room ∷ []

-- the room of a child, after some rows have theirs
abbrev pub found_at : {V R : Type 0} → (V → R) → (ℕ → Option V) → (ℕ → Option V) → Option (NewLeaf R) → List DirtyRow → List R → Child → Option R
found_at room leaf_at node_at new rows rs (Leaf n) = leaf_rooms room leaf_at new n
found_at room leaf_at node_at new rows rs (Inner n) = latest_room n rows rs (node_rooms room node_at n)
