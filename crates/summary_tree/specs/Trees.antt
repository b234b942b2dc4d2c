-- What contracts see of a tree, and what a change of it needs.
use Rattle.std.specs.Prelude.{◌≡◌, ℕ, ◌+◌, ◌*◌, true, Bool, List, Option}
use Rattle.loop_history.specs.declared.row.LoopRow.{LoopRow}
use Rattle.face_data.specs.Summaries.{Summary}
use Rattle.summary_compose.specs.Rooms.{room_after}
use Rattle.summary_compose.specs.declared.room.Room.{Room}
use Rattle.tree_shape.specs.Fewest.{highest}
use Rattle.tree_shape.specs.Values.{leaf_values}
use Rattle.tree_shape.specs.View.{ShapeView, IsSameShape}
use Rattle.value_tree.specs.Kept.{HasLeafPlace, KeepsLeafValues, IsReplaceNeed, IsInsertNeed, IsRemoveNeed}
use Rattle.summary_tree.specs.Faces.{FacesView}
use Rattle.summary_tree.specs.Leaves.{Leaf, StandTogether, joined_leaf, leaf_room}
use Rattle.summary_tree.specs.Rooms.{kept_room}
use Rattle.summary_tree.specs.Store.{leaf_in, node_in, faces_place_count, HasRooms}

-- How a tree lies in memory: its shape, the faces and the tables of loops by their places, and the room of the scratch. A reader
-- of the contracts needn't look.
pub record Layout : Type 0 where
  pub shape : ShapeView
  pub faces : FacesView
  pub tables : List (Option (List LoopRow))
  pub scratch : Room

-- the leaves from the first on, and how they lie
pub record TreeView : Type 0 where
  pub leaves : List Leaf
  pub laid : Layout

-- a tree with this layout
abbrev pub laid_out : ShapeView → FacesView → List (Option (List LoopRow)) → Room → TreeView
laid_out shape faces tables scratch = record {
  leaves = leaf_values (leaf_in faces tables) shape.tree;
  laid = record { shape = shape; faces = faces; tables = tables; scratch = scratch };
}

-- What always holds of it: each leaf has its face and its table, they may stand in one tree, and each inner node has the face
-- composed of those below it.
abbrev pub IsTree : ShapeView → FacesView → List (Option (List LoopRow)) → Type 0
IsTree shape faces tables = KeepsLeafValues joined_leaf StandTogether (leaf_in faces tables) (node_in faces) (faces_place_count faces tables) shape

-- the rooms of the faces that a change makes, in the order in which it makes them, and whether it makes a leaf
pub record NeedView : Type 0 where
  pub rooms : List Room
  pub leaf : Bool

-- all but the room is the same
pub record IsSameLayout (old new : Layout) : Type 0 where
  pub shape : IsSameShape old.shape new.shape
  pub leaf : (n : ℕ) → leaf_in new.faces new.tables n ≡ leaf_in old.faces old.tables n
  pub node : (n : ℕ) → node_in new.faces n ≡ node_in old.faces n

pub record IsSameTree (old new : TreeView) : Type 0 where
  pub leaves : new.leaves ≡ old.leaves
  pub laid : IsSameLayout old.laid new.laid

-- the room is there that a change needs
pub record Meets (tree : TreeView) (need : NeedView) : Type 0 where
  pub rooms : HasRooms tree.laid.faces tree.laid.scratch need.rooms
  pub leaf : need.leaf ≡ true → HasLeafPlace (faces_place_count tree.laid.faces tree.laid.tables) tree.laid.shape

-- the room is there for another face at this position
pub record CanReplace (tree : TreeView) (at : ℕ) (summary : Summary) : Type 0 where
  pub rooms : List Room
  pub met : HasRooms tree.laid.faces tree.laid.scratch rooms
  pub need : IsReplaceNeed leaf_room room_after (leaf_in tree.laid.faces tree.laid.tables) (node_in tree.laid.faces) tree.laid.shape at (kept_room summary) rooms

-- the room is there for one more face before this position
pub record CanInsert (tree : TreeView) (at : ℕ) (summary : Summary) : Type 0 where
  pub rooms : List Room
  pub met : HasRooms tree.laid.faces tree.laid.scratch rooms
  pub need : IsInsertNeed leaf_room room_after (leaf_in tree.laid.faces tree.laid.tables) (node_in tree.laid.faces) tree.laid.shape at (kept_room summary) rooms
  pub leaf : HasLeafPlace (faces_place_count tree.laid.faces tree.laid.tables) tree.laid.shape

-- the room is there to take out the face of this position
pub record CanRemove (tree : TreeView) (at : ℕ) : Type 0 where
  pub rooms : List Room
  pub met : HasRooms tree.laid.faces tree.laid.scratch rooms
  pub need : IsRemoveNeed leaf_room room_after (leaf_in tree.laid.faces tree.laid.tables) (node_in tree.laid.faces) tree.laid.shape at rooms

-- how many steps a change takes at most in a tree of so many leaves, where no summary has more items than this
abbrev pub change_steps : ℕ → ℕ → ℕ
change_steps leaves most = 9 * (highest leaves + 2) * most
