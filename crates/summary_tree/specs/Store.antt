-- What a store of faces and loop tables has at its places.
use Rattle.std.specs.Prelude.{ℕ, ◌+◌, ◌*◌, ◌/◌, min, List, [], length, Option, Some, None, slice_index_or}
use Rattle.std.specs.List.{All}
use Rattle.std.specs.Option.{option_map}
use Rattle.face_data.specs.Summaries.{Summary}
use Rattle.loop_history.specs.declared.row.LoopRow.{LoopRow}
use Rattle.summary_compose.specs.Composing.{IsNoGreater}
use Rattle.summary_compose.specs.declared.room.Room.{Room}
use Rattle.tree_shape.specs.declared.node.Child.{Child}
use Rattle.tree_shape.specs.declared.node.Child.TheVariants.{Leaf, Inner}
use Rattle.summary_tree.specs.Faces.{FacesView, AreSpansReserved, face_in}

-- leaves and inner nodes in one table
abbrev pub child_slot : Child → ℕ
child_slot (Leaf n) = 2 * n
child_slot (Inner n) = 2 * n + 1

-- a summary and a table of loops, if both are there
abbrev pub leaf_from : Option Summary → Option (List LoopRow) → Option (Summary × List LoopRow)
leaf_from None table = None
leaf_from (Some face) None = None
leaf_from (Some face) (Some table) = Some (face, table)

-- the leaf with a number
abbrev pub leaf_in : FacesView → List (Option (List LoopRow)) → ℕ → Option (Summary × List LoopRow)
leaf_in faces tables n = leaf_from (face_in faces (child_slot (Leaf n))) (slice_index_or tables n None)

-- the summary of an inner node, without loops
abbrev pub node_in : FacesView → ℕ → Option (Summary × List LoopRow)
node_in faces n = option_map (λ (face : Summary). (face, [])) (face_in faces (child_slot (Inner n)))

-- how many leaves and inner nodes there is a place for
abbrev pub faces_place_count : FacesView → List (Option (List LoopRow)) → ℕ
faces_place_count faces tables = min (length faces.faces / 2) (length tables)

-- there are spans for faces of these rooms, one after the other, and the scratch has room for each
pub record HasRooms (faces : FacesView) (scratch : Room) (rooms : List Room) : Type 0 where
  pub spans : AreSpansReserved faces rooms
  pub scratch_has : All (λ r. IsNoGreater r scratch) rooms
