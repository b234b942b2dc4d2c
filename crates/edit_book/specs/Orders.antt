-- The order of a document's blocks.
use Rattle.std.specs.Prelude.{◌≡◌, ℕ, ◌+◌, ◌≤◌, Bool, ◌&&◌, nat_lt, List, length, Option, Some, None, slice_index_or, ◌==◌}
use Rattle.std.specs.List.{position_or_len}
use Rattle.edit_journal.specs.declared.edit.Anchor.{Anchor}
use Rattle.edit_journal.specs.declared.edit.Anchor.TheVariants.{Start, After}
use Rattle.tree_shape.specs.Numbers.{times_in}
use Rattle.tree_shape.specs.Values.{values_of_numbers}
use Rattle.tree_shape.specs.View.{ShapeView, leaves_of_tree}

-- the ids in their order, whether there is room for one more, and how many ids the table of leaves has a place for
pub record OrderView : Type 0 where
  pub ids : List ℕ
  pub room : Bool
  pub places : ℕ

abbrev pub is_id : ℕ → ℕ → Bool
is_id id x = x == id

-- the place of a new block: first, or behind the anchor
abbrev pub anchor_position : Anchor → List ℕ → ℕ
anchor_position Start ids = 0
anchor_position (After id) ids = position_or_len (is_id id) ids + 1

-- what a table has for a number, if anything
abbrev pub number_at : List (Option ℕ) → ℕ → Option ℕ
number_at table k = slice_index_or table k None

-- Each of the leaves has an id, which has this leaf, and an id that has a leaf is the id of that leaf, which is one of these.
-- A number that is no leaf's may have any id.
pub record LeavesHaveIds (leaves : List ℕ) (id_of leaf_of : ℕ → Option ℕ) : Type 0 where
  pub given : (n : ℕ) → 1 ≤ times_in n leaves → (id : ℕ) × (id_of n ≡ Some id) × (leaf_of id ≡ Some n)
  pub back : (id n : ℕ) → leaf_of id ≡ Some n → (1 ≤ times_in n leaves) × (id_of n ≡ Some id)

-- what is seen of a shape, of the ids by leaf numbers and of the leaf numbers by ids
abbrev pub order_view : ShapeView → List (Option ℕ) → List (Option ℕ) → OrderView
order_view shape ids leaves = record {
  ids = values_of_numbers (number_at ids) (leaves_of_tree shape.tree);
  room = shape.room && nat_lt shape.leaf_numbers.drawn (length ids);
  places = length leaves;
}
