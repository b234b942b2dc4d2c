-- What a change needs, in trees that are the same but for their room.
use Rattle.std.proofs.Common.{◌≡◌, ℕ, Bool, true, false, List, [], ◌∷◌, Option, Some, refl, sym, ◌∙◌, subst}
use Rattle.std.specs.Prelude.{◌↔◌, slice_index}
use Rattle.std.specs.Option.{option_map}
use Rattle.face_data.specs.Summaries.{Summary}
use Rattle.summary_compose.specs.Rooms.{room_after}
use Rattle.summary_compose.specs.declared.room.Room.{Room}
use Rattle.tree_shape.specs.Numbers.{NumbersView, next_number}
use Rattle.tree_shape.specs.Tree.{Tree}
use Rattle.tree_shape.specs.Values.{with_node}
use Rattle.tree_shape.specs.View.{leaves_of_tree, rows_above, rows_with, rows_without}
use Rattle.value_tree.specs.Kept.{IsNeed, IsReplaceNeed, IsInsertNeed, IsRemoveNeed}
use Rattle.value_tree.proofs.Needs.{one_need}
use Rattle.summary_tree.specs.Leaves.{Leaf, leaf_room}
use Rattle.summary_tree.specs.Rooms.{kept_room}
use Rattle.summary_tree.specs.Store.{leaf_in, node_in, HasRooms}
use Rattle.summary_tree.specs.Trees.{Layout, TreeView, NeedView, IsSameLayout, IsSameTree, Meets, CanReplace, CanInsert, CanRemove}

-- the leaves and the inner nodes of a layout
abbrev leaves_at : Layout → ℕ → Option Leaf
leaves_at laid = leaf_in laid.faces laid.tables

abbrev nodes_at : Layout → ℕ → Option Leaf
nodes_at laid = node_in laid.faces

same_leaves : (old new : Layout) → IsSameLayout old new → leaves_at new ≡ leaves_at old
same_leaves old new s = λ i n. s.leaf n i

same_nodes : (old new : Layout) → IsSameLayout old new → nodes_at new ≡ nodes_at old
same_nodes old new s = λ i n. s.node n i

-- each kind of need, by what it speaks of
abbrev Replaces : ℕ → Room → List Room → (ℕ → Option Leaf) → (ℕ → Option Leaf) → Option Tree → Type 0
Replaces at r needed leaf node o =
    IsNeed room_after (with_node (λ k. option_map leaf_room (leaf k)) (slice_index (leaves_of_tree o) at) (Some r)) (λ k. option_map leaf_room (node k)) (rows_above at o) (r ∷ []) needed

abbrev Inserts : ℕ → Room → List Room → (ℕ → Option Leaf) → (ℕ → Option Leaf) → Option Tree → NumbersView → NumbersView → Type 0
Inserts at r needed leaf node o leaf_numbers inner_numbers =
    IsNeed room_after (with_node (λ k. option_map leaf_room (leaf k)) (next_number leaf_numbers) (Some r)) (λ k. option_map leaf_room (node k)) (rows_with at (next_number leaf_numbers) (next_number inner_numbers) o) (r ∷ []) needed

abbrev Removes : ℕ → List Room → (ℕ → Option Leaf) → (ℕ → Option Leaf) → Option Tree → Type 0
Removes at needed leaf node o = IsNeed room_after (λ k. option_map leaf_room (leaf k)) (λ k. option_map leaf_room (node k)) (rows_without at o) [] needed

module _ (old new : Layout) (s : IsSameLayout old new) (at : ℕ) (needed : List Room) where
  replaces : (r : Room) → IsReplaceNeed leaf_room room_after (leaves_at old) (nodes_at old) old.shape at r needed → IsReplaceNeed leaf_room room_after (leaves_at new) (nodes_at new) new.shape at r needed
  replaces r n =
      subst (λ leaf. Replaces at r needed leaf (nodes_at new) new.shape.tree) (sym (same_leaves old new s))
      (subst (λ node. Replaces at r needed (leaves_at old) node new.shape.tree) (sym (same_nodes old new s))
      (subst (λ o. Replaces at r needed (leaves_at old) (nodes_at old) o) (sym s.shape.tree) n))

  inserts : (r : Room) → IsInsertNeed leaf_room room_after (leaves_at old) (nodes_at old) old.shape at r needed → IsInsertNeed leaf_room room_after (leaves_at new) (nodes_at new) new.shape at r needed
  inserts r n =
      subst (λ leaf. Inserts at r needed leaf (nodes_at new) new.shape.tree new.shape.leaf_numbers new.shape.inner_numbers) (sym (same_leaves old new s))
      (subst (λ node. Inserts at r needed (leaves_at old) node new.shape.tree new.shape.leaf_numbers new.shape.inner_numbers) (sym (same_nodes old new s))
      (subst (λ v. Inserts at r needed (leaves_at old) (nodes_at old) new.shape.tree new.shape.leaf_numbers v) (sym s.shape.inner_numbers)
      (subst (λ v. Inserts at r needed (leaves_at old) (nodes_at old) new.shape.tree v old.shape.inner_numbers) (sym s.shape.leaf_numbers)
      (subst (λ o. Inserts at r needed (leaves_at old) (nodes_at old) o old.shape.leaf_numbers old.shape.inner_numbers) (sym s.shape.tree) n))))

  removes : IsRemoveNeed leaf_room room_after (leaves_at old) (nodes_at old) old.shape at needed → IsRemoveNeed leaf_room room_after (leaves_at new) (nodes_at new) new.shape at needed
  removes n =
      subst (λ leaf. Removes at needed leaf (nodes_at new) new.shape.tree) (sym (same_leaves old new s))
      (subst (λ node. Removes at needed (leaves_at old) node new.shape.tree) (sym (same_nodes old new s))
      (subst (λ o. Removes at needed (leaves_at old) (nodes_at old) o) (sym s.shape.tree) n))

-- each tree is the same as itself, and two that are the same as a third in turn
pub same_self : (tree : TreeView) → IsSameTree tree tree
same_self tree = record { leaves = refl; laid = record { shape = record { tree = refl; leaf_numbers = refl; inner_numbers = refl }; leaf = λ n. refl; node = λ n. refl } }

pub same_then : (a b c : TreeView) → IsSameTree a b → IsSameTree b c → IsSameTree a c
same_then a b c s t = record {
  leaves = t.leaves ∙ s.leaves;
  laid = record {
    shape = record { tree = t.laid.shape.tree ∙ s.laid.shape.tree; leaf_numbers = t.laid.shape.leaf_numbers ∙ s.laid.shape.leaf_numbers; inner_numbers = t.laid.shape.inner_numbers ∙ s.laid.shape.inner_numbers };
    leaf = λ n. t.laid.leaf n ∙ s.laid.leaf n;
    node = λ n. t.laid.node n ∙ s.laid.node n;
  };
}

not_true : {X : Type 0} (b : Bool) → b ≡ false → b ≡ true → X
not_true b e f = let clash : false ≡ true = sym e ∙ f in cc (clash)

-- the need of a change is met exactly where the change can be made
module _ (self : TreeView) (at : ℕ) (need : NeedView) where
  pub replace_met : (summary : Summary) → IsReplaceNeed leaf_room room_after (leaves_at self.laid) (nodes_at self.laid) self.laid.shape at (kept_room summary) need.rooms → need.leaf ≡ false
      → (tree : TreeView) → IsSameTree self tree → Meets tree need ↔ CanReplace tree at summary
  replace_met summary n none tree s =
      let r = kept_room summary in
      let carried = replaces self.laid tree.laid s.laid at need.rooms r n in (
        λ m. record { rooms = need.rooms; met = m.rooms; need = carried },
        λ c. record {
          rooms = subst (HasRooms tree.laid.faces tree.laid.scratch)
              (one_need room_after (with_node (λ k. option_map leaf_room (leaves_at tree.laid k)) (slice_index (leaves_of_tree tree.laid.shape.tree) at) (Some r)) (λ k. option_map leaf_room (nodes_at tree.laid k)) (rows_above at tree.laid.shape.tree) (r ∷ []) c.rooms need.rooms c.need carried) c.met;
          leaf = λ h. not_true need.leaf none h;
        },
      )

  pub insert_met : (summary : Summary) → IsInsertNeed leaf_room room_after (leaves_at self.laid) (nodes_at self.laid) self.laid.shape at (kept_room summary) need.rooms → need.leaf ≡ true
      → (tree : TreeView) → IsSameTree self tree → Meets tree need ↔ CanInsert tree at summary
  insert_met summary n one tree s =
      let r = kept_room summary in
      let new = next_number tree.laid.shape.leaf_numbers in
      let number = next_number tree.laid.shape.inner_numbers in
      let carried = inserts self.laid tree.laid s.laid at need.rooms r n in (
        λ m. record { rooms = need.rooms; met = m.rooms; need = carried; leaf = m.leaf one },
        λ c. record {
          rooms = subst (HasRooms tree.laid.faces tree.laid.scratch)
              (one_need room_after (with_node (λ k. option_map leaf_room (leaves_at tree.laid k)) new (Some r)) (λ k. option_map leaf_room (nodes_at tree.laid k)) (rows_with at new number tree.laid.shape.tree) (r ∷ []) c.rooms need.rooms c.need carried) c.met;
          leaf = λ h. c.leaf;
        },
      )

  pub remove_met : IsRemoveNeed leaf_room room_after (leaves_at self.laid) (nodes_at self.laid) self.laid.shape at need.rooms → need.leaf ≡ false
      → (tree : TreeView) → IsSameTree self tree → Meets tree need ↔ CanRemove tree at
  remove_met n none tree s =
      let carried = removes self.laid tree.laid s.laid at need.rooms n in (
        λ m. record { rooms = need.rooms; met = m.rooms; need = carried },
        λ c. record {
          rooms = subst (HasRooms tree.laid.faces tree.laid.scratch)
              (one_need room_after (λ k. option_map leaf_room (leaves_at tree.laid k)) (λ k. option_map leaf_room (nodes_at tree.laid k)) (rows_without at tree.laid.shape.tree) [] c.rooms need.rooms c.need carried) c.met;
          leaf = λ h. not_true need.leaf none h;
        },
      )
