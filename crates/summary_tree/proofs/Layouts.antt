-- What a tree's layout says of its leaves.
use Rattle.std.proofs.Common.{◌≡◌, ℕ, ◌+◌, ◌*◌, ◌≤◌, List, [], ◌∷◌, length, take, drop, Option, refl, sym, ◌∙◌, ap, subst, length-append, arith}
use Rattle.std.proofs.lemmas.List.{take-append-drop}
use Rattle.std.proofs.Math.Nat.{mul-le-mul_left}
use Rattle.loop_history.specs.declared.row.LoopRow.{LoopRow}
use Rattle.summary_compose.specs.declared.room.Room.{Room}
use Rattle.tree_shape.specs.Fewest.{list_inserted, highest}
use Rattle.tree_shape.specs.Values.{leaf_values}
use Rattle.tree_shape.specs.View.{ShapeView, IsSameShape, leaf_count_of}
use Rattle.value_tree.specs.Found.{total_count}
use Rattle.value_tree.specs.Kept.{HasLeafPlace}
use Rattle.value_tree.proofs.LeafLists.{count_values}
use Rattle.summary_tree.specs.Faces.{FacesView}
use Rattle.summary_tree.specs.Leaves.{Leaf, AreSound, leaf_lines, leaf_line_count}
use Rattle.summary_tree.specs.Store.{leaf_in, node_in, faces_place_count, HasRooms}
use Rattle.summary_tree.specs.Trees.{NeedView, TreeView, IsTree, IsSameTree, Meets, laid_out, change_steps}
use Rattle.summary_tree.proofs.SoundLeaves.{sound_of}

module _ (shape : ShapeView) (faces : FacesView) (tables : List (Option (List LoopRow))) (scratch : Room) (v : TreeView) (is : laid_out shape faces tables scratch ≡ v) (kept : IsTree shape faces tables) where
  -- there are as many leaves as the shape has
  pub count_is : length v.leaves ≡ leaf_count_of shape.tree
  count_is = ap (λ (w : TreeView). length w.leaves) (sym is) ∙ count_values (leaf_in faces tables) shape.tree kept.there

  -- they may stand in one tree
  pub is_sound : leaf_count_of shape.tree ≤ 65536 → AreSound v.leaves
  is_sound few =
      subst (λ (w : TreeView). AreSound w.leaves) is (sound_of (leaf_values (leaf_in faces tables) shape.tree) kept.sound_leaves (omega (arith, few, count_values (leaf_in faces tables) shape.tree kept.there)))

  -- a tree with the same leaves and inner nodes is the same but for its room
  pub is_same : (other : ShapeView) (other_faces : FacesView) (other_tables : List (Option (List LoopRow))) (other_scratch : Room) → IsSameShape shape other
      → ((n : ℕ) → leaf_in other_faces other_tables n ≡ leaf_in faces tables n) → ((n : ℕ) → node_in other_faces n ≡ node_in faces n) → IsSameTree v (laid_out other other_faces other_tables other_scratch)
  is_same other other_faces other_tables other_scratch same leaf node =
      subst (λ (w : TreeView). IsSameTree w (laid_out other other_faces other_tables other_scratch)) is (record {
        leaves = λ i. leaf_values (λ n. leaf n i) (same.tree i);
        laid = record { shape = same; leaf = leaf; node = node };
      })

  -- and one with as much room or more keeps it for each need
  pub keeps_room : (other : ShapeView) (other_faces : FacesView) (other_tables : List (Option (List LoopRow))) (other_scratch : Room)
      → ((needed : List Room) → HasRooms faces scratch needed → HasRooms other_faces other_scratch needed)
      → (HasLeafPlace (faces_place_count faces tables) shape → HasLeafPlace (faces_place_count other_faces other_tables) other)
      → (need : NeedView) → Meets v need → Meets (laid_out other other_faces other_tables other_scratch) need
  keeps_room other other_faces other_tables other_scratch rooms leaf need =
      subst (λ (w : TreeView). Meets w need → Meets (laid_out other other_faces other_tables other_scratch) need) is (λ m. record { rooms = rooms need.rooms m.rooms; leaf = λ one. leaf (m.leaf one) })

-- a place for one more leaf stays where there are no fewer
pub keeps_place : (slots more : ℕ) (old new : ShapeView) → slots ≤ more → new ≡ old → HasLeafPlace slots old → HasLeafPlace more new
keeps_place slots more old new h same p = record {
  room = ap (λ (s : ShapeView). s.room) same ∙ p.room;
  leaf = omega (arith, h, p.leaf, ap (λ (s : ShapeView). s.leaf_numbers.drawn) same);
  inner = omega (arith, h, p.inner, ap (λ (s : ShapeView). s.inner_numbers.drawn) same);
}

pub length_inserted : {X : Type 0} (at : ℕ) (x : X) (xs : List X) → length (list_inserted at x xs) ≡ length xs + 1
length_inserted at x xs =
    let all : length (take at xs) + length (drop at xs) ≡ length xs = sym (length-append (take at xs) (drop at xs)) ∙ ap length (take-append-drop at xs) in
    length-append (take at xs) (x ∷ drop at xs) ∙ omega (arith, all)

-- the steps of a change, by the number of leaves alone
pub steps_within : (now start each rows leaves : ℕ) → now ≤ start + 3 * each * rows → rows ≤ 3 * (highest leaves + 2) → now ≤ start + change_steps leaves each
steps_within now start each rows leaves h few =
    let more : 3 * each * rows ≤ 3 * each * (3 * (highest leaves + 2)) = mul-le-mul_left (3 * each) few in
    omega (arith, h, more, regroup each (highest leaves + 2))
  where
    regroup : (a b : ℕ) → 3 * a * (3 * b) ≡ 9 * b * a
    regroup a b = omega arith

-- the lines of leaves, counted leaf by leaf
pub total_lines : (xs : List Leaf) → total_count leaf_lines xs ≡ leaf_line_count xs
total_lines [] = refl
total_lines (x ∷ xs) = ap (λ n. x.0.lines + n) (total_lines xs)
