-- Composing all inner nodes of a tree.
use Rattle.std.proofs.Common.{◌≡◌, ℕ, ◌+◌, ◌*◌, ◌≤◌, List, [], length, Option, Some, None, refl, sym, ap, subst, arith}
use Rattle.std.specs.Option.{option_map}
use Rattle.tree_shape.specs.Apply.{times}
use Rattle.tree_shape.specs.Building.{all_made, all_rows}
use Rattle.tree_shape.specs.Plan.{tree_of_plan, rows}
use Rattle.tree_shape.specs.Tree.{Tree, leaves}
use Rattle.tree_shape.specs.Values.{AreThere, KeepsNodeValues, KeepsAll, values_of_numbers, leaf_values, values_refreshed}
use Rattle.tree_shape.specs.Composing.{StandLaws, RoomLaws, Costs, FitSteps, steps_of_rows}
use Rattle.tree_shape.specs.View.{ShapeView, IsLawfulShape, leaves_of_tree}
use Rattle.tree_shape.proofs.AllRows.{erase_all, kept_all}
use Rattle.value_tree.proofs.Changes.{HasValues, changed, plan_rooms, rooms_plain, once_of}

-- what a step of a walk takes and leaves
pub steps_moved : (steps now start all left spent left_then : ℕ) → steps + left ≡ start + all → now ≡ steps + spent → left ≡ spent + left_then → now + left_then ≡ start + all
steps_moved steps now start all left spent left_then e f h = omega (arith, e, f, h)

-- the values of a tree's leaves, by their numbers
pub values_of : {V : Type 0} (leaf_at : ℕ → Option V) (o : Option Tree) → leaf_values leaf_at o ≡ values_of_numbers leaf_at (leaves_of_tree o)
values_of leaf_at None = refl
values_of leaf_at (Some t) = refl

module _ {V R : Type 0} (join : V → V → V) (fits : V → V → Type 0) (cost : V → ℕ) (room : V → R) (after : R → R → R) (within : R → R → Type 0) (sound : List V → Type 0) (stands : List V → V → Type 0) where
  -- all inner nodes can be composed, each after those below it, and are then kept
  pub record Starts (leaf_at nodes : ℕ → Option V) (o : Option Tree) : Type 0 where
    pub rooms : List R
    pub fit : FitSteps join fits room after within leaf_at nodes (all_rows o) rooms
    pub keeps : KeepsAll join leaf_at (values_refreshed join leaf_at nodes (all_rows o)) o
    pub few : (each : ℕ) → Costs stands cost each (leaf_values leaf_at o) → steps_of_rows join cost leaf_at nodes (all_rows o) ≤ 3 * each * length (all_rows o)

  pub starts : StandLaws sound stands join fits → RoomLaws join fits room after within → ((xs : List V) → sound xs → (each : ℕ) × Costs stands cost each xs)
      → (leaf_at nodes : ℕ → Option V) (o : Option Tree) (shape : ShapeView) → IsLawfulShape shape → shape.tree ≡ o → AreThere leaf_at (leaves_of_tree o) → sound (leaf_values leaf_at o) → Starts leaf_at nodes o
  starts stand_laws room_laws cost_law leaf_at nodes None shape lawful seen there s = record { rooms = []; fit = tt; keeps = tt; few = λ each costs. omega arith }
  starts stand_laws room_laws cost_law leaf_at nodes (Some t) shape lawful seen there s =
      let p = all_made t in
      let same = erase_all t in
      let base : ℕ → Option R = λ k. option_map room (leaf_at k) in
      let once : (k : ℕ) → times k (tree_of_plan p) ≤ 1 = λ k. omega (arith, once_of shape t lawful seen k, ap (times k) same) in
      let there_p : AreThere leaf_at (leaves (tree_of_plan p)) = subst (λ u. AreThere leaf_at (leaves u)) (sym same) there in
      let sound_p : sound (values_of_numbers leaf_at (leaves (tree_of_plan p))) = subst (λ u. sound (values_of_numbers leaf_at (leaves u))) (sym same) s in
      let w = plan_rooms join room after leaf_at nodes base p once (rooms_plain join room after leaf_at nodes (leaves (tree_of_plan p)) there_p) (kept_all (HasValues join room after leaf_at nodes) (λ n. tt) t) in
      let c = changed join fits cost room after within sound stands stand_laws room_laws cost_law leaf_at nodes base (λ k. option_map room (nodes k)) p (kept_all (KeepsNodeValues join leaf_at nodes) (λ n. tt) t) once there_p sound_p (λ k. refl) (λ k. refl) w.0 w.1 in
      record {
        rooms = w.0;
        fit = c.steps;
        keeps = subst (KeepsNodeValues join leaf_at (values_refreshed join leaf_at nodes (rows p))) same c.keeps;
        few = λ each costs. c.few each (subst (λ u. Costs stands cost each (values_of_numbers leaf_at (leaves u))) (sym same) costs);
      }
