use Rattle.std.proofs.Common.{◌≡◌, ◌+◌, ◌≤◌, ℕ}
use Rattle.tree_shape.specs.Building.{all_rows}
use Rattle.tree_shape.specs.Composing.{IsUnderway, steps_of_rows}
use Rattle.value_tree.proofs.start.compose_all.Given as goal

abbrev pub invariant-loop-node : goal.invariant-loop-node
invariant-loop-node g l =
    let leaf_at = g.S.Values.leaf_at l.initial.store in
    let node_at = g.S.Values.node_at l.initial.store in
    let rows = all_rows l.shape.tree in
    record {
      underway : (left : ℕ) × IsUnderway g.S.Values.join g.S.Values.fits g.S.Values.cost g.S.Values.room g.S.Values.after g.S.Values.within leaf_at (λ needed. Unit {0}) node_at left rows l.node (g.S.Values.leaf_at l.store) (g.S.Values.node_at l.store)
          × (l.steps + left ≡ l.initial.steps + steps_of_rows g.S.Values.join g.S.Values.cost leaf_at node_at rows);
      slots : g.S.Values.slots l.initial.store ≤ g.S.Values.slots l.store;
    }
