use Rattle.std.proofs.Common.{◌≡◌, ◌+◌, ℕ}
use Rattle.tree_shape.specs.Composing.{IsUnderway, steps_of_rows}
use Rattle.value_tree.proofs.refresh.refresh.Given as goal

abbrev pub invariant-loop-i : goal.invariant-loop-i
invariant-loop-i g l =
    let leaf_at = g.S.Values.leaf_at l.initial.store in
    let node_at = g.S.Values.node_at l.initial.store in
    record {
      underway : (left : ℕ) × IsUnderway g.S.Values.join g.S.Values.fits g.S.Values.cost g.S.Values.room g.S.Values.after g.S.Values.within leaf_at (g.S.Values.meets l.store) node_at left l.dirty l.i (g.S.Values.leaf_at l.store) (g.S.Values.node_at l.store)
          × (l.steps + left ≡ l.initial.steps + steps_of_rows g.S.Values.join g.S.Values.cost leaf_at node_at l.dirty);
      slots : g.S.Values.slots l.store ≡ g.S.Values.slots l.initial.store;
    }
