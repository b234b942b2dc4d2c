use Rattle.std.proofs.Common.{◌≡◌, ◌<◌, [], drop, length, refl, sym, ◌∙◌, ap, arith}
use Rattle.std.proofs.Math.Seq.{drop-length}
use Rattle.tree_shape.specs.declared.dirty.DirtyRow.{DirtyRow}
use Rattle.tree_shape.specs.Values.{values_refreshed}
use Rattle.tree_shape.specs.Composing.{steps_of_rows}
use Rattle.tree_shape.proofs.Rows.{some_row}
use Rattle.tree_shape.proofs.RowWalks.{next_of, all_get}
use Rattle.value_tree.proofs.Starts.{steps_moved}
use Rattle.value_tree.proofs.refresh.refresh.Goals as goal
use Rattle.value_tree.proofs.refresh.refresh.Goals.{in-Some, in_default}

pub loop-i-init : goal.loop-i-init
loop-i-init g c =
    let f = c.requires.fit in
    record {
      underway = (
        steps_of_rows g.S.Values.join g.S.Values.cost (g.S.Values.leaf_at c.args.store.now) (g.S.Values.node_at c.args.store.now) c.args.dirty.now,
        record { now = g.S.Values.node_at c.args.store.now; rooms = f.0; nodes = λ k. refl; leaves = λ k. refl; fit = f.1; rest = refl; steps = refl; meets_rest = f.2 },
        refl,
      );
      slots = refl;
    }

pub compose-requires : goal.compose-requires
compose-requires g c =
    let u = c.loop-i.invariant.underway in
    let n = next_of g.S.Values.join g.S.Values.fits g.S.Values.cost g.S.Values.room g.S.Values.after g.S.Values.within (g.S.Values.leaf_at c.args.store.now) _ _ _ _ _ _ _ c.in-Some.row u.1 (sym c.get.ensures ∙ c.in-Some.is) in
    record {
      place = rw c.loop-i.invariant.slots (all_get (λ (row : DirtyRow). row.node < g.S.Values.slots c.args.store.now) c.args.dirty.now c.loop-i.i c.in-Some.row c.requires.places (sym c.get.ensures ∙ c.in-Some.is));
      parts = (n.a, n.b, n.left, n.right, n.fit, n.r, n.rooms, n.enough, n.meets_rest);
    }

pub loop-i-preserved : goal.loop-i-preserved
loop-i-preserved g c =
    elim c.match-get.branch [
      | in-Some w ↦
          let u = c.loop-i.invariant.underway in
          let n = next_of g.S.Values.join g.S.Values.fits g.S.Values.cost g.S.Values.room g.S.Values.after g.S.Values.within (g.S.Values.leaf_at c.args.store.now) _ _ _ _ _ _ _ w.in-Some.row u.1 (sym c.get.ensures ∙ w.in-Some.is) in
          let more = w.compose.ensures.room n.a n.b n.r n.rooms n.left n.right n.enough n.meets_rest in
          record {
            underway = (
              n.left_then,
              rw w.store-is (n.goes_on (g.S.Values.meets w.compose.new.self) (g.S.Values.leaf_at w.compose.new.self) (g.S.Values.node_at w.compose.new.self) w.compose.ensures.node w.compose.ensures.others w.compose.ensures.leaves more),
              steps_moved _ _ _ _ _ _ _ u.2 (w.steps-is ∙ w.compose.ensures.cost n.a n.b n.left n.right) n.steps,
            );
            slots = rw w.store-is (w.compose.ensures.slots ∙ c.loop-i.invariant.slots);
          }
      | in_default w ↦ let s = some_row c.args.dirty.now c.loop-i.i (omega (arith, c.loop-i-test.true, c.len-i-end.ensures.len)) in absurd (w.in_default.not-Some s.0 (c.get.ensures ∙ s.1))
    ]

pub returns : goal.returns
returns g c =
    let u = c.loop-i.invariant.underway.1 in
    let len = length c.args.dirty.now in
    let leaf_at = g.S.Values.leaf_at c.args.store.now in
    let last : c.loop-i.i ≡ len = omega (arith, c.loop-i-test.false, c.loop-i.auto.i-end, c.len-i-end.ensures.len) in
    let done : drop c.loop-i.i c.args.dirty.now ≡ [] = rw last (drop-length c.args.dirty.now) in
    let same : u.now ≡ values_refreshed g.S.Values.join leaf_at (g.S.Values.node_at c.args.store.now) c.args.dirty.now = sym (ap (values_refreshed g.S.Values.join leaf_at u.now) done) ∙ u.rest in
    let none : c.loop-i.invariant.underway.0 ≡ 0 = sym u.steps ∙ ap (steps_of_rows g.S.Values.join g.S.Values.cost leaf_at u.now) done in
    record {
      nodes = λ k. u.nodes k ∙ ap (λ f. f k) same;
      leaves = u.leaves;
      slots = c.loop-i.invariant.slots;
      steps = omega (arith, none, c.loop-i.invariant.underway.2);
    }
