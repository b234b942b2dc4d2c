use Rattle.std.proofs.Common.{◌≡◌, [], drop, length, refl, sym, ◌∙◌, ap, subst, arith}
use Rattle.std.proofs.Math.Seq.{drop-length}
use Rattle.tree_shape.specs.declared.dirty.DirtyRow.{DirtyRow}
use Rattle.tree_shape.specs.Building.{all_rows}
use Rattle.tree_shape.specs.Changes.{HasInner}
use Rattle.tree_shape.specs.Composing.{steps_of_rows}
use Rattle.tree_shape.specs.Values.{values_refreshed}
use Rattle.tree_shape.proofs.AllRows.{row_of, listed_row, length_rows}
use Rattle.tree_shape.proofs.RowWalks.{next_of}
use Rattle.value_tree.proofs.Starts.{steps_moved}
use Rattle.value_tree.proofs.start.compose_all.Goals as goal

pub loop-node-init : goal.loop-node-init
loop-node-init g c =
    let f = c.requires.fit in
    record {
      underway = (
        steps_of_rows g.S.Values.join g.S.Values.cost (g.S.Values.leaf_at c.args.store.now) (g.S.Values.node_at c.args.store.now) (all_rows c.args.shape.now.tree),
        record { now = g.S.Values.node_at c.args.store.now; rooms = f.0; nodes = λ k. refl; leaves = λ k. refl; fit = f.1; rest = refl; steps = refl; meets_rest = tt },
        refl,
      );
      slots = omega arith;
    }

pub children-left-requires : goal.children-left-requires
children-left-requires g c =
    let w = row_of c.args.shape.now.tree c.args.shape.now.inner_numbers.drawn c.loop-node.node c.requires.ordered (omega (arith, c.loop-node-test.true, c.inner_numbers-node-end.ensures)) in
    subst (HasInner c.args.shape.now.tree) w.1.node (w.1.children.0, w.1.children.1, w.1.children.2)

pub compose_row-requires-clause-parts : goal.compose_row-requires-clause-parts
compose_row-requires-clause-parts g c =
    let u = c.loop-node.invariant.underway in
    let row : DirtyRow = record { node = c.loop-node.node; left = c.children-left.result.0; right = c.children-left.result.1 } in
    let listed = listed_row c.args.shape.now.tree c.args.shape.now.inner_numbers.drawn c.loop-node.node c.children-left.result c.requires.ordered (omega (arith, c.loop-node-test.true, c.inner_numbers-node-end.ensures)) c.children-left.ensures in
    let n = next_of g.S.Values.join g.S.Values.fits g.S.Values.cost g.S.Values.room g.S.Values.after g.S.Values.within (g.S.Values.leaf_at c.args.store.now) (λ needed. Unit {0}) (g.S.Values.node_at c.args.store.now) u.0 (all_rows c.args.shape.now.tree) c.loop-node.node (g.S.Values.leaf_at c.loop-node.store) (g.S.Values.node_at c.loop-node.store) row u.1 listed in
    (n.a, n.b, n.left, n.right, n.fit)

pub loop-node-preserved : goal.loop-node-preserved
loop-node-preserved g c =
    let u = c.loop-node.invariant.underway in
    let row : DirtyRow = record { node = c.loop-node.node; left = c.children-left.result.0; right = c.children-left.result.1 } in
    let listed = listed_row c.args.shape.now.tree c.args.shape.now.inner_numbers.drawn c.loop-node.node c.children-left.result c.requires.ordered (omega (arith, c.loop-node-test.true, c.inner_numbers-node-end.ensures)) c.children-left.ensures in
    let n = next_of g.S.Values.join g.S.Values.fits g.S.Values.cost g.S.Values.room g.S.Values.after g.S.Values.within (g.S.Values.leaf_at c.args.store.now) (λ needed. Unit {0}) (g.S.Values.node_at c.args.store.now) u.0 (all_rows c.args.shape.now.tree) c.loop-node.node (g.S.Values.leaf_at c.loop-node.store) (g.S.Values.node_at c.loop-node.store) row u.1 listed in
    let done = c.in_ok-compose_row.ensures in
    record {
      underway = (
        n.left_then,
        n.goes_on (λ needed. Unit {0}) (g.S.Values.leaf_at c.compose_row.new.store) (g.S.Values.node_at c.compose_row.new.store) done.node done.others done.leaves tt,
        steps_moved _ _ _ _ _ _ _ u.2 (done.cost n.a n.b n.left n.right) n.steps,
      );
      slots = omega (arith, c.loop-node.invariant.slots, done.slots);
    }

pub returns-clause-nodes : goal.returns-clause-nodes
returns-clause-nodes g c =
    let u = c.loop-node.invariant.underway.1 in
    let rows = all_rows c.args.shape.now.tree in
    let last : c.loop-node.node ≡ length rows = omega (arith, c.loop-node-test.false, c.loop-node.auto.node-end, c.inner_numbers-node-end.ensures, length_rows c.args.shape.now.tree c.args.shape.now.inner_numbers.drawn c.requires.ordered) in
    let done : drop c.loop-node.node rows ≡ [] = rw last (drop-length rows) in
    let same : u.now ≡ values_refreshed g.S.Values.join (g.S.Values.leaf_at c.args.store.now) (g.S.Values.node_at c.args.store.now) rows = sym (ap (values_refreshed g.S.Values.join (g.S.Values.leaf_at c.args.store.now) u.now) done) ∙ u.rest in
    λ k. u.nodes k ∙ ap (λ f. f k) same
