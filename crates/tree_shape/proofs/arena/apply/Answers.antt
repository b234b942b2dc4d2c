use Rattle.std.proofs.Common.{◌≡◌, ℕ, zero, suc, ◌+◌, ◌<◌, List, length, drop, [], ◌∷◌, arith, sym, ◌∙◌, ap, subst, refl, add-one, Some}
use Rattle.std.specs.Prelude.{slice_set}
use Rattle.std.specs.List.{slice_get}
use Rattle.tree_shape.specs.declared.node.Node.{Node}
use Rattle.tree_shape.specs.declared.dirty.DirtyRow.{DirtyRow}
use Rattle.tree_shape.specs.Apply.{FitsRow, FitRows, nodes_with_rows, nodes_with_row}
use Rattle.tree_shape.proofs.arena.apply.Goals as goal
use Rattle.tree_shape.proofs.arena.apply.Goals.{in-Some, in_default}

next_row : {X : Type 0} (xs : List X) (i : ℕ) (row : X) → slice_get xs i ≡ Some row → drop i xs ≡ row ∷ drop (suc i) xs
next_row [] i row e = cc
next_row (x ∷ xs) zero row e = cc
next_row (x ∷ xs) (suc i) row e = next_row xs i row e

some_row : {X : Type 0} (xs : List X) (i : ℕ) → i < length xs → (x : X) × (slice_get xs i ≡ Some x)
some_row [] i h = absurd (omega arith)
some_row (x ∷ xs) zero h = (x, refl)
some_row (x ∷ xs) (suc i) h = some_row xs i (omega arith)

fits : (nodes : List Node) (xs : List DirtyRow) (i : ℕ) (row : DirtyRow) → Some row ≡ slice_get xs i → FitRows nodes (drop i xs) → FitsRow nodes row × FitRows (nodes_with_row nodes row) (drop (i + 1) xs)
fits nodes xs i row e f = let g = subst (FitRows nodes) (next_row xs i row (sym e)) f in (g.0, rw add-one g.1)

pub node_of-node-requires : goal.node_of-node-requires
node_of-node-requires c = (fits c.loop-i.nodes c.args.dirty.now c.loop-i.i c.in-Some.row c.in-Some.ensures c.loop-i.invariant.fit).0

pub bounds-nodes-row : goal.bounds-nodes-row
bounds-nodes-row c = (fits c.loop-i.nodes c.args.dirty.now c.loop-i.i c.in-Some.row c.in-Some.ensures c.loop-i.invariant.fit).0.place

pub loop-i-preserved : goal.loop-i-preserved
loop-i-preserved c =
    elim c.match-get.branch [
      | in-Some w ↦
          let f = fits c.loop-i.nodes c.args.dirty.now c.loop-i.i w.in-Some.row w.in-Some.ensures c.loop-i.invariant.fit in
          let after : c.match-get.nodes ≡ nodes_with_row c.loop-i.nodes w.in-Some.row = w.nodes-is ∙ ap (slice_set c.loop-i.nodes w.in-Some.row.node) w.node_of-node.ensures in
          record {
            same = rw (after, add-one) (ap (nodes_with_rows c.loop-i.nodes) (sym (next_row c.args.dirty.now c.loop-i.i w.in-Some.row (sym w.in-Some.ensures))) ∙ c.loop-i.invariant.same);
            fit = rw after f.1;
          }
      | in_default w ↦ let s = some_row c.args.dirty.now c.loop-i.i (omega arith) in absurd (w.in_default.not-Some s.0 (c.get.ensures ∙ s.1))
    ]
