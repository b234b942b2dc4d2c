use Rattle.std.proofs.Common.{◌≡◌, ◌+◌, ◌∷◌, drop, length, sym, ◌∙◌, ap, arith, add-one}
use Rattle.tree_shape.specs.Parents.{ParentsView, parents_of, with_parent, with_parents, RowIsPlaced}
use Rattle.tree_shape.proofs.Rows.{next_row, some_row}
use Rattle.tree_shape.proofs.RowWalks.{all_get}
use Rattle.tree_shape.proofs.parents.Parents.note.Goals as goal
use Rattle.tree_shape.proofs.parents.Parents.note.Goals.{in-Some, in_default}

pub set-requires : goal.set-requires
set-requires c =
    let row = all_get (RowIsPlaced (length c.args.self.now.leaves.items) (length c.args.self.now.inners.items)) c.args.dirty.now c.loop-i.i c.in-Some.row c.requires (sym c.get.ensures ∙ c.in-Some.is) in
    rw (c.loop-i.invariant.leaves, c.loop-i.invariant.inners) row.0

pub set-requires-in-Some : goal.set-requires-in-Some
set-requires-in-Some c =
    let row = all_get (RowIsPlaced (length c.args.self.now.leaves.items) (length c.args.self.now.inners.items)) c.args.dirty.now c.loop-i.i c.in-Some.row c.requires (sym c.get.ensures ∙ c.in-Some.is) in
    rw (c.set.ensures.leaves, c.set.ensures.inners, c.loop-i.invariant.leaves, c.loop-i.invariant.inners) row.1

pub loop-i-preserved : goal.loop-i-preserved
loop-i-preserved c =
    elim c.match-get.branch [
      | in-Some w ↦
          let row = w.in-Some.row in
          let before = parents_of c.loop-i.self in
          let after : parents_of c.match-get.self ≡ with_parent (with_parent before row.left row.node) row.right row.node = ap parents_of w.self-is ∙ (w.set-in-Some.ensures.set ∙ ap (λ (v : ParentsView). with_parent v row.right row.node) w.set.ensures.set) in
          let rest : drop c.loop-i.i c.args.dirty.now ≡ row ∷ drop (c.loop-i.i + 1) c.args.dirty.now = next_row c.args.dirty.now c.loop-i.i row (sym w.in-Some.ensures) ∙ ap (λ n. row ∷ drop n c.args.dirty.now) (sym (add-one c.loop-i.i)) in
          record {
            same = ap (λ (v : ParentsView). with_parents v (drop (c.loop-i.i + 1) c.args.dirty.now)) after ∙ (ap (with_parents before) (sym rest) ∙ c.loop-i.invariant.same);
            leaves = rw w.self-is (w.set-in-Some.ensures.leaves ∙ (w.set.ensures.leaves ∙ c.loop-i.invariant.leaves));
            inners = rw w.self-is (w.set-in-Some.ensures.inners ∙ (w.set.ensures.inners ∙ c.loop-i.invariant.inners));
          }
      | in_default w ↦ let s = some_row c.args.dirty.now c.loop-i.i (omega (arith, c.loop-i-test.true, c.len-i-end.ensures.len)) in absurd (w.in_default.not-Some s.0 (c.get.ensures ∙ s.1))
    ]
