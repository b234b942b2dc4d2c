use Rattle.std.proofs.Common.{◌≡◌, suc, ◌∷◌, drop, length, sym, ◌∙◌, ap, add-one}
use Rattle.std.specs.Prelude.{slice_index_or}
use Rattle.std.proofs.Math.Seq.{drop-cons}
use Rattle.tree_shape.specs.declared.node.Child.TheVariants.{Leaf}
use Rattle.tree_shape.specs.declared.node.Node.{Node}
use Rattle.tree_shape.specs.Parents.{ParentsView, parents_of, with_parent, with_parents, rows_in}
use Rattle.tree_shape.proofs.Halves.{placed_at}
use Rattle.tree_shape.proofs.parents.Parents.note_nodes.Goals as goal

pub set-requires : goal.set-requires
set-requires c =
    let row = placed_at (length c.args.self.now.leaves.items) (length c.args.self.now.inners.items) 0 c.args.nodes.now c.loop-number.number (record { left = Leaf 0; right = Leaf 0; height = 0; leaves = 0 }) c.loop-number-test.true c.requires.places in
    rw (c.loop-number.invariant.leaves, c.loop-number.invariant.inners) row.0

pub set-requires-in-loop-number : goal.set-requires-in-loop-number
set-requires-in-loop-number c =
    let row = placed_at (length c.args.self.now.leaves.items) (length c.args.self.now.inners.items) 0 c.args.nodes.now c.loop-number.number (record { left = Leaf 0; right = Leaf 0; height = 0; leaves = 0 }) c.loop-number-test.true c.requires.places in
    rw (c.set.ensures.leaves, c.set.ensures.inners, c.loop-number.invariant.leaves, c.loop-number.invariant.inners) row.1

pub loop-number-preserved : goal.loop-number-preserved
loop-number-preserved c =
    let n = c.loop-number.number in
    let nodes = c.args.nodes.now in
    let node : Node = slice_index_or nodes n (record { left = Leaf 0; right = Leaf 0; height = 0; leaves = 0 }) in
    let before = parents_of c.loop-number.self in
    let after : parents_of c.set-in-loop-number.new.self ≡ with_parent (with_parent before node.left n) node.right n = c.set-in-loop-number.ensures.set ∙ ap (λ (v : ParentsView). with_parent v node.right n) c.set.ensures.set in
    let rest : drop n nodes ≡ node ∷ drop (suc n) nodes = drop-cons nodes n (record { left = Leaf 0; right = Leaf 0; height = 0; leaves = 0 }) c.loop-number-test.true in
    record {
      same =
          ap (λ k. with_parents (parents_of c.set-in-loop-number.new.self) (rows_in k (drop k nodes))) (add-one n)
          ∙ (ap (λ (v : ParentsView). with_parents v (rows_in (suc n) (drop (suc n) nodes))) after ∙ (ap (λ xs. with_parents before (rows_in n xs)) (sym rest) ∙ c.loop-number.invariant.same));
      leaves = c.set-in-loop-number.ensures.leaves ∙ (c.set.ensures.leaves ∙ c.loop-number.invariant.leaves);
      inners = c.set-in-loop-number.ensures.inners ∙ (c.set.ensures.inners ∙ c.loop-number.invariant.inners);
    }
