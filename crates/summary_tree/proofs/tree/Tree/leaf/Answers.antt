use Rattle.std.proofs.Common.{arith}
use Rattle.summary_tree.proofs.Layouts.{count_is}
use Rattle.summary_tree.proofs.tree.Tree.leaf.Goals as goal

pub leaf-number-requires-clause-place : goal.leaf-number-requires-clause-place
leaf-number-requires-clause-place c =
    let here = c.self.inside.whole in
    omega (arith, c.requires, count_is here.shape here.store.faces here.store.tables.items here.store.scratch.room c.args.self.now c.self.view_is c.self.invariant)
