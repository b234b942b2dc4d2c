use Rattle.std.proofs.Common.{sym, ◌∙◌, arith}
use Rattle.summary_tree.proofs.Layouts.{count_is, is_sound}
use Rattle.summary_tree.proofs.tree.Tree.len.Goals as goal

pub returns-clause-len : goal.returns-clause-len
returns-clause-len c =
    let here = c.self.inside.whole in
    c.len.ensures.len ∙ sym (count_is here.shape here.store.faces here.store.tables.items here.store.scratch.room c.args.self.now c.self.view_is c.self.invariant)

pub returns-clause-sound : goal.returns-clause-sound
returns-clause-sound c =
    let here = c.self.inside.whole in
    is_sound here.shape here.store.faces here.store.tables.items here.store.scratch.room c.args.self.now c.self.view_is c.self.invariant (omega (arith, c.len.ensures.len, c.len.ensures.few))
