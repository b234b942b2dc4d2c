use Rattle.std.proofs.Common.{sym, ◌∙◌}
use Rattle.std.proofs.lemmas.Bool.{eqb-true}
use Rattle.tally_tree.proofs.Adding.{add_end}
use Rattle.tally_tree.proofs.tally.add_each.Goals as goal

pub returns-else-not-is_empty : goal.returns-else-not-is_empty
returns-else-not-is_empty c = add_end c.loop-a.out.items c.loop-a.a.now c.loop-a.b.now _ (eqb-true _ 0 (sym c.is_empty-in-loop-a.ensures ∙ c.if-not-is_empty.false)) c.loop-a.invariant.0
