use Rattle.std.proofs.Common.{arith, length, sym, ◌∙◌, ap}
use Rattle.std.proofs.lemmas.List.{length-take-le}
use Rattle.tree_shape.proofs.dirty.Dirty.len.Goals as goal

pub returns-clause-len : goal.returns-clause-len
returns-clause-len c = sym (ap length (sym c.self.view_is) ∙ length-take-le _ _ (omega arith))
