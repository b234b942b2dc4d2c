use Rattle.tree_shape.proofs.Roots.{stands_longer}
use Rattle.tree_shape.specs.Tree.{NodesStand}
use Rattle.std.proofs.Common.{sym, subst}
use Rattle.tree_shape.proofs.shape.add_row.Goals as goal

pub returns-then-number-as_slice-clause-stands : goal.returns-then-number-as_slice-clause-stands
returns-then-number-as_slice-clause-stands c = λ t s. subst (λ v. NodesStand v t) (sym c.push_reserved.ensures.items) (stands_longer _ _ t s)
