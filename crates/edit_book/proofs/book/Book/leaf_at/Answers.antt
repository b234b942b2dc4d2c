use Rattle.std.proofs.Common.{Option, subst}
use Rattle.edit_book.specs.HeaderTrees.{FitsBlock}
use Rattle.summary_tree.specs.Leaves.{Leaf}
use Rattle.edit_book.proofs.book.Book.leaf_at.Goals as goal

pub returns-in-Some-clause-leaf : goal.returns-in-Some-clause-leaf
returns-in-Some-clause-leaf g c = λ b there. subst (λ (taken : Option Leaf). FitsBlock c.args.setting.now taken b) c.in-Some.is (c.requires.taken b there)
