use Rattle.std.proofs.Common.{sym, ◌∙◌, ap}
use Rattle.tree_shape.specs.Numbers.{last_or, taken_from}
use Rattle.tree_shape.proofs.NumberCounts.{last_of_append, taken_append}
use Rattle.tree_shape.proofs.numbers.Numbers.draw.Goals as goal

pub returns-in-Some-clause-number : goal.returns-in-Some-clause-number
returns-in-Some-clause-number c = sym (ap (last_or c.args.self.now.drawn) c.in-Some.ensures.items ∙ last_of_append c.args.self.now.drawn c.in-Some.number c.pop.new.self.items)

pub returns-in-Some-clause-numbers : goal.returns-in-Some-clause-numbers
returns-in-Some-clause-numbers c = sym (ap (λ v. taken_from v c.args.self.now.drawn) c.in-Some.ensures.items ∙ taken_append c.in-Some.number c.args.self.now.drawn c.pop.new.self.items)
