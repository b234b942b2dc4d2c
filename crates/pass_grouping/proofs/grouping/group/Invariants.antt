use Rattle.std.proofs.Common.{◌-◌, ◌<◌, length}
use Rattle.pass_grouping.specs.Passes.{IsOnePass}
use Rattle.pass_grouping.specs.Growing.{Grouped}
use Rattle.pass_grouping.proofs.grouping.group.Given as goal

abbrev pub invariant-loop-behind : goal.invariant-loop-behind
invariant-loop-behind l = Grouped l.items l.starts l.windows l.start l.behind × (l.behind < length l.items → ¬ IsOnePass l.items l.start l.behind)

abbrev pub decreases-loop-behind : goal.decreases-loop-behind
decreases-loop-behind l = length l.items - l.behind
