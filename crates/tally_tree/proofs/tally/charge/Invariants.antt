use Rattle.std.proofs.Common.{◌≡◌, ◌+◌, length}
use Rattle.tally_tree.proofs.tally.charge.Given as goal

abbrev pub invariant-loop-i : goal.invariant-loop-i
invariant-loop-i g l = l.steps ≡ l.fn.steps + l._i

abbrev pub invariant-loop-j : goal.invariant-loop-j
invariant-loop-j g l = l.steps ≡ l.fn.steps + length l.tally.with.items + l._j

abbrev pub invariant-loop-k : goal.invariant-loop-k
invariant-loop-k g l = l.steps ≡ l.fn.steps + length l.tally.with.items + length l.tally.needles.items + l._k
