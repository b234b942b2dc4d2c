use Rattle.std.proofs.Common.{ℕ, ◌<◌, length}
use Rattle.pass_grouping.specs.Groupings.{IsPass}
use Rattle.pass_grouping.proofs.Groupings.{part_at}
use Rattle.pass_grouping.proofs.certificate.is_grouping.Given as goal

abbrev pub invariant-loop-k : goal.invariant-loop-k
invariant-loop-k l = (j : ℕ) → j < l.k → IsPass l.ops (part_at l.starts (length l.ops) j)
