use Rattle.std.proofs.Common.{◌≡◌, drop}
use Rattle.std.specs.Map.{lookup}
use Rattle.knit_base.specs.Needle.{same_needle}
use Rattle.loop_history.proofs.resolving.lines_on.Given as goal

abbrev pub invariant-loop-entry : goal.invariant-loop-entry
invariant-loop-entry l = lookup (same_needle l.n) (drop l.entry-index l.pairs) ≡ lookup (same_needle l.n) l.pairs
