use Rattle.std.proofs.Common.{◌-◌, length}
use Rattle.line_cutter.specs.Cut.{IsPlaceBehind}
use Rattle.line_cutter.proofs.counter.count_lines.Given as goal

abbrev pub invariant-counting : goal.invariant-counting
invariant-counting l = IsPlaceBehind l.text l.count l.start

abbrev pub decreases-counting : goal.decreases-counting
decreases-counting l = length l.text - l.start
