use Rattle.std.proofs.Common.{◌-◌, length}
use Rattle.line_cutter.specs.Cut.{AreCutTo}
use Rattle.line_cutter.proofs.cutter.cut_spans.Given as goal

abbrev pub invariant-cutting : goal.invariant-cutting
invariant-cutting l = AreCutTo l.text l.spans.items l.next

abbrev pub decreases-cutting : goal.decreases-cutting
decreases-cutting l = length l.text - l.next
