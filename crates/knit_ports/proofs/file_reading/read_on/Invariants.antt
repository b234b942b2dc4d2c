use Rattle.std.proofs.Common.{◌+◌, ◌-◌, ◌≤◌}
use Rattle.knit_ports.specs.declared.limit.TheConstants.{INPUT_LIMIT}
use Rattle.knit_ports.proofs.FileReadings.{ReadingSoFar}
use Rattle.knit_ports.proofs.file_reading.read_on.Given as goal

abbrev pub invariant-reading : goal.invariant-reading
invariant-reading g l =
    ReadingSoFar _ g.T.LineTaker.took l.fn.taker l.taker (g.S.Source.left l.fn.source) (g.S.Source.left l.source) (g.S.Source.faults l.fn.source) (g.S.Source.faults l.source) l.window.held l.window.count
    × (l.window.count ≤ INPUT_LIMIT)

abbrev pub decreases-reading : goal.decreases-reading
decreases-reading g l = INPUT_LIMIT + 1 - l.window.count
