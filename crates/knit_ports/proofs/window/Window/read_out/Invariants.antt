use Rattle.std.proofs.Common.{◌≡◌, ◌+◌, ◌-◌, length}
use Rattle.knit_ports.specs.declared.limit.TheConstants.{INPUT_LIMIT}
use Rattle.knit_ports.proofs.FileWindows.{ReadOutSoFar}
use Rattle.knit_ports.proofs.window.Window.read_out.Given as goal

abbrev pub invariant-passing : goal.invariant-passing
invariant-passing g l = ReadOutSoFar (g.S.Source.left l.fn.source) (g.S.Source.left l.source) (g.S.Source.faults l.fn.source) (g.S.Source.faults l.source) l.fn.self.count l.self-inside.count (length l.self-inside.bytes.items) × (l.self-inside.end ≡ 0)

abbrev pub decreases-passing : goal.decreases-passing
decreases-passing g l = INPUT_LIMIT + 1 - l.self-inside.count
