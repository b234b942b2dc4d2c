use Rattle.std.proofs.Common.{length, ◌-◌}
use Rattle.knitout_writer.specs.Written.{WroteOn}
use Rattle.knitout_writer.proofs.text_writer.append_lines.Given as goal

abbrev pub invariant-writing : goal.invariant-writing
invariant-writing l = WroteOn l.profile l.declared l.text l.start l.count l.fn.out.items l.out.items

abbrev pub decreases-writing : goal.decreases-writing
decreases-writing l = length l.text - l.start
