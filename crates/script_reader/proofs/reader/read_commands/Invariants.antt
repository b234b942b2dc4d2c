use Rattle.std.proofs.Common.{◌-◌, length}
use Rattle.script_reader.specs.Reading.{commands_parts}
use Rattle.script_reader.proofs.Parts.{PartsSoFar}
use Rattle.script_reader.proofs.reader.read_commands.Given as goal

abbrev pub invariant-loop-at : goal.invariant-loop-at
invariant-loop-at l = PartsSoFar commands_parts l.lines l.start l.at l.commands 0 l.adds

abbrev pub decreases-loop-at : goal.decreases-loop-at
decreases-loop-at l = length l.lines - l.at
