use Rattle.std.proofs.Common.{◌+◌, ◌-◌, ◌≤◌, length}
use Rattle.script_reader.specs.Reading.{edits_parts}
use Rattle.script_reader.proofs.Parts.{PartsSoFar}
use Rattle.script_reader.proofs.groups.read_group.Given as goal

abbrev pub invariant-loop-at : goal.invariant-loop-at
invariant-loop-at l = record { read : PartsSoFar edits_parts l.lines (l.start + 1) l.at l.commands l.adds_before l.adds; few : length l.commands ≤ 64 }

abbrev pub decreases-loop-at : goal.decreases-loop-at
decreases-loop-at l = length l.lines - l.at
