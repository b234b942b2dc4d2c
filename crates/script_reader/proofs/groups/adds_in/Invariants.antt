use Rattle.std.proofs.Common.{◌≡◌, ◌≤◌, take}
use Rattle.script_reader.specs.Script.{adds_in}
use Rattle.script_reader.proofs.groups.adds_in.Given as goal

abbrev pub invariant-loop-command : goal.invariant-loop-command
invariant-loop-command l = record { counted : l.adds ≡ adds_in (take l.command-index l.commands); few : l.adds ≤ l.command-index }
