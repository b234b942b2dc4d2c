use Rattle.std.proofs.Common.{take, false}
use Rattle.carriage_model.specs.Carriage.{HasRun}
use Rattle.carriage_model.proofs.run.run_plain.Given as goal

abbrev pub invariant-running : goal.invariant-running
invariant-running l = HasRun l.profile false l.first (take l.read-index l.read-items) l.carriage
