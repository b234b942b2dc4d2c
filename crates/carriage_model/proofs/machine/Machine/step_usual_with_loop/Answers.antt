use Rattle.carriage_model.proofs.CarriageRuns.{on_err-anyhow}
use Rattle.carriage_model.proofs.FactLists.{taken-off}
use Rattle.carriage_model.proofs.MachineSteps.{state_of, state_of-represented}
use Rattle.carriage_model.proofs.machine.Machine.step_usual_with_loop.Goals as goal

pub returns-then-is_err-clause-err_loops : goal.returns-then-is_err-clause-err_loops
returns-then-is_err-clause-err_loops c =
    on_err-anyhow c.step_noting-stepped.result
    (taken-off c.args.loops.now _ _ _ _ c.len-made.ensures (c.in_ok-push_usual.ensures.ok (state_of c.args.self.now) (state_of-represented c.args.self.now)) c.truncate.ensures)
