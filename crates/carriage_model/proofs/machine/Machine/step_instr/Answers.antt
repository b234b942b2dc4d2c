use Rattle.std.proofs.Common.{refl}
use Rattle.std.proofs.lemmas.Result.{on_ok_weaker}
use Rattle.carriage_model.proofs.MachineSteps.{transfer-step}
use Rattle.carriage_model.proofs.machine.Machine.step_instr.Goals as goal

pub returns-in-Xfer-clause-ok : goal.returns-in-Xfer-clause-ok
returns-in-Xfer-clause-ok c =
    on_ok_weaker c.transfer.result (λ holds. transfer-step c.args.self.now _ _ _ _ _ c.in-Xfer.is (record { rack = refl; ins = refl; hook = refl; floats = refl; lasts = refl }) holds) c.transfer.ensures.ok
