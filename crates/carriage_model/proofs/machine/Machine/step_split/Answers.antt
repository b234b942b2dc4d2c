use Rattle.std.proofs.Common.{◌<◌, length, refl, arith}
use Rattle.std.proofs.lemmas.Result.{on_ok_weaker}
use Rattle.carriage_model.proofs.MachineSteps.{split-step}
use Rattle.carriage_model.proofs.machine.Machine.step_split.Goals as goal

pub returns-clause-ok : goal.returns-clause-ok
returns-clause-ok c =
    let some : 0 < length c.args.yarns.now = omega (arith, c.len.ensures, c.if-len-eq0.false) in
    on_ok_weaker c.split.result (λ split. split-step c.args.self.now _ _ _ _ _ some (record { rack = refl; ins = refl; hook = refl; floats = refl; lasts = refl }) split) c.split.ensures.ok
