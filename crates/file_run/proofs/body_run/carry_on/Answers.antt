use Rattle.std.proofs.Common.{OnOk, subst}
use Rattle.knit_base.specs.declared.instr.Read.{Read}
use Rattle.knit_base.specs.Usual.{usual_read}
use Rattle.carriage_model.specs.declared.carriage.Carriage.{Carriage}
use Rattle.carriage_model.specs.Carriage.{RanOn}
use Rattle.file_run.proofs.body_run.carry_on.Goals as goal

pub returns : goal.returns
returns c =
    subst (λ (old : Carriage). OnOk c.execute.result (RanOn (usual_read c.args.usual) old c.execute.new.self)) (c.in_ok-carry_with_loop.ensures.same c.if-branch.false)
    (subst (λ (r : Read). OnOk c.execute.result (RanOn r c.carry_with_loop.new.self c.execute.new.self)) c.usual_reading-read.ensures c.execute.ensures.ok)
