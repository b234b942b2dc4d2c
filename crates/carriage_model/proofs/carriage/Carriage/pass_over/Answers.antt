use Rattle.std.proofs.Common.{◌+◌, sym}
use Rattle.carriage_model.proofs.CarriageRuns.{run-passed}
use Rattle.carriage_model.proofs.carriage.Carriage.pass_over.Goals as goal

pub returns : goal.returns
returns c profile with_loops first reads more many here =
    run-passed profile with_loops first reads more c.args.self.now _ here (λ i. record c.args.self.now { lines = c.args.self.now.lines + sym many i }) c.requires.stopped
