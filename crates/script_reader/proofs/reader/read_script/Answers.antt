use Rattle.std.proofs.lemmas.Result.{IfOk-weaker}
use Rattle.script_reader.proofs.LiveRuns.{only_script}
use Rattle.script_reader.proofs.reader.read_script.Goals as goal

pub returns-clause-only : goal.returns-clause-only
returns-clause-only c = IfOk-weaker c.read.result _ _ (λ script is other spelled. only_script c.args.lines.now script other is spelled) c.read.ensures.script
