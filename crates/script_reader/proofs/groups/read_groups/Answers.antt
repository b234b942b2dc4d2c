use Rattle.std.proofs.lemmas.Result.{IfOk-weaker}
use Rattle.script_reader.proofs.GroupRuns.{only_groups}
use Rattle.script_reader.proofs.groups.read_groups.Goals as goal

pub returns-clause-only : goal.returns-clause-only
returns-clause-only c = IfOk-weaker c.read.result _ _ (λ script is other spelled. only_groups c.args.lines.now script other is spelled) c.read.ensures.script
