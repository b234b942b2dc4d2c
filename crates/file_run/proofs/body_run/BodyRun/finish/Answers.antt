use Rattle.std.proofs.Common.{◌+◌}
use Rattle.file_run.proofs.BodySteps.{comes-to}
use Rattle.file_run.proofs.body_run.BodyRun.finish.Goals as goal

pub returns : goal.returns
returns g c with_loops head lines is here =
    comes-to _ g.T.Taker.has with_loops head lines c.args.self c.in_ok-verdict.verdict c.in_ok-verdict.loops is here
    (c.in_ok-verdict.ensures c.args.self.profile with_loops (head.lines + 1) here.readings here.ran)
