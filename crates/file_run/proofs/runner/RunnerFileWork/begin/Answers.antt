use Rattle.std.proofs.Common.{ap, refl, subst, ◌∙◌}
use Rattle.file_run.specs.declared.runner.Runner.{Runner}
use Rattle.file_run.specs.Runs.{HasRunBody}
use Rattle.file_run.proofs.runner.RunnerFileWork.begin.Goals as goal

pub returns : goal.returns
returns g c = λ start lines len ready. record {
  same_way = ap (λ (r : Runner _). r.with_loops) ready.same;
  body = c.in_ok-body.body;
  begun = refl;
  same_profile = c.in_ok-body.ensures.profile ∙ ap (λ (r : Runner _). r.profile) ready.same;
  ran = subst (λ b. HasRunBody _ g.T.Taker.has b c.args.head.now lines c.in_ok-body.body) (ap (λ (r : Runner _). r.with_loops) ready.same) (c.in_ok-body.ensures.none lines len);
}
