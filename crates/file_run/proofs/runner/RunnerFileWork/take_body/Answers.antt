use Rattle.std.proofs.Common.{◌≡◌, ap, refl, sym, subst, ◌∙◌}
use Rattle.file_run.specs.declared.body_run.BodyRun.{BodyRun}
use Rattle.file_run.specs.Runs.{HasRunBody}
use Rattle.file_run.proofs.BodySteps.{on_ok-both, same-body}
use Rattle.file_run.proofs.runner.RunnerFileWork.take_body.Goals as goal

pub returns-clause-ok : goal.returns-clause-ok
returns-clause-ok g c =
    on_ok-both c.take_lines.result c.take_lines.ensures.ok c.take_lines.ensures.profile
    (λ took profile start lines len ran.
    let same : ran.body ≡ c.in-Some.body = same-body _ ran.body c.in-Some.body (sym ran.begun ∙ c.in-Some.is) in
    record {
      same_way = ran.same_way;
      body = c.take_lines.new.self;
      begun = refl;
      same_profile = profile ∙ ap (λ (b : BodyRun _). b.profile) (sym same) ∙ ran.same_profile;
      ran = took start.with_loops lines len (subst (HasRunBody _ g.T.Taker.has start.with_loops c.args.head.now lines) same ran.ran);
    })
