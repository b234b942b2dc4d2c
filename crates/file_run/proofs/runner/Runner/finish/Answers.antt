use Rattle.std.proofs.Common.{ap, sym, subst, ◌∙◌}
use Rattle.std.proofs.lemmas.Result.{IfOk-weaker}
use Rattle.file_run.specs.declared.body_run.BodyRun.{BodyRun}
use Rattle.file_run.specs.Runs.{HasRunBody, IsRun}
use Rattle.file_run.proofs.BodySteps.{same-body}
use Rattle.file_run.proofs.runner.Runner.finish.Goals as goal

pub returns : goal.returns
returns g c =
    IfOk-weaker c.finish.result _ _
    (λ run told start head lines is ran.
    let same = same-body _ ran.body c.in-Some.body (sym ran.begun ∙ c.in-Some.is) ∙ sym c.in-Some.body-is in
    let profile = ap (λ (b : BodyRun _). b.profile) (sym same) ∙ ran.same_profile in
    subst (λ p. IsRun _ g.T.Taker.has start.with_loops p head.declared lines run) profile
    (told start.with_loops head lines is (subst (HasRunBody _ g.T.Taker.has start.with_loops head lines) same ran.ran)))
    c.finish.ensures
