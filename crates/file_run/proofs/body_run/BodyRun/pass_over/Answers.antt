use Rattle.std.proofs.Common.{refl, sym}
use Rattle.file_run.proofs.BodySteps.{passes-over}
use Rattle.file_run.proofs.body_run.BodyRun.pass_over.Goals as goal

pub returns-clause-ok : goal.returns-clause-ok
returns-clause-ok g c =
    passes-over _ g.T.Taker.has _ c.in_ok-count.count c.args.self.now _ (sym c.in_ok-count.ensures.ok.counted) c.requires.stopped c.requires.idle refl refl refl refl c.pass_over.ensures
