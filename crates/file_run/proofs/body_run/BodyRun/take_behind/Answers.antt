use Rattle.std.proofs.Common.{◌++◌, take, refl, arith}
use Rattle.std.proofs.lemmas.Result.{err_from_is_err_and}
use Rattle.knit_base.specs.Lines.{lines_of}
use Rattle.file_run.proofs.BodySteps.{next-number, on_ok-with, refused-here, stands-at, taken-all, taken-more, taken-none, takes-over}
use Rattle.file_run.proofs.body_run.BodyRun.take_behind.Goals as goal

pub running-init : goal.running-init
running-init g c = taken-none _ g.T.Taker.has c.args.head.now c.args.text.now c.args.before c.args.self.now

pub pass_over-requires-clause-next : goal.pass_over-requires-clause-next
pass_over-requires-clause-next g c =
    omega (arith, c.requires.ran.2, next-number _ g.T.Taker.has c.requires.ran.0 c.args.head.now c.requires.ran.1 c.args.self.now c.requires.ran.3)

pub take_any-requires-clause-ran : goal.take_any-requires-clause-ran
take_any-requires-clause-ran g c =
    let here = stands-at _ g.T.Taker.has _ _ _ _ _ _ _ c.running.invariant c.requires.ran.0 c.requires.ran.1 c.requires.ran.2 c.requires.ran.3 in
    (c.requires.ran.0, c.requires.ran.1 ++ take c.running.count (lines_of c.args.text.now), omega (arith, here.0), here.1)

pub returns-in_err-start-clause-err : goal.returns-in_err-start-clause-err
returns-in_err-start-clause-err g c =
    let p = err_from_is_err_and c.from_residual.result c.from_residual.ensures.1 in
    rw (p.1, p.2) (refused-here c.args.text.now c.args.before c.running.count c.running.start _ _ c.running.invariant.behind refl c.in_err-start.ensures.err)

pub running-preserved : goal.running-preserved
running-preserved g c =
    taken-more _ g.T.Taker.has c.args.head.now c.args.text.now c.args.before c.running.count c.running.start c.in_ok-start.start c.args.self.now c.running.self c.take_any.new.self c.running-test.true
    c.running.invariant c.in_ok-start.ensures.ok

pub returns-clause-good : goal.returns-clause-good
returns-clause-good g c = (taken-all _ g.T.Taker.has _ _ _ _ _ _ _ c.running-test.false c.running.invariant).0

pub returns-clause-ok : goal.returns-clause-ok
returns-clause-ok g c = record { ran = (taken-all _ g.T.Taker.has _ _ _ _ _ _ _ c.running-test.false c.running.invariant).1; same_profile = c.running.invariant.same_profile }

pub returns-then-takes_nothing-clause-ok : goal.returns-then-takes_nothing-clause-ok
returns-then-takes_nothing-clause-ok g c =
    on_ok-with c.pass_over.result (takes-over _ g.T.Taker.has c.args.head.now c.args.before (lines_of c.args.text.now) c.args.self.now _) c.pass_over.ensures.ok
