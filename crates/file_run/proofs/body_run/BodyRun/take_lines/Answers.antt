use Rattle.std.proofs.Common.{◌≡◌, ◌+◌, ◌-◌, ◌++◌, length, take, drop, sym, subst, refl, ◌∙◌, arith, length-drop}
use Rattle.std.proofs.lemmas.List.{take_all}
use Rattle.std.proofs.lemmas.Result.{err_from_is_err_and}
use Rattle.knit_base.specs.Lines.{lines_of}
use Rattle.file_run.proofs.BodySteps.{next-number, refused-here, refused-later, stands-at, taken-all, taken-more, taken-none, taken-rest}
use Rattle.file_run.proofs.body_run.BodyRun.take_lines.Goals as goal

pub running-init : goal.running-init
running-init g c = taken-none _ g.T.Taker.has c.args.head.now c.args.text.now c.args.before c.args.self.now

pub take_behind-requires-clause-ran : goal.take_behind-requires-clause-ran
take_behind-requires-clause-ran g c =
    let here = stands-at _ g.T.Taker.has _ _ _ _ _ _ _ c.running.invariant c.requires.ran.0 c.requires.ran.1 c.requires.ran.2 c.requires.ran.3 in
    (c.requires.ran.0, c.requires.ran.1 ++ take c.running.count (lines_of c.args.text.now), here.0, here.1)

pub returns-in_err-more-clause-err : goal.returns-in_err-more-clause-err
returns-in_err-more-clause-err g c =
    let p = err_from_is_err_and c.from_residual.result c.from_residual.ensures.1 in
    rw (p.1, p.2)
    (refused-later c.args.text.now _ c.args.before c.running.count c.running.start _ c.running.invariant.behind
    (take_all (length c.args.text.now - c.running.start) (drop c.running.start c.args.text.now) (omega (arith, length-drop c.running.start c.args.text.now))) c.in_err-more.ensures.err)

pub returns-then-is_stopped-clause-good : goal.returns-then-is_stopped-clause-good
returns-then-is_stopped-clause-good g c =
    (taken-rest _ g.T.Taker.has c.args.head.now c.args.text.now _ c.args.before c.running.count c.running.start c.in_ok-more.more c.args.self.now c.running.self _ c.running-test.true
    (take_all (length c.args.text.now - c.running.start) (drop c.running.start c.args.text.now) (omega (arith, length-drop c.running.start c.args.text.now)))
    c.running.invariant c.in_ok-more.ensures.good c.in_ok-more.ensures.ok).0

pub returns-then-is_stopped-clause-ok : goal.returns-then-is_stopped-clause-ok
returns-then-is_stopped-clause-ok g c =
    (taken-rest _ g.T.Taker.has c.args.head.now c.args.text.now _ c.args.before c.running.count c.running.start c.in_ok-more.more c.args.self.now c.running.self _ c.running-test.true
    (take_all (length c.args.text.now - c.running.start) (drop c.running.start c.args.text.now) (omega (arith, length-drop c.running.start c.args.text.now)))
    c.running.invariant c.in_ok-more.ensures.good c.in_ok-more.ensures.ok).1

pub returns-then-is_stopped-clause-profile : goal.returns-then-is_stopped-clause-profile
returns-then-is_stopped-clause-profile g c = c.in_ok-more.ensures.ok.same_profile ∙ c.running.invariant.same_profile

pub take_line-requires-clause-ran : goal.take_line-requires-clause-ran
take_line-requires-clause-ran g c =
    let here = stands-at _ g.T.Taker.has _ _ _ _ _ _ _ c.running.invariant c.requires.ran.0 c.requires.ran.1 c.requires.ran.2 c.requires.ran.3 in
    (c.requires.ran.0, c.requires.ran.1 ++ take c.running.count (lines_of c.args.text.now), omega (arith, here.0), here.1)

pub returns-in_err-start-clause-err : goal.returns-in_err-start-clause-err
returns-in_err-start-clause-err g c =
    let p = err_from_is_err_and c.from_residual-in_err-start.result c.from_residual-in_err-start.ensures.1 in
    rw (p.1, p.2) (refused-here c.args.text.now c.args.before c.running.count c.running.start _ _ c.running.invariant.behind refl c.in_err-start.ensures.err)

pub running-preserved : goal.running-preserved
running-preserved g c =
    taken-more _ g.T.Taker.has c.args.head.now c.args.text.now c.args.before c.running.count c.running.start c.in_ok-start.start c.args.self.now c.running.self c.take_line.new.self c.running-test.true
    c.running.invariant c.in_ok-start.ensures.ok

pub returns-clause-good : goal.returns-clause-good
returns-clause-good g c = (taken-all _ g.T.Taker.has _ _ _ _ _ _ _ c.running-test.false c.running.invariant).0

pub returns-clause-ok : goal.returns-clause-ok
returns-clause-ok g c = (taken-all _ g.T.Taker.has _ _ _ _ _ _ _ c.running-test.false c.running.invariant).1

pub returns-clause-profile : goal.returns-clause-profile
returns-clause-profile g c = c.running.invariant.same_profile
