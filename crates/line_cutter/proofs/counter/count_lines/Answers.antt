use Rattle.std.proofs.Common.{refl}
use Rattle.std.proofs.lemmas.Result.{err_from_is_err_and}
use Rattle.line_cutter.proofs.PlacesBehind.{behind-between, behind-counted, refused-behind}
use Rattle.line_cutter.proofs.counter.count_lines.Goals as goal

pub counting-preserved : goal.counting-preserved
counting-preserved c = behind-between _ _ _ _ _ c.counting.invariant c.in_ok-more.ensures.ok

pub returns-in_err-more-clause-err : goal.returns-in_err-more-clause-err
returns-in_err-more-clause-err c =
    let p = err_from_is_err_and c.from_residual.result c.from_residual.ensures.1 in
    rw (p.1, p.2) (refused-behind _ _ _ _ _ _ c.counting.invariant c.in_err-more.ensures.err refl)

pub returns-clause-ok : goal.returns-clause-ok
returns-clause-ok c = behind-counted _ _ _ c.counting.invariant c.counting-test.false
