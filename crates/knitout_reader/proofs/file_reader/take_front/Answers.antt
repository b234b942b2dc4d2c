use Rattle.std.proofs.Common.{refl}
use Rattle.std.proofs.lemmas.Result.{err_from_is_err_and}
use Rattle.line_cutter.proofs.PlacesBehind.{refused-behind}
use Rattle.knitout_reader.proofs.FilesByLines.{front_more}
use Rattle.knitout_reader.proofs.file_reader.take_front.Goals as goal

pub returns-in_err-line-clause-err : goal.returns-in_err-line-clause-err
returns-in_err-line-clause-err g c =
    let p = err_from_is_err_and c.from_residual.result c.from_residual.ensures.1 in
    rw (p.1, p.2) (refused-behind _ _ _ _ _ _ c.reading.invariant.behind c.in_err-line.ensures.err refl)

pub reading-preserved : goal.reading-preserved
reading-preserved g c =
    front_more _ g.W.FileWork.saw g.W.FileWork.took c.args.text.now c.in_ok-line.line.now c.reading.count c.reading.start c.in_ok-line.next c.args.reader.now c.reading.reader c.take.new.self c.args.work.now c.reading.work c.see.new.self
    c.reading-test.true c.reading.invariant c.in_ok-line.ensures.ok (c.in_ok-take.ensures.taken c.if-not-branch.false) c.in_ok-see.ensures
