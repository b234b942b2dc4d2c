use Rattle.std.proofs.Common.{refl, arith}
use Rattle.std.proofs.lemmas.Result.{err_from_is_err_and}
use Rattle.line_cutter.proofs.CutLines.{bad_line, first_line, good_line}
use Rattle.line_cutter.proofs.line.next_line.Goals as goal

pub returns-clause-ok : goal.returns-clause-ok
returns-clause-ok c =
    good_line _ _ _ _ (omega arith)
    (first_line c.args.text.now _ _ _ c.args.start c.piece_len.result c.line_len.result c.requires.some refl c.piece_len.ensures.first c.piece_len.ensures.within refl
    c.line_len.ensures.within c.line_len.ensures.line refl)
    c.in_ok-check_line.ensures.ok

pub returns-in_err-check_line-clause-err : goal.returns-in_err-check_line-clause-err
returns-in_err-check_line-clause-err c =
    let p = err_from_is_err_and c.from_residual.result c.from_residual.ensures.1 in
    rw (p.1, p.2)
    (bad_line _ _ _ _ _ _
    (first_line c.args.text.now _ _ _ c.args.start c.piece_len.result c.line_len.result c.requires.some refl c.piece_len.ensures.first c.piece_len.ensures.within refl
    c.line_len.ensures.within c.line_len.ensures.line refl)
    c.in_err-check_line.ensures.err)
