use Rattle.std.proofs.Common.{◌≡◌, length, arith}
use Rattle.std.proofs.lemmas.Result.{err_from_is_err_and}
use Rattle.knitout_reader.proofs.FilesByLines.{ended_at_fault, ended_in_body, ended_in_head, ended_refused, head_counted, in_head}
use Rattle.knitout_reader.specs.FileLines.{ReadsHead}
use Rattle.knitout_reader.proofs.file_reader.FileReader.finish.Goals as goal

pub returns-in_err-head-in-InHead-clause-fault : goal.returns-in_err-head-in-InHead-clause-fault
returns-in_err-head-in-InHead-clause-fault g c =
    let p = err_from_is_err_and c.from_residual.result c.from_residual.ensures.1 in
    rw (p.1, p.2)
    (λ start lines read. ended_at_fault _ g.W.FileWork.saw g.W.FileWork.took lines start c.args.self c.in-InHead.reader c.in_err-head-in-InHead.field-0.0 read c.in-InHead.is c.in_err-head-in-InHead.ensures.fault)

pub begin-requires-clause-few : goal.begin-requires-clause-few
begin-requires-clause-few g c =
    let reading = c.requires.reading in
    let here = in_head _ g.W.FileWork.saw g.W.FileWork.took reading.1 reading.0 c.args.self c.in-InHead.reader reading.2 c.in-InHead.is in
    omega (arith, head_counted reading.1 c.in-InHead.reader c.in_ok-head-in-InHead.head here.read c.in_ok-head-in-InHead.ensures.head, reading.2.counted, c.requires.few)

pub begin-requires-clause-seen : goal.begin-requires-clause-seen
begin-requires-clause-seen g c =
    let reading = c.requires.reading in
    let here = in_head _ g.W.FileWork.saw g.W.FileWork.took reading.1 reading.0 c.args.self c.in-InHead.reader reading.2 c.in-InHead.is in
    (reading.0.work, reading.1, head_counted reading.1 c.in-InHead.reader c.in_ok-head-in-InHead.head here.read c.in_ok-head-in-InHead.ensures.head, here.seen)

pub returns-in_ok-begin-in-InHead-clause-file : goal.returns-in_ok-begin-in-InHead-clause-file
returns-in_ok-begin-in-InHead-clause-file g c =
    λ start lines read.
    ended_in_head _ g.W.FileWork.saw g.W.FileWork.took lines start c.args.self c.in-InHead.reader c.in_ok-head-in-InHead.head c.begin.new.self read c.in-InHead.is c.in_ok-head-in-InHead.ensures.head c.in_ok-begin-in-InHead.ensures

pub returns-in-InBody-clause-file : goal.returns-in-InBody-clause-file
returns-in-InBody-clause-file g c = λ start lines read. ended_in_body _ g.W.FileWork.saw g.W.FileWork.took lines start c.args.self c.in-InBody.head read c.in-InBody.is

pub returns-in-Refused-clause-fault : goal.returns-in-Refused-clause-fault
returns-in-Refused-clause-fault g c = λ start lines read. ended_refused _ g.W.FileWork.saw g.W.FileWork.took lines start c.args.self c.in-Refused.fault read c.in-Refused.is
