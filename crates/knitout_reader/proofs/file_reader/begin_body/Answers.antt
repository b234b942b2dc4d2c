use Rattle.std.proofs.Common.{◌≡◌, length, arith}
use Rattle.knitout_reader.proofs.FilesByLines.{body_begun, fault_by_next, head_counted}
use Rattle.knitout_reader.proofs.file_reader.begin_body.Goals as goal

pub begin-requires-clause-few : goal.begin-requires-clause-few
begin-requires-clause-few g c =
    let reading = c.requires.reading in
    omega (arith, head_counted reading.1 c.args.reader c.in-Ok.head reading.2.read c.in-Ok.ensures.head, reading.2.read.counted, c.requires.few)

pub begin-requires-clause-seen : goal.begin-requires-clause-seen
begin-requires-clause-seen g c =
    let reading = c.requires.reading in
    (reading.0, reading.1, head_counted reading.1 c.args.reader c.in-Ok.head reading.2.read c.in-Ok.ensures.head, reading.2.seen)

pub returns-in_ok-begin-in-Ok : goal.returns-in_ok-begin-in-Ok
returns-in_ok-begin-in-Ok g c =
    λ start lines next here begin. body_begun _ g.W.FileWork.saw g.W.FileWork.took lines next start c.args.work.now c.begin.new.self c.args.reader c.in-Ok.head here begin c.in-Ok.ensures.head c.in_ok-begin-in-Ok.ensures

pub returns-in-Err : goal.returns-in-Err
returns-in-Err g c = λ start lines next here begin. fault_by_next lines next c.args.reader c.in-Err.fault here.read begin c.in-Err.ensures.fault (c.in-Err.ensures.named lines here.read)
