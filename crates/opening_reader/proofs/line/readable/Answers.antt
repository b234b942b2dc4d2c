use Rattle.opening_reader.proofs.ReadLines.{bad-line, good-line}
use Rattle.opening_reader.proofs.line.readable.Goals as goal

pub returns-in-Ok : goal.returns-in-Ok
returns-in-Ok c = good-line c.args.limit c.args.line.now c.in-Ok.read.now c.requires.limit c.if-limit-line.false c.in-Ok.ensures.cases.0 c.in-Ok.ensures.cases.1 c.requires.line

pub returns-in-Err : goal.returns-in-Err
returns-in-Err c = bad-line c.args.limit c.args.line.now c.if-limit-line.false c.in-Err.ensures.cases.0
