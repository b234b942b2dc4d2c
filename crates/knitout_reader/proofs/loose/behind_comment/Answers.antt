use Rattle.std.proofs.Common.{arith}
use Rattle.knitout_reader.proofs.LooseLines.{comment-goes, stays-more}
use Rattle.knitout_reader.proofs.loose.behind_comment.Goals as goal

pub returns-then-byte-eq10-clause-line : goal.returns-then-byte-eq10-clause-line
returns-then-byte-eq10-clause-line c = comment-goes c.args.text.now c.loop-at.at c.loop-at-test.true c.loop-at.invariant c.if-byte-eq10.true

pub loop-at-preserved : goal.loop-at-preserved
loop-at-preserved c = stays-more c.args.text.now c.loop-at.at c.loop-at-test.true c.loop-at.invariant (omega arith) c.if-byte-eq10.false c.if-byte-eq13.false
