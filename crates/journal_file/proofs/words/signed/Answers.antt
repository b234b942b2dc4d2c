use Rattle.journal_file.proofs.Signed.{zero_none}
use Rattle.journal_file.proofs.words.signed.Goals as goal

pub returns-then-size-eq0 : goal.returns-then-size-eq0
returns-then-size-eq0 c = zero_none c.args.text.now c.in-Some.rest.now c.in-Some.size c.in-Some.ensures c.if-size-eq0.true
