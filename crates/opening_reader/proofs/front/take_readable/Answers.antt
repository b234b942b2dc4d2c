use Rattle.std.proofs.Common.{refl}
use Rattle.opening_reader.proofs.TakenLines.{front_counts_line}
use Rattle.opening_reader.proofs.front.take_readable.Goals as goal

pub returns-in-None : goal.returns-in-None
returns-in-None c = λ lines holds good.
    c.take_first.ensures c.args.front lines c.args.text.now holds c.in-None.is (front_counts_line c.args.front _ lines c.args.text.now c.args.line.now holds refl refl c.if-bytes-gt-OPENING_LIMIT.false good)

pub returns-in-Some : goal.returns-in-Some
returns-in-Some c = λ lines holds good.
    c.take_other.ensures c.args.front lines holds c.in-Some.is c.in-Some.is (front_counts_line c.args.front _ lines c.args.text.now c.args.line.now holds refl refl c.if-bytes-gt-OPENING_LIMIT.false good)
