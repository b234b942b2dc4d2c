-- Where all conditions are alike, none is left to read.
use Rattle.summary_compose.proofs.Readings.{alike_all}
use Rattle.summary_compose.proofs.joining.gather.Goals as goal

pub returns-then-alike-b-clause-read : goal.returns-then-alike-b-clause-read
returns-then-alike-b-clause-read c =
    alike_all c.args.a.now c.args.b.now c.args.effect.now c.count_alike-alike.result.0 c.args.kept.now.checks c.count_alike-alike.ensures.alike c.if-alike-b.true c.requires.begun
