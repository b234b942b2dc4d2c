use Rattle.summary_compose.proofs.Steps.{knows_near}
use Rattle.summary_compose.proofs.asking.ask_near.Goals as goal

pub returns-then-not-has-clause-knows : goal.returns-then-not-has-clause-knows
returns-then-not-has-clause-knows c = λ digest notes knows goes.
    knows_near digest notes c.args.kept.now.checks _ c.args.fault c.args.c _ c.args.float c.keep_plain.ensures.checks knows
