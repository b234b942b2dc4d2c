use Rattle.check_workers.proofs.prepare.+fn-prepare_lots-join+arg2+fn-prepare_lots-join+arg3+prepare_lots.Given as goal

abbrev pub decreases-join+arg2 : goal.decreases-join+arg2
decreases-join+arg2 g l = l.half

abbrev pub decreases-join+arg3 : goal.decreases-join+arg3
decreases-join+arg3 g l = l.half

abbrev pub decreases-prepare_lots : goal.decreases-prepare_lots
decreases-prepare_lots g l = l.lots
