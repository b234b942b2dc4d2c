use Rattle.std.proofs.Common.{◌-◌}
use Rattle.check_workers.proofs.wide.+fn-prepare_pieces-join+arg2+fn-prepare_pieces-join+arg3+prepare_pieces.Given as goal

abbrev pub decreases-join+arg2 : goal.decreases-join+arg2
decreases-join+arg2 g l = l.middle - l.from

abbrev pub decreases-join+arg3 : goal.decreases-join+arg3
decreases-join+arg3 g l = l.to - l.middle

abbrev pub decreases-prepare_pieces : goal.decreases-prepare_pieces
decreases-prepare_pieces g l = l.to - l.from
