use Rattle.std.proofs.Common.{arith}
use Rattle.span_pool.proofs.Classes.{class_above}
use Rattle.span_pool.proofs.class.class_of.Goals as goal

pub returns : goal.returns
returns c = class_above _ _ c.ilog2.ensures.power_le c.ilog2.ensures.next_power_gt (omega arith)
