use Rattle.std.proofs.Common.{arith, sym, []}
use Rattle.span_pool.proofs.Shelves.{spare_past, out_past}
use Rattle.span_pool.proofs.pool.Pool.new.Goals as goal

pub returns-clause-none_spare : goal.returns-clause-none_spare
returns-clause-none_spare g c = λ class. spare_past [] c.new.result.items class (sym c.new.ensures.items) (omega arith)

pub returns-clause-none_out : goal.returns-clause-none_out
returns-clause-none_out g c = λ class. out_past [] c.new.result.items class (sym c.new.ensures.items) (omega arith)
