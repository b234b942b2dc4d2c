use Rattle.std.proofs.Common.{arith}
use Rattle.pass_grouping.proofs.Passes.{goes-told, one_pass}
use Rattle.pass_grouping.proofs.pass.pass_end.Goals as goal

pub returns-clause-pass : goal.returns-clause-pass
returns-clause-pass c = one_pass _ _ _ _ c.run_end.ensures.pass

pub returns-clause-longest : goal.returns-clause-longest
returns-clause-longest c = λ inside pass.
    c.run_end.ensures.longest _ (omega arith) inside
    (goes-told _ _ _ _ c.index-ops-from.result c.index-ops-from-2.result c.run_end.ensures.some inside c.index-ops-from.is c.index-ops-from-2.is c.way_between-way.ensures pass)
