use Rattle.std.proofs.Common.{◌<◌, arith}
use Rattle.pass_grouping.proofs.Passes.{goes-told, one_pass}
use Rattle.pass_grouping.proofs.pass.is_one_pass.Goals as goal

pub returns : goal.returns
returns c =
    let some : c.args.from < c.args.to = omega (arith, c.if-to-from.false) in (
      λ passes. one_pass _ _ _ _ (c.goes_one_way.ensures.0 passes),
      λ pass. c.goes_one_way.ensures.1
          (goes-told _ _ _ _ c.index-ops-from.result c.index-ops-from-2.result some c.requires.within c.index-ops-from.is c.index-ops-from-2.is c.way_between-way.ensures pass),
    )
