use Rattle.std.proofs.Common.{refl}
use Rattle.pass_grouping.proofs.GrowingPasses.{told-none, told-some}
use Rattle.pass_grouping.proofs.growing.Growing.finish.Goals as goal

pub returns-in_default : goal.returns-in_default
returns-in_default c = λ ops is. told-none ops c.args.self _ is c.in_default.is refl refl

pub returns : goal.returns
returns c = λ ops is. told-some ops c.in-Some.last c.args.self _ c.in_ok-fact.fact is c.in-Some.is c.in_ok-fact.ensures c.in_ok-facts.ensures refl
