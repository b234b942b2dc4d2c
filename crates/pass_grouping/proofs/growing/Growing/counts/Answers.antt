use Rattle.std.proofs.Common.{◌+◌, ap, refl, ◌∙◌, arith}
use Rattle.pass_grouping.proofs.GrowingPasses.{counted-none, counted-some, some-few}
use Rattle.pass_grouping.proofs.growing.Growing.counts.Goals as goal

pub returns-in-Some : goal.returns-in-Some
returns-in-Some c = λ ops is.
    counted-some ops c.in-Some.field-0 c.args.self.now _ is c.in-Some.is refl c.len-windows.ensures
    (c.one_more.ensures (omega (arith, c.len-windows.ensures, some-few ops c.in-Some.field-0 c.args.self.now is c.in-Some.is)) ∙ ap (λ n. n + 1) c.len-windows.ensures)

pub returns-in-None : goal.returns-in-None
returns-in-None c = λ ops is. counted-none ops c.args.self.now _ is c.in-None.is refl c.len-windows.ensures c.len-windows.ensures
