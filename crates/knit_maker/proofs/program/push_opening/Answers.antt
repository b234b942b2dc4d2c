use Rattle.std.proofs.Common.{codes}
use Rattle.std.proofs.lemmas.Result.{on_ok_weaker}
use Rattle.knit_maker.proofs.MadeLines.{three-pushed}
use Rattle.knit_maker.proofs.program.push_opening.Goals as goal

pub returns : goal.returns
returns c =
    on_ok_weaker c.push-3.result
    (λ third.
    three-pushed c.args.lines.now c.push.new.self c.push-2.new.self c.push-3.new.self (codes ";!knitout-2") (codes ";;Carriers: 1 2 3") (codes "in 1") c.in_ok-push.ensures.ok c.in_ok-push-2.ensures.ok third)
    c.push-3.ensures.ok
