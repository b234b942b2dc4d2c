use Rattle.std.proofs.Common.{◌≡◌, ◌+◌, ◌<◌, ◌∙◌, Err, ap, arith, length}
use Rattle.std.proofs.lemmas.Grind.{common_steps}
use Rattle.knit_ports.specs.declared.limit.TheConstants.{INPUT_LIMIT}
use Rattle.check_main.proofs.Calls.{called-refusal}
use Rattle.check_main.specs.Top.{broke, large}
use Rattle.check_main.proofs.top.read_whole.Goals as goal

pub returns-in-Err-Failed-clause-ok : goal.returns-in-Err-Failed-clause-ok
returns-in-Err-Failed-clause-ok g c = λ command chosen reads words ask.
    let failed = c.in-Err-Failed.is ∙ ap Err c.in-Err-Failed.field-0-is in
    called-refusal words _ c.in_ok-answer-in-Err-Failed.answer _ _ (broke command chosen ask reads (c.read_input.ensures.failed failed) (c.read_input.ensures.gave failed)) c.in_ok-answer-in-Err-Failed.ensures

pub returns-then-len-gt-INPUT_LIMIT-clause-ok : goal.returns-then-len-gt-INPUT_LIMIT-clause-ok
returns-then-len-gt-INPUT_LIMIT-clause-ok g c = λ command chosen reads words ask.
    let over : INPUT_LIMIT < length c.in-Ok.input.items = grind (arith, common_steps) in
    let past : length c.in-Ok.input.items ≡ INPUT_LIMIT + 1 = omega (arith, over, c.in-Ok.ensures.within) in
    called-refusal words _ c.in_ok-answer.answer _ _ (large command chosen c.in-Ok.input.items ask reads c.in-Ok.ensures.bytes past) c.in_ok-answer.ensures
