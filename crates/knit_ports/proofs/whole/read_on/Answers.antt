use Rattle.std.proofs.Common.{rules, arith, ◌≡◌, ◌+◌, ◌∙◌, ap, length, length-append}
use Rattle.std.proofs.KnownBytes.{Consumes-kept}
use Rattle.std.proofs.lemmas.Grind.{common_steps}
use Rattle.knit_ports.proofs.Progress.{gave-more}
use Rattle.knit_ports.proofs.whole.read_on.Goals as goal

pub returns-in_err-given-clause-gave : goal.returns-in_err-given-clause-gave
returns-in_err-given-clause-gave g c = λ failed.
    let more = c.reading.invariant.more in
    let count : length c.reading.bytes.items ≡ length c.args.bytes.now.items + length more.0 = ap length more.2 ∙ length-append c.args.bytes.now.items more.0 in
    (more.0, grind (arith, common_steps, count), Consumes-kept _ _ _ more.0 more.1 (c.in_err-given.ensures.kept (search rules)))

pub returns-in_err-given-clause-lost : goal.returns-in_err-given-clause-lost
returns-in_err-given-clause-lost g c = λ short.
    let more = c.reading.invariant.more in
    let count : length c.reading.bytes.items ≡ length c.args.bytes.now.items + length more.0 = ap length more.2 ∙ length-append c.args.bytes.now.items more.0 in
    gave-more _ _ _ more.0 _ _ more.1 (c.in_err-given.ensures.lost (search rules)) (grind (arith, common_steps, count))
