use Rattle.std.proofs.Common.{arith}
use Rattle.std.proofs.lemmas.Int.{ints}
use Rattle.journal_file.proofs.Signed.{signed_one}
use Rattle.journal_file.proofs.profile.needle.Goals as goal

pub returns-then-number-lt-LEAST_NEEDLE : goal.returns-then-number-lt-LEAST_NEEDLE
returns-then-number-lt-LEAST_NEEDLE c = λ number rest it.
    let same = signed_one c.args.text.now c.in-Some.number number c.in-Some.rest.now rest c.in-Some.ensures it.front in
    omega (arith, ints, same.0, it.least, c.if-number-lt-LEAST_NEEDLE.true)

pub returns-then-number-gt-MOST_NEEDLE : goal.returns-then-number-gt-MOST_NEEDLE
returns-then-number-gt-MOST_NEEDLE c = λ number rest it.
    let same = signed_one c.args.text.now c.in-Some.number number c.in-Some.rest.now rest c.in-Some.ensures it.front in
    omega (arith, ints, same.0, it.most, c.if-number-gt-MOST_NEEDLE.true)
