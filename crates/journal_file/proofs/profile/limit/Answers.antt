use Rattle.std.proofs.Common.{arith}
use Rattle.journal_file.proofs.EntryLines.{labelled_one}
use Rattle.journal_file.proofs.profile.limit.Goals as goal

pub returns-then-number-gt-MOST : goal.returns-then-number-gt-MOST
returns-then-number-gt-MOST c = λ number rest it.
    let same = labelled_one c.args.text.now _ c.in-Some.number number c.in-Some.rest.now rest c.in-Some.ensures it.front in
    omega (arith, same.0, it.few, c.if-number-gt-MOST.true)

pub returns-in-None : goal.returns-in-None
returns-in-None c = λ number rest it. c.in-None.ensures number rest it.front
