use Rattle.std.proofs.Common.{refl}
use Rattle.knitout_reader.proofs.LooseLines.{blank-leads, blanks-line}
use Rattle.knitout_reader.proofs.loose.behind_some_blanks.Goals as goal

pub returns-in-Some-clause-line : goal.returns-in-Some-clause-line
returns-in-Some-clause-line c =
    let blanks = c.behind_blanks.ensures.blanks in
    blank-leads c.args.text.now c.in-Some.rest.now _ 32 refl c.in-Some.ensures (λ tokens rest h. blanks-line blanks.0 _ _ tokens rest blanks.1 blanks.2 h)

pub returns-clause-line : goal.returns-clause-line
returns-clause-line c =
    let blanks = c.behind_blanks-2.ensures.blanks in
    blank-leads c.args.text.now c.in_ok-rest.rest.now _ 9 refl c.in_ok-rest.ensures (λ tokens rest h. blanks-line blanks.0 _ _ tokens rest blanks.1 blanks.2 h)
