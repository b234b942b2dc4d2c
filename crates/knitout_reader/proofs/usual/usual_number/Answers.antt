use Rattle.std.proofs.Common.{arith}
use Rattle.std.proofs.lemmas.Int.{ints}
use Rattle.knitout_reader.proofs.UsualLines.{one_digit, two_digits, three_digits}
use Rattle.knitout_reader.proofs.usual.usual_number.Goals as goal

pub returns-in-Some : goal.returns-in-Some
returns-in-Some c =
    one_digit c.args.text.now _ _ _ _ c.in-Some.ensures.0 c.in-Some.ensures.1 (omega (arith, ints, c.digit.ensures, c.in-Some.ensures.0))

pub returns-in-Some-two_digits : goal.returns-in-Some-two_digits
returns-in-Some-two_digits c =
    let found = c.in-Some-two_digits.ensures in
    two_digits c.args.text.now _ _ _ _ _ found.0 found.1 found.2
    (omega (arith, ints, c.digit-in-Some-two_digits.ensures, c.digit-in-Some-two_digits-2.ensures, found.0, found.1))

pub returns : goal.returns
returns c =
    let found = c.in_ok-a.ensures in
    three_digits c.args.text.now _ _ _ _ _ _ found.0 found.1 found.2 found.3
    (omega (arith, ints, c.digit-2.ensures, c.digit-3.ensures, c.digit-4.ensures, found.0, found.1, found.2))
