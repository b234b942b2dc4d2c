use Rattle.std.proofs.Common.{lit<}
use Rattle.knitout_reader.specs.declared.number.TheConstants.{FAR}
use Rattle.knitout_reader.proofs.LooseLines.{minus-number, plain-number, plus-number}
use Rattle.knitout_reader.proofs.loose.loose_number.Goals as goal

pub returns-in-Some-clause-number : goal.returns-in-Some-clause-number
returns-in-Some-clause-number c = plus-number FAR c.args.text.now _ _ _ (lit< tt) c.in-Some.ensures c.in_ok-number.ensures.digits

pub returns-in-Some-after-clause-number : goal.returns-in-Some-after-clause-number
returns-in-Some-after-clause-number c = minus-number FAR c.args.text.now _ _ _ (lit< tt) c.in-Some-after.ensures c.in_ok-number-2.ensures.digits

pub returns-clause-number : goal.returns-clause-number
returns-clause-number c = plain-number FAR c.args.text.now _ _ (lit< tt) c.in_ok-number-3.ensures.digits
