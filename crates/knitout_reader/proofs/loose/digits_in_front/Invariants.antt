use Rattle.std.proofs.Common.{◌≡◌, min, take, All}
use Rattle.knitout_reader.specs.declared.number.TheConstants.{FAR}
use Rattle.knitout_reader.specs.Numbers.{IsDigit, value_of_digits}
use Rattle.knitout_reader.proofs.loose.digits_in_front.Given as goal

abbrev pub invariant-loop-at : goal.invariant-loop-at
invariant-loop-at l = (l.value ≡ min (value_of_digits (take l.at l.text)) FAR) × All IsDigit (take l.at l.text)
