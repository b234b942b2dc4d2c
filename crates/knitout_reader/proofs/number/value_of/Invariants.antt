use Rattle.std.proofs.Common.{◌≡◌, min, take, All}
use Rattle.knitout_reader.specs.declared.number.TheConstants.{FAR}
use Rattle.knitout_reader.specs.Numbers.{IsDigit, value_of_digits}
use Rattle.knitout_reader.proofs.number.value_of.Given as goal

abbrev pub invariant-loop-digit : goal.invariant-loop-digit
invariant-loop-digit l = (l.value ≡ min (value_of_digits (take l.digit-index l.digits)) FAR) × All IsDigit (take l.digit-index l.digits)
