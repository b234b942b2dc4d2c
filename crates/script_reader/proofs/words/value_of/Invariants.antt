use Rattle.std.proofs.Common.{◌≡◌, min, take}
use Rattle.knitout_reader.specs.Numbers.{value_of_digits}
use Rattle.script_reader.proofs.words.value_of.Given as goal

abbrev pub invariant-loop-digit : goal.invariant-loop-digit
invariant-loop-digit l = l.value ≡ min (value_of_digits (take l.digit-index l.digits)) 4294967296
