use Rattle.std.proofs.Common.{take, All}
use Rattle.knitout_reader.specs.Numbers.{IsDigit}
use Rattle.journal_file.proofs.words.count_digits.Given as goal

abbrev pub invariant-loop-at : goal.invariant-loop-at
invariant-loop-at l = All IsDigit (take l.at l.text)
