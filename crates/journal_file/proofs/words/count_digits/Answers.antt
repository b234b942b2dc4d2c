use Rattle.std.proofs.Common.{arith}
use Rattle.std.proofs.lemmas.List.Elements.{All-more}
use Rattle.knitout_reader.specs.Numbers.{IsDigit}
use Rattle.journal_file.proofs.words.count_digits.Goals as goal

pub loop-at-preserved : goal.loop-at-preserved
loop-at-preserved c = All-more IsDigit _ _ 0 c.loop-at-test.true c.loop-at.invariant (let h = c.if-not-is_ascii_digit.ensures in let k = h.cases in omega (arith, k))
