use Rattle.knitout_reader.proofs.Digits.{digits-more}
use Rattle.knitout_reader.proofs.number.value_of.Goals as goal

pub loop-digit-preserved : goal.loop-digit-preserved
loop-digit-preserved c =
    digits-more _ _ _ _ _ _ c.loop-digit-test.true c.loop-digit.invariant c.if-not-is_ascii_digit.ensures.cases c.from.ensures c.min-value.ensures
