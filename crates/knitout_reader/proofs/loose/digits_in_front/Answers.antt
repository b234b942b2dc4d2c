use Rattle.knitout_reader.proofs.Digits.{digits-more}
use Rattle.knitout_reader.proofs.loose.digits_in_front.Goals as goal

pub loop-at-preserved : goal.loop-at-preserved
loop-at-preserved c =
    digits-more _ _ _ _ _ _ c.loop-at-test.true c.loop-at.invariant c.if-not-is_ascii_digit.ensures.cases c.from.ensures c.min-value.ensures
