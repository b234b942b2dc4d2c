use Rattle.std.proofs.lemmas.Bool.{false≢true}
use Rattle.knitout_reader.proofs.Decimals.{bad-front, bad-behind}
use Rattle.knitout_reader.proofs.rack.unsigned.Goals as goal

pub returns-then-not-are_digits : goal.returns-then-not-are_digits
returns-then-not-are_digits c = bad-behind _ _ _ c.in-Some.ensures.0 c.in-Some.ensures.1 (λ all. false≢true (c.if-not-are_digits.ensures.1 all))

pub returns-in_default-value_of : goal.returns-in_default-value_of
returns-in_default-value_of c = bad-front _ _ _ c.in-Some.ensures.0 c.in-Some.ensures.1 c.in_default-value_of.ensures
