use Rattle.knitout_reader.proofs.OperandShapes.{no_needle}
use Rattle.knitout_reader.proofs.operands.next_needle.Goals as goal

pub returns-in_err-needle : goal.returns-in_err-needle
returns-in_err-needle c = rw c.from_residual-in_err-needle.ensures (no_needle _ _ _ c.in_ok-token.ensures.split c.in_err-needle.ensures)
