use Rattle.std.proofs.Common.{arith}
use Rattle.line_cutter.proofs.Pieces.{nothing_dropped, return_dropped}
use Rattle.line_cutter.proofs.line.line_len.Goals as goal
use Rattle.line_cutter.proofs.line.line_len.Goals.{else-len-gt0-via-then-len-gt0+else-piece-len-eq13, else-len-gt0-via-else-len-gt0}

pub returns-then-piece-len-eq13-clause-line : goal.returns-then-piece-len-eq13-clause-line
returns-then-piece-len-eq13-clause-line c = return_dropped c.args.piece.now (omega (arith, c.if-len-gt0.true)) c.if-piece-len-eq13.true

pub returns-else-len-gt0-clause-line : goal.returns-else-len-gt0-clause-line
returns-else-len-gt0-clause-line c =
    nothing_dropped c.args.piece.now
    (λ some. elim c.else-len-gt0.branch [
      | else-len-gt0-via-then-len-gt0+else-piece-len-eq13 w ↦ w.if-piece-len-eq13.false
      | else-len-gt0-via-else-len-gt0 w ↦ absurd (omega (arith, w.if-len-gt0.false))
    ])
