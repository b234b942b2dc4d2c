use Rattle.std.proofs.Common.{◌+◌, [], ◌∷◌, ap, length, arith, length-append}
use Rattle.knit_maker.specs.Made.{transfer_line}
use Rattle.knit_maker.proofs.MadeLines.{mapped-next}
use Rattle.knit_maker.proofs.course.transfers_of.Goals as goal

pub loop-i-preserved : goal.loop-i-preserved
loop-i-preserved c = record {
  lines = mapped-next transfer_line c.loop-i.i [] c.loop-i.lines c.push_transfer.new.lines c.loop-i.invariant.lines c.in_ok-push_transfer.ensures;
  count = omega (arith, ap length c.in_ok-push_transfer.ensures, length-append c.loop-i.lines (transfer_line (c.loop-i.i + 1) ∷ []), c.loop-i.invariant.count);
}
