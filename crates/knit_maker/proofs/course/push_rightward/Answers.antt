use Rattle.std.proofs.Common.{◌+◌, [], ◌∷◌, ap, length, arith, length-append}
use Rattle.knit_base.specs.declared.needle.Bed.TheVariants.{Back}
use Rattle.knit_base.specs.declared.needle.Dir.TheVariants.{Right}
use Rattle.knit_maker.specs.Made.{stitch_line}
use Rattle.knit_maker.proofs.MadeLines.{mapped-next}
use Rattle.knit_maker.proofs.course.push_rightward.Goals as goal

pub loop-i-preserved : goal.loop-i-preserved
loop-i-preserved c = record {
  lines = mapped-next (stitch_line c.args.stitch Right Back) c.loop-i.i c.args.lines.now c.loop-i.lines c.push_stitch.new.lines c.loop-i.invariant.lines c.in_ok-push_stitch.ensures;
  count = omega (arith, ap length c.in_ok-push_stitch.ensures, length-append c.loop-i.lines (stitch_line c.args.stitch Right Back (c.loop-i.i + 1) ∷ []), c.loop-i.invariant.count);
}
