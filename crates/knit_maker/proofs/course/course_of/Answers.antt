use Rattle.std.proofs.Common.{ap, arith, length, length-append}
use Rattle.knit_maker.specs.Made.{leftward}
use Rattle.knit_maker.proofs.MadeLines.{length-leftward}
use Rattle.knit_maker.proofs.course.course_of.Goals as goal

pub push_rightward-requires-clause-few : goal.push_rightward-requires-clause-few
push_rightward-requires-clause-few c =
    omega (arith, ap length c.in_ok-push_leftward.ensures, ap length c.new-lines.ensures, length-append c.new-lines.result (leftward c.args.stitch c.args.width), length-leftward c.args.stitch c.args.width)
