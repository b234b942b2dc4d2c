use Rattle.std.proofs.Common.{[], ◌∷◌, codes, ◌+◌, ◌%◌, ap, arith, length, length-append}
use Rattle.knit_maker.specs.Made.{opening}
use Rattle.knit_maker.specs.declared.stitch.Stitch.TheVariants.{Tuck}
use Rattle.knit_maker.proofs.MadeLines.{length-course}
use Rattle.knit_maker.proofs.program.make.Goals as goal

pub append-requires : goal.append-requires
append-requires c =
    omega (arith, ap length c.in_ok-push_opening.ensures, ap length c.new-lines.ensures, length-append c.new-lines.result opening, ap length c.in_ok-course_of.ensures, length-course Tuck (4 + c.args.start % 13))

pub push_rows-requires-clause-few : goal.push_rows-requires-clause-few
push_rows-requires-clause-few c =
    omega (
      arith,
      ap length c.in_ok-append.ensures,
      length-append c.push_opening.new.lines c.in_ok-course_of.field-0,
      ap length c.in_ok-push_opening.ensures,
      ap length c.new-lines.ensures,
      length-append c.new-lines.result opening,
      ap length c.in_ok-course_of.ensures,
      length-course Tuck (4 + c.args.start % 13),
    )

pub push-requires-clause-few : goal.push-requires-clause-few
push-requires-clause-few c =
    omega (
      arith,
      c.in_ok-push_rows.ensures.few,
      ap length c.in_ok-append.ensures,
      length-append c.push_opening.new.lines c.in_ok-course_of.field-0,
      ap length c.in_ok-push_opening.ensures,
      ap length c.new-lines.ensures,
      length-append c.new-lines.result opening,
      ap length c.in_ok-course_of.ensures,
      length-course Tuck (4 + c.args.start % 13),
    )

pub returns-clause-few : goal.returns-clause-few
returns-clause-few c =
    omega (
      arith,
      ap length c.in_ok-push.ensures.ok,
      length-append c.push_rows.new.lines (codes "out 1" ∷ []),
      c.in_ok-push_rows.ensures.few,
      ap length c.in_ok-append.ensures,
      length-append c.push_opening.new.lines c.in_ok-course_of.field-0,
      ap length c.in_ok-push_opening.ensures,
      ap length c.new-lines.ensures,
      length-append c.new-lines.result opening,
      ap length c.in_ok-course_of.ensures,
      length-course Tuck (4 + c.args.start % 13),
    )
