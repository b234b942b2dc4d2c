use Rattle.std.proofs.Common.{◌+◌, ◌%◌, ◌++◌, ap, arith, length, length-append, ◌∙◌}
use Rattle.knit_maker.specs.Made.{opening}
use Rattle.knit_maker.specs.declared.stitch.Stitch.TheVariants.{Tuck}
use Rattle.knit_maker.proofs.MadeFileTexts.{program_appended}
use Rattle.knit_maker.proofs.MadeLines.{length-course}
use Rattle.knit_maker.proofs.text.make_text.Goals as goal

pub append-requires : goal.append-requires
append-requires c =
    omega (arith, ap length c.in_ok-push_opening.ensures, ap length c.new-lines.ensures, length-append c.new-lines.result opening, ap length c.in_ok-course_of.ensures, length-course Tuck (4 + c.args.start % 13))

pub returns : goal.returns
returns c =
    program_appended c.args.rows c.args.start c.push_opening.new.lines c.append-2.new.lines c.in_ok-text.text.items c.append_rows.new.text.items c.extend_from_slice.new.self.items
    (c.in_ok-push_opening.ensures ∙ ap (λ ls. ls ++ opening) c.new-lines.ensures) (c.in_ok-append.ensures ∙ ap (λ ls. c.push_opening.new.lines ++ ls) c.in_ok-course_of.ensures)
    c.in_ok-text.ensures c.in_ok-append_rows.ensures c.in_ok-extend_from_slice.ensures.items
