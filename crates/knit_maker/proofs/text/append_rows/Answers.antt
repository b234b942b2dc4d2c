use Rattle.std.proofs.Common.{◌≡◌, ◌+◌, ◌-◌, ◌++◌, [], ap, append-nil, arith, get_or, length, sym, ◌∙◌}
use Rattle.std.proofs.lemmas.List.FromFn.{length-map-range_with_len}
use Rattle.knit_maker.specs.Made.{file_of, rows_after, transfer_line}
use Rattle.knit_maker.proofs.MadeFileTexts.{row_appended}
use Rattle.knit_maker.proofs.MadeLines.{transfer-at}
use Rattle.knit_maker.proofs.text.append_rows.Goals as goal

pub nth_line-requires : goal.nth_line-requires
nth_line-requires c =
    omega (arith, c.picked.ensures.some, c.picked.ensures.within, c.requires.some, ap length c.in_ok-transfers.ensures, length-map-range_with_len transfer_line 1 c.args.width)

pub loop-row-preserved : goal.loop-row-preserved
loop-row-preserved c =
    let line : c.nth_line.result.now ≡ transfer_line c.picked.result =
    c.nth_line.ensures.text ∙ ap (λ ls. get_or ls (c.picked.result - 1) []) c.in_ok-transfers.ensures ∙ transfer-at c.args.width c.picked.result c.picked.ensures.some c.picked.ensures.within in
    let left : c.args.rows - (c.loop-row.row + 1) ≡ c.args.rows - c.loop-row.row - 1 = omega arith in
    record {
      text = ap (λ n. c.append_line.new.text.items ++ file_of (rows_after c.args.width c.drawn_after-drawn.result n)) left
          ∙ row_appended c.args.width c.loop-row.drawn c.drawn_after-drawn.result (c.args.rows - c.loop-row.row) c.loop-row.text.items c.in_ok-round.round.items c.extend_from_slice.new.self.items
          c.append_line.new.text.items _ c.nth_line.result.now (omega (arith, c.loop-row-test.true)) c.drawn_after-drawn.ensures.value
          (c.in_ok-round.ensures ∙ ap file_of c.in_ok-course_of.ensures)
          (c.in_ok-extend_from_slice.ensures.items ∙ ap (λ t. c.loop-row.text.items ++ t) c.deref.ensures.value)
          (line ∙ ap transfer_line c.picked.ensures.value) c.in_ok-append_line.ensures c.loop-row.invariant.text;
      drawn = c.drawn_after-drawn.ensures.small;
    }

pub returns : goal.returns
returns c =
    let none : c.args.rows - c.loop-row.row ≡ 0 = omega (arith, c.loop-row-test.false) in
    sym (append-nil c.loop-row.text.items) ∙ ap (λ n. c.loop-row.text.items ++ file_of (rows_after c.args.width c.loop-row.drawn n)) (sym none) ∙ c.loop-row.invariant.text
