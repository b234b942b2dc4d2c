use Rattle.std.proofs.Common.{◌≡◌, ◌+◌, ◌-◌, [], ◌∷◌, ap, arith, length, length-append, get_or, ◌++◌, ◌∙◌}
use Rattle.std.proofs.lemmas.List.FromFn.{length-map-range_with_len}
use Rattle.knit_maker.specs.Made.{rows_after, transfer_line}
use Rattle.knit_maker.specs.declared.stitch.Stitch.TheVariants.{Knit}
use Rattle.knit_maker.proofs.MadeLines.{length-course, rows-next, transfer-at}
use Rattle.knit_maker.proofs.program.push_rows.Goals as goal

pub append-requires : goal.append-requires
append-requires c = omega (arith, c.loop-row.invariant.few, ap length c.in_ok-round.ensures, length-course Knit c.args.width)

pub nth_line-requires : goal.nth_line-requires
nth_line-requires c = omega (arith, ap length c.in_ok-transfers.ensures, length-map-range_with_len transfer_line 1 c.args.width)

pub push-requires-clause-few : goal.push-requires-clause-few
push-requires-clause-few c =
    omega (arith, c.loop-row.invariant.few, ap length c.in_ok-append.ensures, length-append c.loop-row.lines c.in_ok-round.round, ap length c.in_ok-round.ensures, length-course Knit c.args.width)

pub loop-row-preserved : goal.loop-row-preserved
loop-row-preserved c =
    let line : c.nth_line.result.now ≡ transfer_line c.picked.result =
    c.nth_line.ensures.text ∙ ap (λ ls. get_or ls (c.picked.result - 1) []) c.in_ok-transfers.ensures ∙ transfer-at c.args.width c.picked.result c.picked.ensures.some c.picked.ensures.within in
    let left : c.args.rows - (c.loop-row.row + 1) ≡ c.args.rows - c.loop-row.row - 1 = omega arith in
    record {
      lines = ap (λ n. c.push.new.self ++ rows_after c.args.width c.drawn_after-drawn.result n) left
          ∙ rows-next c.args.width c.loop-row.drawn c.drawn_after-drawn.result (c.args.rows - c.loop-row.row) c.loop-row.lines c.in_ok-round.round c.append.new.lines c.push.new.self _
          c.nth_line.result.now (omega arith) c.drawn_after-drawn.ensures.value c.in_ok-round.ensures c.in_ok-append.ensures
          (line ∙ ap transfer_line c.picked.ensures.value) c.in_ok-push.ensures.ok c.loop-row.invariant.lines;
      few = omega (
        arith,
        c.loop-row.invariant.few,
        ap length c.in_ok-push.ensures.ok,
        length-append c.append.new.lines (c.nth_line.result.now ∷ []),
        ap length c.in_ok-append.ensures,
        length-append c.loop-row.lines c.in_ok-round.round,
        ap length c.in_ok-round.ensures,
        length-course Knit c.args.width,
      );
      drawn = c.drawn_after-drawn.ensures.small;
    }
