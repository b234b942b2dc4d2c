use Rattle.std.proofs.Common.{◌+◌, sym, subst, refl, arith}
use Rattle.line_cutter.specs.Cut.{StandBetween}
use Rattle.line_cutter.proofs.WholeLines.{whole_lines}
use Rattle.line_cutter.proofs.counter.ascii_lines_at.Goals as goal

pub returns : goal.returns
returns c =
    subst (λ count. StandBetween c.args.text.now c.args.start (count + 1) (c.args.start + c.in_ok-end.end + 1)) (sym c.line_feeds.ensures.counted)
    (whole_lines c.args.text.now _ _ _ c.args.start c.min.result c.in_ok-end.end refl refl (omega arith) c.in_ok-end.ensures.0.high c.in_ok-end.ensures.1 refl
    c.if-not-is_ascii.ensures.cases)
