use Rattle.line_cutter.proofs.CutLines.{cut_more}
use Rattle.line_cutter.proofs.cutter.cut_spans.Goals as goal

pub cutting-preserved : goal.cutting-preserved
cutting-preserved c = cut_more _ _ _ _ _ c.cutting.invariant c.cutting-test.true c.in_ok-found.ensures.ok c.in_ok-push.ensures.items
