use Rattle.std.proofs.Common.{sym}
use Rattle.std.proofs.lemmas.Bool.{true≢false}
use Rattle.std.proofs.lemmas.List.{get_or_default}
use Rattle.pass_grouping.proofs.Windows.{windows-overlap}
use Rattle.pass_grouping.proofs.certificate.are_windows.Goals as goal

pub returns-then-window-last : goal.returns-then-window-last
returns-then-window-last c = (
  λ passes. absurd (true≢false (sym passes)),
  λ stand. absurd (windows-overlap c.args.ops.now c.args.windows.now c.loop-window.window-index c.loop-window.last _ c.loop-window-test.true
      (get_or_default c.args.windows.now c.loop-window.window-index _ _ c.loop-window-test.true) c.loop-window.invariant c.if-window-last.true stand.1),
)
