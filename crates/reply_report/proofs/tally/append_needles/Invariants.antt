use Rattle.std.proofs.Common.{◌≡◌, ◌++◌, take}
use Rattle.reply_report.specs.TallyText.{spaced_needles}
use Rattle.reply_report.proofs.tally.append_needles.Given as goal

abbrev pub invariant-loop-needle : goal.invariant-loop-needle
invariant-loop-needle l = l.out.items ≡ l.fn.out.items ++ spaced_needles (take l.needle-index l.needles)
