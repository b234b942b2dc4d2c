use Rattle.std.proofs.Common.{◌∙◌}
use Rattle.verdict_report.proofs.PassLines.{last-at}
use Rattle.verdict_report.proofs.passes.last_of.Goals as goal

pub returns-in-len1-up : goal.returns-in-len1-up
returns-in-len1-up c = c.last-item.is ∙ last-at c.args.first.now c.args.more.now c.last-item.result c.in-len1-up.len_at_least
